-- A turn of the loop.
use Rattle.std.proofs.Common.{sym, ◌∙◌}
use Rattle.expr_parser.specs.Reading.{begins}
use Rattle.capl_lexer.specs.declared.token.Sign.TheVariants as sign
use Rattle.parser_laws.specs.File as read
use Rattle.parser_laws.specs.Statement.{until}
use Rattle.expr_parser.proofs.Turns.{one_more}
use Rattle.stmt_parser.proofs.Turns.{one_part}
use Rattle.capl_parser.proofs.file.names.Goals as goal

pub loop-turn-preserved : goal.loop-turn-preserved
loop-turn-preserved c =
    let ends = begins sign.CloseBrace in
    let e = one_more (λ n. until ends read.included n c.loop-turn.found.items c.loop-turn.cursor) c.len-turn-end.result c.loop-turn._turn c.loop-turn-test.true c.loop-turn.invariant in
    one_part _ ends read.included _ c.loop-turn.found.items c.push.new.self.items c.in_ok-included.field-0 c.loop-turn.cursor c.included.new.cursor
    e (sym c.is_at.ensures ∙ c.if-is_at.false) c.in_ok-included.ensures c.in_ok-push.ensures.items
