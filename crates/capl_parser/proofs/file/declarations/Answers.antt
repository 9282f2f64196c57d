-- A turn of the loop.
use Rattle.std.proofs.Common.{sym, ◌∙◌}
use Rattle.expr_parser.specs.Reading.{begins}
use Rattle.capl_lexer.specs.declared.token.Sign.TheVariants as sign
use Rattle.parser_laws.specs.Statement.{parts_of, until}
use Rattle.expr_parser.proofs.Turns.{one_more}
use Rattle.stmt_parser.proofs.Turns.{one_part}
use Rattle.capl_parser.proofs.file.declarations.Goals as goal

pub loop-turn-preserved : goal.loop-turn-preserved
loop-turn-preserved c =
    let ends = begins sign.CloseBrace in
    let one = (parts_of c.args.total).declared in
    let e = one_more (λ n. until ends one n c.loop-turn.found.items c.loop-turn.cursor) c.len-turn-end.result c.loop-turn._turn c.loop-turn-test.true c.loop-turn.invariant in
    one_part _ ends one _ c.loop-turn.found.items c.push.new.self.items c.in_ok-read_declared.field-0 c.loop-turn.cursor c.read_declared.new.cursor
    e (sym c.is_at.ensures ∙ c.if-is_at.false) c.in_ok-read_declared.ensures c.in_ok-push.ensures.items
