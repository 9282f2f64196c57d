-- A turn of the loop.
use Rattle.std.proofs.Common.{rules, List, not}
use Rattle.capl_lexer.specs.declared.token.Tok.{Tok}
use Rattle.parser_laws.specs.Statement as read
use Rattle.parser_laws.specs.Statement.{parts_of, until}
use Rattle.expr_parser.proofs.Turns.{one_more}
use Rattle.stmt_parser.proofs.Turns.{one_part}
use Rattle.stmt_parser.proofs.part.labels.Goals as goal

pub loop-turn-preserved : goal.loop-turn-preserved
loop-turn-preserved c =
    let one = read.label (parts_of c.args.total) in
    let ends = λ (ts : List Tok). not (read.begins_label ts) in
    let e = one_more (λ n. until ends one n c.loop-turn.found.items c.loop-turn.cursor) c.len-most.result c.loop-turn._turn c.loop-turn-test.true c.loop-turn.invariant in
    one_part _ ends one _ c.loop-turn.found.items c.push-in-loop-turn.new.self.items c.in_ok-label-2.field-0 c.loop-turn.cursor c.label-in-loop-turn.new.cursor
    e (search rules) c.in_ok-label-2.ensures c.in_ok-push-2.ensures.items
