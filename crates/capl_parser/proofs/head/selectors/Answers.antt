-- A turn of the loop.
use Rattle.std.proofs.Common.{rules, sym, ◌∙◌}
use Rattle.expr_parser.specs.Reading.{items_from}
use Rattle.expr_parser.proofs.Turns.{one_more, one_item}
use Rattle.parser_laws.specs.File as read
use Rattle.capl_parser.proofs.head.selectors.Goals as goal

pub loop-turn-preserved : goal.loop-turn-preserved
loop-turn-preserved c =
    let one = read.selector c.args.total in
    let e = one_more (λ n. items_from one n c.loop-turn.found.items c.loop-turn.cursor) c.len-turn-end.result c.loop-turn._turn c.loop-turn-test.true c.loop-turn.invariant in
    one_item _ one _ c.loop-turn.found.items c.push.new.self.items c.in_ok-selector.field-0 c.loop-turn.cursor c.selector.new.cursor c.eat.new.self
    e c.in_ok-selector.ensures (sym c.eat.ensures.seen ∙ c.if-not-eat.false) c.in_ok-push.ensures.items (search rules)
