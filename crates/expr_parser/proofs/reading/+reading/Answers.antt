-- A turn of a loop, and a depth above 0.
use Rattle.std.proofs.Common.{rules, arith, Err, sym, ◌∙◌}
use Rattle.std.proofs.lemmas.Grind.{common_steps}
use Rattle.expr_parser.specs.Reading.{Gives, items_from}
use Rattle.expr_parser.specs.Expression as read
use Rattle.expr_parser.proofs.Turns.{one_more, deeper, one_item, one_operator, operator_refused}
use Rattle.expr_parser.proofs.reading.+reading.Goals as goal

pub climb-returns-in_err-left : goal.climb-returns-in_err-left
climb-returns-in_err-left t c =
    let inner = read.expression c.args.total c.args.depth in
    let e = one_more (λ n. read.climb c.args.total inner c.args.least n c.loop-turn.left c.loop-turn.cursor) c.len-turn-end.result c.loop-turn._turn c.loop-turn-test.true c.loop-turn.invariant in
    let refused : Gives (read.climbs c.args.total inner c.args.least c.args.first c.args.cursor.now) (Err c.in_err-left.field-0.0) c.operated.new.cursor =
    operator_refused _ c.args.total inner c.args.least _ c.binding.result c.loop-turn.left c.operator-operator.result c.in_err-left.field-0.0 c.loop-turn.cursor c.skip.new.self c.operated.new.cursor c.operated.new.cursor
    e c.operator-operator.ensures c.binding.ensures c.if-binding-least.false c.skip.ensures c.in_err-left.ensures in
    first_of (search rules, grind (arith, common_steps))

pub climb-loop-turn-preserved : goal.climb-loop-turn-preserved
climb-loop-turn-preserved t c =
    let inner = read.expression c.args.total c.args.depth in
    let e = one_more (λ n. read.climb c.args.total inner c.args.least n c.loop-turn.left c.loop-turn.cursor) c.len-turn-end.result c.loop-turn._turn c.loop-turn-test.true c.loop-turn.invariant in
    one_operator _ c.args.total inner c.args.least _ c.binding.result c.loop-turn.left c.in_ok-left.left c.operator-operator.result c.loop-turn.cursor c.skip.new.self c.operated.new.cursor
    e c.operator-operator.ensures c.binding.ensures c.if-binding-least.false c.skip.ensures c.in_ok-left.ensures

pub listed-loop-turn-preserved : goal.listed-loop-turn-preserved
listed-loop-turn-preserved t c =
    let one = read.expression c.args.total c.args.depth 1 in
    let e = one_more (λ n. items_from one n c.loop-turn.found.items c.loop-turn.cursor) c.len-turn-end.result c.loop-turn._turn c.loop-turn-test.true c.loop-turn.invariant in
    one_item _ one _ c.loop-turn.found.items c.push.new.self.items c.in_ok-read_expression.field-0 c.loop-turn.cursor c.read_expression.new.cursor c.eat.new.self
    e c.in_ok-read_expression.ensures (sym c.eat.ensures.seen ∙ c.if-not-eat.false) c.in_ok-push.ensures.items (search rules)

pub read_expression-returns : goal.read_expression-returns
unfolding read.expression
read_expression-returns t c =
    rw (deeper (λ n. read.expression c.args.total n c.args.least c.args.cursor.now) c.args.depth (omega arith), c.in_ok-first.ensures) c.climb.ensures
