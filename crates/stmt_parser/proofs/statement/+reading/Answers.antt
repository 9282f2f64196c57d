-- A turn of a loop, and a depth above 0.
use Rattle.std.proofs.Common.{rules, arith, sym, ◌∙◌}
use Rattle.expr_parser.specs.Reading.{begins}
use Rattle.capl_lexer.specs.declared.token.Sign.TheVariants as sign
use Rattle.parser_laws.specs.Statement as read
use Rattle.parser_laws.specs.Statement.{parts_of, until}
use Rattle.expr_parser.proofs.Turns.{one_more, deeper}
use Rattle.stmt_parser.proofs.Turns.{one_part, one_arm, last_arm}
use Rattle.stmt_parser.proofs.statement.+reading.Goals as goal

pub body-loop-turn-preserved : goal.body-loop-turn-preserved
body-loop-turn-preserved t c =
    let one = read.body_part (parts_of c.args.total) (read.statement (parts_of c.args.total) c.args.depth) in
    let e = one_more (λ n. until read.ends_body one n c.loop-turn.found.items c.loop-turn.cursor) c.len-turn-end.result c.loop-turn._turn c.loop-turn-test.true c.loop-turn.invariant in
    one_part _ read.ends_body one _ c.loop-turn.found.items c.push.new.self.items c.in_ok-body_part.field-0 c.loop-turn.cursor c.body_part.new.cursor
    e (sym c.ends_body.ensures ∙ c.if-ends_body.false) c.in_ok-body_part.ensures c.in_ok-push.ensures.items

pub groups-loop-turn-preserved : goal.groups-loop-turn-preserved
groups-loop-turn-preserved t c =
    let one = read.group (parts_of c.args.total) (read.statement (parts_of c.args.total) c.args.depth) in
    let e = one_more (λ n. until (begins sign.CloseBrace) one n c.loop-turn.found.items c.loop-turn.cursor) c.len-turn-end.result c.loop-turn._turn c.loop-turn-test.true c.loop-turn.invariant in
    one_part _ (begins sign.CloseBrace) one _ c.loop-turn.found.items c.push.new.self.items c.in_ok-group.field-0 c.loop-turn.cursor c.group.new.cursor
    e (sym c.is_at.ensures ∙ c.if-is_at.false) c.in_ok-group.ensures c.in_ok-push.ensures.items

pub choice-loop-turn-preserved : goal.choice-loop-turn-preserved
choice-loop-turn-preserved t c =
    let parts = parts_of c.args.total in
    let inner = read.statement parts c.args.depth in
    let e = one_more (λ n. read.arms_from parts inner n c.loop-turn.arms.items c.loop-turn.cursor) c.len-turn-end.result c.loop-turn._turn c.loop-turn-test.true c.loop-turn.invariant in
    one_arm _ parts inner _ c.loop-turn.arms.items c.push.new.self.items c.in_ok-arm.field-0 c.loop-turn.cursor c.arm.new.cursor c.eat_word.new.self c.eat_word-in-loop-turn.new.self
    e c.in_ok-arm.ensures c.in_ok-push.ensures.items (search rules) (search rules) (search rules) (search rules)

pub choice-returns-then-not-eat_word-2 : goal.choice-returns-then-not-eat_word-2
choice-returns-then-not-eat_word-2 t c =
    let parts = parts_of c.args.total in
    let inner = read.statement parts c.args.depth in
    let e = one_more (λ n. read.arms_from parts inner n c.loop-turn.arms.items c.loop-turn.cursor) c.len-turn-end.result c.loop-turn._turn c.loop-turn-test.true c.loop-turn.invariant in
    last_arm _ parts inner _ c.loop-turn.arms.items c.from_list-then-not-eat_word-2.result c.in_ok-arm.field-0 c.in_ok-other.other c.loop-turn.cursor c.arm.new.cursor c.eat_word-in-loop-turn.new.self c.nested.new.cursor
    e c.in_ok-arm.ensures (c.from_list-then-not-eat_word-2.ensures ∙ c.in_ok-push.ensures.items) (search rules) (search rules) (search rules) c.in_ok-other.ensures

pub read_statement-returns : goal.read_statement-returns
unfolding read.statement
read_statement-returns t c =
    rw (deeper (λ n. read.statement (parts_of c.args.total) n c.args.cursor.now) c.args.depth (omega arith)) c.statement_by.ensures
