-- The first turn of the loop, and a turn of it.
use Rattle.std.proofs.Common.{arith, ◌≡◌, suc, ◌+◌, ◌-◌, length, refl}
use Rattle.parser_laws.specs.File as read
use Rattle.parser_laws.specs.Statement.{parts_of, until}
use Rattle.expr_parser.proofs.Turns.{one_more}
use Rattle.stmt_parser.proofs.Turns.{one_part}
use Rattle.capl_parser.proofs.Ends.{no_end}
use Rattle.capl_parser.proofs.file.read_file.Goals as goal

pub loop-turn-init : goal.loop-turn-init
unfolding read.file
loop-turn-init c =
    let turns : c.len-turn-end.result + 1 - 0 ≡ suc (length c.args.cursor.now) = omega (arith, c.len-turn-end.ensures) in
    rw (turns, c.new-found.ensures.items) refl

pub loop-turn-preserved : goal.loop-turn-preserved
loop-turn-preserved c =
    let one = read.top_item (parts_of c.args.total) in
    let e = one_more (λ n. until read.is_end one n c.loop-turn.found.items c.loop-turn.cursor) (c.len-turn-end.result + 1) c.loop-turn._turn c.loop-turn-test.true c.loop-turn.invariant in
    one_part _ read.is_end one _ c.loop-turn.found.items c.push.new.self.items c.in_ok-top_item.field-0 c.loop-turn.cursor c.top_item.new.cursor
    e (no_end c.len.result c.loop-turn.cursor c.len.ensures c.if-len-eq0.false) c.in_ok-top_item.ensures c.in_ok-push.ensures.items
