-- A layout is usable where from its start on there is room for its bits.
use Rattle.std.proofs.Common.{◌+◌, ◌-◌, arith}
use Rattle.signal_codec.specs.Signal.{IsUsable}
use Rattle.signal_codec.proofs.Places.{answers, start-lt, room_of_big, room_of_little, usable_big, usable_little}
use Rattle.signal_codec.proofs.layout.usable.Goals as goal
use Rattle.signal_codec.proofs.layout.usable.Goals.{then-l-ge64-via-then-l-ge64, then-l-ge64-via-else-l-ge64+then-l-eq0}

pub returns-then-l-ge64 : goal.returns-then-l-ge64
returns-then-l-ge64 c =
    elim c.then-l-ge64.branch [
      | then-l-ge64-via-then-l-ge64 w ↦ (λ t. cc, λ u. absurd (omega (arith, start-lt c.args.l.now u, w.if-l-ge64.true)))
      | then-l-ge64-via-else-l-ge64+then-l-eq0 w ↦ (λ t. cc, λ u. absurd (omega (arith, u.at_least_one, w.if-l-eq0.true)))
    ]

pub returns-then-l : goal.returns-then-l
returns-then-l c =
    answers c.args.l.now.len (c.place.result + 1) (IsUsable c.args.l.now)
    (λ fits. usable_big c.args.l.now c.if-l.true c.if-l-ge64.false (omega arith) (omega arith))
    (λ u. omega (arith, room_of_big c.args.l.now u c.if-l.true))

pub returns-else-l : goal.returns-else-l
returns-else-l c =
    answers c.args.l.now.len (64 - c.args.l.now.start) (IsUsable c.args.l.now)
    (λ fits. usable_little c.args.l.now c.if-l.false c.if-l-ge64.false (omega arith) fits)
    (λ u. omega (arith, room_of_little c.args.l.now u c.if-l.false))
