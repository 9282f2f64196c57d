-- The walk has gone over the bits of the field down to a place.
use Rattle.std.proofs.Common.{◌+◌, ◌-◌, ◌*◌, ◌/◌, ◌^◌, ◌≤◌, Bool, List, ◌++◌}
use Rattle.can_frame.specs.Frame.{field_bits}
use Rattle.frame_bits.specs.Inside.Walk.{HasWalked}
use Rattle.frame_bits.proofs.walk.Walk.push_bits.Given as goal

abbrev pub invariant-loop-place : goal.invariant-loop-place
invariant-loop-place l = record {
  walked : (bits : List Bool) → HasWalked l.initial.self bits → HasWalked l.self (bits ++ field_bits (l.field.width - l.place) (l.field.number / 2 ^ l.place));
  counted : l.self.stuffing.count ≤ l.initial.self.stuffing.count + 2 * (l.field.width - l.place);
}
