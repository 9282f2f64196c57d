-- The walk has gone over the nibbles down to a place.
use Rattle.std.proofs.Common.{◌+◌, ◌-◌, ◌*◌, ◌/◌, ◌^◌, ◌≤◌, Bool, List, ◌++◌}
use Rattle.can_frame.specs.Frame.{field_bits}
use Rattle.frame_bits.specs.Inside.Walk.{HasWalked}
use Rattle.frame_bits.proofs.walk.Walk.push_nibbles.Given as goal

abbrev pub invariant-loop-place : goal.invariant-loop-place
invariant-loop-place l = record {
  walked : (bits : List Bool) → HasWalked l.initial.self bits → HasWalked l.self (bits ++ field_bits (4 * (l.nibbles - l.place)) (l.number / 2 ^ (4 * l.place)));
  counted : l.self.stuffing.count ≤ l.initial.self.stuffing.count + 8 * (l.nibbles - l.place);
}
