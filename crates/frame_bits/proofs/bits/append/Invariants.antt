-- The bits of the field down to a place are appended.
use Rattle.std.proofs.Common.{◌≡◌, ◌-◌, ◌/◌, ◌^◌, ◌++◌}
use Rattle.can_frame.specs.Frame.{field_bits}
use Rattle.frame_bits.proofs.bits.append.Given as goal

abbrev pub invariant-loop-place : goal.invariant-loop-place
invariant-loop-place l = l.bits.items ≡ l.initial.bits.items ++ field_bits (l.field.width - l.place) (l.field.number / 2 ^ l.place)
