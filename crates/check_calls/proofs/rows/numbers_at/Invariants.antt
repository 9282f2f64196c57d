-- The numbers are those at the places so far.
use Rattle.std.proofs.Common.{◌≡◌, take}
use Rattle.std.specs.Prelude.{map, slice_index}
use Rattle.check_calls.proofs.rows.numbers_at.Given as goal

abbrev pub invariant-loop-place : goal.invariant-loop-place
invariant-loop-place l = l.taken.items ≡ map (slice_index l.numbers) (take l.place-index l.places)
