-- The bytes that were passed are flags.
use Rattle.std.proofs.Common.{◌≡◌, ℕ, ◌<◌, true, get_or}
use Rattle.write_format.specs.Reading.{is_flag}
use Rattle.write_format.proofs.code.flag_count.Given as goal

abbrev pub invariant-loop-place : goal.invariant-loop-place
invariant-loop-place l = (k : ℕ) → k < l.place → is_flag (get_or l.bytes k 0) ≡ true
