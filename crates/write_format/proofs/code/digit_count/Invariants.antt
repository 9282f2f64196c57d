-- The bytes that were passed are digits.
use Rattle.std.proofs.Common.{◌≡◌, ℕ, ◌<◌, true, get_or}
use Rattle.text_parts.specs.Number.{is_digit}
use Rattle.write_format.proofs.code.digit_count.Given as goal

abbrev pub invariant-loop-place : goal.invariant-loop-place
invariant-loop-place l = (k : ℕ) → k < l.place → is_digit (get_or l.bytes k 0) ≡ true
