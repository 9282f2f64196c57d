-- The number is that of the digits so far.
use Rattle.std.proofs.Common.{◌≡◌, ◌<◌, ◌^◌, take}
use Rattle.text_parts.specs.Number.{number_in}
use Rattle.text_parts.proofs.number.number_in_base.Given as goal

abbrev pub invariant-loop-digit : goal.invariant-loop-digit
invariant-loop-digit l = record {
  is_number : l.number ≡ number_in l.base (take l.digit-index l.digits);
  fits : l.number < 2 ^ 64;
}
