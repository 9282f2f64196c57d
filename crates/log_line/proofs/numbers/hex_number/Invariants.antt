-- The number of the digits so far.
use Rattle.std.specs.Prelude.{All}
use Rattle.std.proofs.Common.{◌≡◌, take}
use Rattle.text_parts.specs.Number.{IsHexDigit, number_in}
use Rattle.log_line.proofs.numbers.hex_number.Given as goal

abbrev pub invariant-loop-digit : goal.invariant-loop-digit
invariant-loop-digit l = record {
  hexadecimal : All IsHexDigit (take l.digit-index l.digits);
  is : l.number ≡ number_in 16 (take l.digit-index l.digits);
}
