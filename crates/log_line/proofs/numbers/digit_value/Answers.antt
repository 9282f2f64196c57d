-- The table has each digit.
use Rattle.std.proofs.Common.{arith}
use Rattle.log_line.proofs.ByteTables.{entry, digit_found, no_digit}
use Rattle.log_line.proofs.numbers.digit_value.Goals as goal

pub returns-then-value-lt16-clause-found : goal.returns-then-value-lt16-clause-found
returns-then-value-lt16-clause-found c =
    digit_found c.args.byte _ (entry c.args.byte c.from.result c.from.ensures (omega (arith, c.ranges.byte.fits))) c.if-value-lt16.true

pub returns-else-value-lt16-clause-found : goal.returns-else-value-lt16-clause-found
returns-else-value-lt16-clause-found c = λ value is.
    no_digit c.args.byte _ (entry c.args.byte c.from.result c.from.ensures (omega (arith, c.ranges.byte.fits))) c.if-value-lt16.false is.0
