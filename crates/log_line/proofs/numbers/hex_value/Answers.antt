-- The table has each digit.
use Rattle.std.proofs.Common.{◌≤◌, ◌∙◌, sym, subst, arith}
use Rattle.log_line.proofs.ByteTables.{entry, digit_is, digit_at_most}
use Rattle.log_line.proofs.numbers.hex_value.Goals as goal

pub returns-clause-value : goal.returns-clause-value
returns-clause-value c =
    entry c.args.digit c.from.result c.from.ensures (omega (arith, c.ranges.digit.fits)) ∙ digit_is c.args.digit c.requires

pub returns-clause-in_range : goal.returns-clause-in_range
returns-clause-in_range c =
    subst (λ n. n ≤ 15) (sym (entry c.args.digit c.from.result c.from.ensures (omega (arith, c.ranges.digit.fits)) ∙ digit_is c.args.digit c.requires))
    (digit_at_most c.args.digit c.requires)
