-- What operators make of numbers (CAPL manual, operators).
use Rattle.std.specs.Prelude.{not, pos, ℤ}
use Rattle.std.specs.Ordering.{int_eq}
use Rattle.int_kinds.specs.declared.kinds.Kind.{Kind}
use Rattle.int_kinds.specs.declared.operators.UnOp.{UnOp}
use Rattle.int_kinds.specs.declared.operators.UnOp.TheVariants as prefix
use Rattle.int_kinds.specs.Arithmetic.{inverted, negated, truth}
use Rattle.int_kinds.specs.Kind.{wrap}

-- 1 for every number but 0
abbrev pub truth_of : ℤ → ℤ
truth_of n = truth (not (int_eq n (pos 0)))

-- the value of a prefix operator in a kind; `++` and `--` are none
abbrev pub prefix_value : UnOp → Kind → ℤ → ℤ
prefix_value prefix.Minus k n = negated k n
prefix_value prefix.Plus k n = wrap k n
prefix_value prefix.Not k n = truth (int_eq n (pos 0))
prefix_value prefix.Inv k n = inverted k n
prefix_value _ k n = n
