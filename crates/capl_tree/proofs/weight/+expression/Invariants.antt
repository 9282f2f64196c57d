-- The weight is that of the expressions so far.
use Rattle.std.proofs.Common.{◌≡◌, take}
use Rattle.std.specs.List.{sum_by}
use Rattle.capl_tree.specs.Weight.{saturated, expression_weight}
use Rattle.capl_tree.proofs.weight.+expression.Given as goal

abbrev pub invariant-expressions_weight-loop-e : goal.invariant-expressions_weight-loop-e
invariant-expressions_weight-loop-e l = l.weight ≡ saturated (sum_by expression_weight (take l.e-index l.all))
