-- The weight is that of what was met so far.
use Rattle.std.proofs.Common.{◌≡◌, take}
use Rattle.std.specs.List.{sum_by}
use Rattle.capl_tree.specs.Weight.{saturated, statement_weight}
use Rattle.capl_tree.specs.Inside.Weight.{arm_weight, group_weight}
use Rattle.capl_tree.proofs.weight.+statement.Given as goal

abbrev pub invariant-statements_weight-loop-statement : goal.invariant-statements_weight-loop-statement
invariant-statements_weight-loop-statement l =
    l.weight ≡ saturated (sum_by statement_weight (take l.statement-index l.statements))

abbrev pub invariant-groups_weight-loop-group : goal.invariant-groups_weight-loop-group
invariant-groups_weight-loop-group l = l.weight ≡ saturated (sum_by group_weight (take l.group-index l.groups))

abbrev pub invariant-if_weight-loop-arm : goal.invariant-if_weight-loop-arm
invariant-if_weight-loop-arm l = l.weight ≡ saturated (sum_by arm_weight (take l.arm-index l.arms))
