-- What was gathered and what is left are the declarations in all.
use Rattle.std.proofs.Common.{◌≡◌, ◌++◌, drop}
use Rattle.check_names.specs.Variable.{in_all, in_arms, in_groups, lent}
use Rattle.check_names.proofs.declaration.+statement.Given as goal

abbrev pub invariant-gather_all-loop-statement : goal.invariant-gather_all-loop-statement
invariant-gather_all-loop-statement l =
    lent l.into.items ++ in_all (drop l.statement-index l.statements)
    ≡ lent l.fn.into.items ++ in_all l.statements

abbrev pub invariant-gather_in_arms-loop-arm : goal.invariant-gather_in_arms-loop-arm
invariant-gather_in_arms-loop-arm l =
    lent l.into.items ++ in_arms (drop l.arm-index l.arms) ≡ lent l.fn.into.items ++ in_arms l.arms

abbrev pub invariant-gather_in_groups-loop-group : goal.invariant-gather_in_groups-loop-group
invariant-gather_in_groups-loop-group l =
    lent l.into.items ++ in_groups (drop l.group-index l.groups)
    ≡ lent l.fn.into.items ++ in_groups l.groups
