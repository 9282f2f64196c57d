-- What was added is of the statements, arms and groups so far.
use Rattle.std.proofs.Common.{take}
use Rattle.check_calls.specs.Callees.{calls_of_all}
use Rattle.check_calls.specs.Inside.Added.{AreAdded, calls_of_cases, calls_of_list}
use Rattle.check_calls.proofs.statement.+calls.Given as goal

abbrev pub invariant-add_calls_of_all-loop-statement : goal.invariant-add_calls_of_all-loop-statement
invariant-add_calls_of_all-loop-statement l =
    AreAdded l.names l.into.items l.fn.into.items (calls_of_all (take l.statement-index l.statements))

abbrev pub invariant-add_calls_of_arms-loop-arm : goal.invariant-add_calls_of_arms-loop-arm
invariant-add_calls_of_arms-loop-arm l =
    AreAdded l.names l.into.items l.fn.into.items (calls_of_list (take l.arm-index l.arms))

abbrev pub invariant-add_calls_of_groups-loop-group : goal.invariant-add_calls_of_groups-loop-group
invariant-add_calls_of_groups-loop-group l =
    AreAdded l.names l.into.items l.fn.into.items (calls_of_cases (take l.group-index l.groups))
