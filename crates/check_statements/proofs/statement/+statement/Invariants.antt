-- What was noted and what is left are the offences of all.
use Rattle.std.proofs.Common.{◌≡◌, drop}
use Rattle.std.specs.Prelude.{flat_map}
use Rattle.check_names.specs.First.{noted}
use Rattle.check_statements.specs.Site.{place_of}
use Rattle.check_statements.specs.Statement.{all_offences, arm_offences, around_in, group_offences}
use Rattle.check_statements.proofs.statement.+statement.Given as goal

abbrev pub invariant-judge_all-loop-statement : goal.invariant-judge_all-loop-statement
invariant-judge_all-loop-statement l =
    noted l.first (all_offences (place_of l.site) (around_in l.around) (drop l.statement-index l.statements))
    ≡ noted l.fn.first (all_offences (place_of l.site) (around_in l.around) l.statements)

abbrev pub invariant-judge_arms-loop-arm : goal.invariant-judge_arms-loop-arm
invariant-judge_arms-loop-arm l =
    noted l.first (flat_map (arm_offences (place_of l.site) (around_in l.around)) (drop l.arm-index l.arms))
    ≡ noted l.fn.first (flat_map (arm_offences (place_of l.site) (around_in l.around)) l.arms)

abbrev pub invariant-judge_groups-loop-group : goal.invariant-judge_groups-loop-group
invariant-judge_groups-loop-group l =
    noted l.first (flat_map (group_offences (place_of l.site) (around_in l.around)) (drop l.group-index l.groups))
    ≡ noted l.fn.first (flat_map (group_offences (place_of l.site) (around_in l.around)) l.groups)
