-- All are sound where those that are left are.
use Rattle.std.proofs.Common.{◌↔◌, drop}
use Rattle.std.specs.List.{AllByRecursion}
use Rattle.typed_tree.specs.SoundStatement.{IsSoundStmt}
use Rattle.sound_check.specs.Around.{around_of}
use Rattle.sound_check.specs.Rows.{IsSoundArm, IsSoundGroup}
use Rattle.sound_check.proofs.statement.+statement.Given as goal

abbrev pub invariant-are_sound_stmts-loop-s : goal.invariant-are_sound_stmts-loop-s
invariant-are_sound_stmts-loop-s l =
    AllByRecursion (IsSoundStmt l.typed (around_of l.around)) (drop l.s-index l.all) ↔
    AllByRecursion (IsSoundStmt l.typed (around_of l.around)) l.all

abbrev pub invariant-are_sound_arms-loop-arm : goal.invariant-are_sound_arms-loop-arm
invariant-are_sound_arms-loop-arm l =
    AllByRecursion (IsSoundArm l.typed (around_of l.around)) (drop l.arm-index l.arms) ↔
    AllByRecursion (IsSoundArm l.typed (around_of l.around)) l.arms

abbrev pub invariant-are_sound_groups-loop-group : goal.invariant-are_sound_groups-loop-group
invariant-are_sound_groups-loop-group l =
    AllByRecursion (IsSoundGroup l.typed (around_of l.around)) (drop l.group-index l.groups) ↔
    AllByRecursion (IsSoundGroup l.typed (around_of l.around)) l.groups
