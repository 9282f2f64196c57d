-- The labels so far.
use Rattle.std.proofs.Common.{◌≡◌, take}
use Rattle.std.specs.Prelude.{flat_map}
use Rattle.sound_check.proofs.statement.labels_of.Given as goal

abbrev pub invariant-loop-group : goal.invariant-loop-group
invariant-loop-group l = l.labels.items ≡ flat_map (λ group. group.labels) (take l.group-index l.groups)
