-- The picks so far stand before those of the values that are left.
use Rattle.std.proofs.Common.{◌≡◌, ◌++◌, map, drop}
use Rattle.std.specs.Option.{option_map}
use Rattle.scenario.specs.Item.{picks_of}
use Rattle.scenario.proofs.value.picks_of.Given as goal

abbrev pub invariant-loop-value : goal.invariant-loop-value
invariant-loop-value l =
    picks_of (map (λ value. value.now) l.values)
    ≡ option_map (λ picks. l.picks.items ++ picks) (picks_of (map (λ value. value.now) (drop l.value-index l.values)))
