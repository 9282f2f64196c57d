-- What stands between two nodes.
use Rattle.std.proofs.Common.{◌≡◌}
use Rattle.std.specs.Prelude.{map}
use Rattle.sim_gen.specs.Generated.{source, numbers_to}
use Rattle.sim_gen.proofs.generated.sources.Given as goal

-- the list has the sources of the nodes that were passed
abbrev pub invariant-loop-index : goal.invariant-loop-index
invariant-loop-index l = l.sources.items ≡ map source (numbers_to l.index)
