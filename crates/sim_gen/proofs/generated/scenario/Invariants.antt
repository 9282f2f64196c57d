-- What stands between two nodes.
use Rattle.std.proofs.Common.{◌≡◌, ◌++◌}
use Rattle.std.specs.List.{flat_map}
use Rattle.std.specs.Prelude.{codes, string_bytes}
use Rattle.sim_gen.specs.Generated.{node_line, numbers_to}
use Rattle.sim_gen.proofs.generated.scenario.Given as goal

-- the text has the lines of the nodes that were passed
abbrev pub invariant-loop-index : goal.invariant-loop-index
invariant-loop-index l =
    string_bytes l.text ≡ codes "scenario 1\n" ++ flat_map node_line (numbers_to l.index)
