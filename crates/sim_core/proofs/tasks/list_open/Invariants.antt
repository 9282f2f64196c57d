-- The list has the open ones of the nodes that were asked; with those of the others it has all.
use Rattle.std.proofs.Common.{◌≡◌, ◌++◌, drop}
use Rattle.sim_core.specs.Inside.Tasks.{open_nodes}
use Rattle.sim_core.proofs.tasks.list_open.Given as goal

abbrev pub invariant-loop-number : goal.invariant-loop-number
invariant-loop-number l =
    l.open_ones.items ++ open_nodes l.number (drop l.number l.nodes) ≡ open_nodes 0 l.nodes
