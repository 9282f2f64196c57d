-- The least so far, and the least of the timers of the nodes that are left, give the least of all.
use Rattle.std.proofs.Common.{◌≡◌, drop}
use Rattle.node_run.specs.Code.{code_reaction}
use Rattle.run_meaning.specs.Moments.{least, next_timer}
use Rattle.sim_core.specs.Core.{states_of}
use Rattle.sim_core.proofs.instant.next_timer.Given as goal

abbrev pub invariant-loop-node : goal.invariant-loop-node
invariant-loop-node l =
    least l.next (next_timer code_reaction (states_of (drop l.node-index l.nodes)))
    ≡ next_timer code_reaction (states_of l.nodes)
