-- How far the tasks of the round are done, which nodes have a further one, and how much is left to do.
use Rattle.std.proofs.Common.{◌≡◌}
use Rattle.sim_core.specs.Inside.Tasks.{open_nodes}
use Rattle.sim_core.proofs.TaskLoop.{HasGone, work}
use Rattle.sim_core.proofs.tasks.do_tasks.Given as goal

abbrev pub invariant-loop-place : goal.invariant-loop-place
invariant-loop-place g l = record {
  gone : HasGone g.B.Bus.meaning g.R.Record.meaning l.now l.fn.nodes l.fn.bus l.fn.picks l.fn.into l.fn.meter l.stops l.nodes l.bus l.picks l.into l.meter;
  listed : l.open_ones.items ≡ open_nodes 0 l.nodes;
}

abbrev pub decreases-loop-place : goal.decreases-loop-place
decreases-loop-place g l = work l.now l.nodes
