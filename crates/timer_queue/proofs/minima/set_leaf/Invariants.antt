-- Each node but the one above holds the lesser of the two below it, and the leaves are as they were.
use Rattle.std.proofs.Common.{◌≡◌, ◌*◌, ◌/◌, ◌<◌, drop, slice_set}
use Rattle.timer_queue.specs.Inside.Minima.{IsTreeBut}
use Rattle.timer_queue.proofs.minima.set_leaf.Given as goal

abbrev pub invariant-loop-node : goal.invariant-loop-node
invariant-loop-node l = record {
  within : l.node < 2 * l.leaves;
  tree : IsTreeBut l.nodes l.leaves (l.node / 2);
  leaves : drop l.leaves l.nodes ≡ slice_set (drop l.leaves l.fn.nodes) l.place l.moment;
}

abbrev pub decreases-loop-node : goal.decreases-loop-node
decreases-loop-node l = l.node
