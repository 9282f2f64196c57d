-- The nodes before the number have begun; the others are as they were.
use Rattle.std.proofs.Common.{◌≡◌, ◌++◌, drop, take}
use Rattle.sim_core.specs.Inside.Tasks.{begun_nodes}
use Rattle.sim_core.proofs.tasks.begin_all.Given as goal

abbrev pub invariant-loop-number : goal.invariant-loop-number
invariant-loop-number l = record {
  begun : take l.number l.nodes
      ++ begun_nodes l.round l.now l.ended l.keys l.number (drop l.number l.nodes)
      ≡ begun_nodes l.round l.now l.ended l.keys 0 l.fn.nodes;
  left : drop l.number l.nodes ≡ drop l.number l.fn.nodes;
}
