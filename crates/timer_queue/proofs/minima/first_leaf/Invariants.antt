-- Where the descent has come.
use Rattle.timer_queue.proofs.MinimaLemmas.{IsOnWay}
use Rattle.timer_queue.proofs.minima.first_leaf.Given as goal

abbrev pub invariant-loop : goal.invariant-loop
invariant-loop l = IsOnWay l.nodes l.leaves l.levels l.limit l.counter l.node
