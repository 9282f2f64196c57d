-- There are as many timers as at the start.
use Rattle.std.proofs.Common.{◌≡◌}
use Rattle.node_tests.proofs.timers.set_from_the_last.Given as goal

abbrev pub invariant-loop-done : goal.invariant-loop-done
invariant-loop-done l = l.queue.count ≡ l.fn.queue.count
