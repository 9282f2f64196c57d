-- What is left of the goals stands before those that were put on the stack.
use Rattle.std.proofs.Common.{◌++◌, reverse, ◌≡◌}
use Rattle.viable_prefixes.proofs.goal.come.Given as goal

abbrev pub invariant-loop-goal : goal.invariant-loop-goal
invariant-loop-goal l = l.goal-iterator.iter.rest.now ++ reverse l.stack.items ≡ l.goals ++ reverse l.fn.stack.items
