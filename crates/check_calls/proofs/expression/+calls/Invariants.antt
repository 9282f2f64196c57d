-- What was added is of the expressions so far.
use Rattle.std.proofs.Common.{take}
use Rattle.check_calls.proofs.expression.+calls.Given as goal
use Rattle.check_calls.specs.Inside.Added.{AreAdded, calls_in_all}

abbrev pub invariant-add_all_calls-loop-e : goal.invariant-add_all_calls-loop-e
invariant-add_all_calls-loop-e l = AreAdded l.names l.into.items l.fn.into.items (calls_in_all (take l.e-index l.all))
