-- What was added is of the labels so far.
use Rattle.std.proofs.Common.{take}
use Rattle.capl_meaning.specs.Calls.{calls_in_labels}
use Rattle.check_calls.proofs.statement.add_calls_in_labels.Given as goal
use Rattle.check_calls.specs.Inside.Added.{AreAdded}

abbrev pub invariant-loop-label : goal.invariant-loop-label
invariant-loop-label l = AreAdded l.names l.into.items l.fn.into.items (calls_in_labels (take l.label-index l.labels))
