-- What was listed and what is left are all labels.
use Rattle.std.proofs.Common.{◌≡◌, ◌++◌, drop}
use Rattle.check_names.specs.Variable.{lent}
use Rattle.check_statements.proofs.label.list_labels.Given as goal

abbrev pub invariant-loop-label : goal.invariant-loop-label
invariant-loop-label l =
    lent l.into.items ++ drop l.label-index l.labels ≡ lent l.fn.into.items ++ l.labels
