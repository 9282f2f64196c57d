-- What was listed and what is left are the labels of all groups.
use Rattle.std.proofs.Common.{◌≡◌, ◌++◌, drop}
use Rattle.check_names.specs.Variable.{lent}
use Rattle.check_statements.specs.Statement.{labels_in}
use Rattle.check_statements.proofs.label.labels_of.Given as goal

abbrev pub invariant-loop-group : goal.invariant-loop-group
invariant-loop-group l = lent l.all.items ++ labels_in (drop l.group-index l.groups) ≡ labels_in l.groups
