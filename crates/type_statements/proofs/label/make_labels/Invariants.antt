-- The numbers so far and those of the labels that are left are all.
use Rattle.std.proofs.Common.{◌≡◌, ◌++◌, drop}
use Rattle.std.specs.Prelude.{filter_map}
use Rattle.capl_meaning.specs.StatementRules.{label_of}
use Rattle.check_sorts.specs.Scope.{scope_in}
use Rattle.type_statements.proofs.label.make_labels.Given as goal

abbrev pub invariant-loop-label : goal.invariant-loop-label
invariant-loop-label l =
    l.all.items ++ filter_map (λ label. label_of (scope_in l.scope) l.kind label.at label.value) (drop l.label-index l.labels)
    ≡ filter_map (λ label. label_of (scope_in l.scope) l.kind label.at label.value) l.labels
