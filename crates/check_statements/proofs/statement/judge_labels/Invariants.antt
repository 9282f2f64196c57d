-- What was noted and what is left are the offences of all labels.
use Rattle.std.proofs.Common.{◌≡◌, drop}
use Rattle.std.specs.Prelude.{flat_map}
use Rattle.capl_meaning.specs.StatementRules.{label_offences}
use Rattle.check_names.specs.First.{noted}
use Rattle.check_statements.specs.Site.{place_of}
use Rattle.check_statements.proofs.statement.judge_labels.Given as goal

abbrev pub invariant-loop-label : goal.invariant-loop-label
invariant-loop-label l =
    noted l.first (flat_map (label_offences (place_of l.site)) (drop l.label-index l.labels)) ≡ noted l.fn.first (flat_map (label_offences (place_of l.site)) l.labels)
