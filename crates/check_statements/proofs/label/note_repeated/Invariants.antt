-- What was seen is what the labels so far say; what was noted and what is left are those that repeat.
use Rattle.std.proofs.Common.{◌≡◌, List, [], drop}
use Rattle.std.specs.Prelude.{map}
use Rattle.capl_meaning.specs.StatementRules.{labels_rule, repeated}
use Rattle.check_names.specs.First.{noted}
use Rattle.check_names.specs.Variable.{lent}
use Rattle.check_statements.specs.Inside.Label.{Has, SaidLabel, label_offence, said_of, same_said}
use Rattle.check_statements.specs.Site.{place_of}
use Rattle.check_statements.proofs.label.note_repeated.Given as goal

abbrev pub invariant-loop-label : goal.invariant-loop-label
invariant-loop-label l = record {
  earlier : List SaidLabel;
  has : Has l.seen earlier;
  noting : noted l.first (map (label_offence (place_of l.site)) (repeated same_said earlier (map (said_of (place_of l.site) l.on) (drop l.label-index l.labels))))
      ≡ noted l.fn.first (labels_rule (place_of l.site) l.on (lent l.labels));
}
