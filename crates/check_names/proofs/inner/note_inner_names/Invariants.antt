-- What was noted and what is left are the variables that have the name of an earlier one.
use Rattle.std.proofs.Common.{◌≡◌, List, Bool, [], drop, take}
use Rattle.std.specs.Prelude.{map}
use Rattle.std.specs.List.{list_any}
use Rattle.capl_meaning.specs.StatementRules.{repeated}
use Rattle.capl_meaning.specs.Variable.{Variable}
use Rattle.check_names.specs.First.{noted}
use Rattle.check_names.specs.Inside.Inner.{inner_offence, same_inside}
use Rattle.check_names.specs.Variable.{variables_in}
use Rattle.check_names.proofs.inner.note_inner_names.Given as goal

abbrev pub invariant-loop-variable : goal.invariant-loop-variable
invariant-loop-variable l = record {
  number : l.number ≡ l.variable-index;
  earlier : List Variable;
  among : (p : Variable → Bool) → list_any p earlier ≡ list_any p (variables_in l.names.base (take l.variable-index l.variables));
  noting : noted l.first (map inner_offence (repeated same_inside earlier (variables_in l.names.base (drop l.variable-index l.variables))))
      ≡ noted l.fn.first (map inner_offence (repeated same_inside [] l.names.variables));
}
