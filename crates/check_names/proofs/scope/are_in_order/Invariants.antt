-- The variables so far are in order.
use Rattle.std.proofs.Common.{◌≡◌, ◌<◌, ℕ, List, Some, true}
use Rattle.std.specs.Prelude.{slice_get}
use Rattle.dbc_reader.specs.declared.message.DbcMessage.{DbcMessage}
use Rattle.capl_meaning.specs.Variable.{Variable}
use Rattle.check_names.specs.Inside.Table.{is_in_order}
use Rattle.check_names.specs.Variable.{variables_in}
use Rattle.check_names.proofs.scope.are_in_order.Given as goal

abbrev pub invariant-loop-variable : goal.invariant-loop-variable
invariant-loop-variable l = (base : List DbcMessage) (i : ℕ) → i < l.variable-index → (v : Variable) →
    slice_get (variables_in base l.variables) i ≡ Some v → is_in_order (variables_in base l.variables) v ≡ true
