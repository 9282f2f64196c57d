-- None of the variables so far stands before the token; the first of the others is the first of all.
use Rattle.std.proofs.Common.{◌≡◌, List, drop}
use Rattle.std.specs.Prelude.{position}
use Rattle.std.specs.List.{position_from}
use Rattle.dbc_reader.specs.declared.message.DbcMessage.{DbcMessage}
use Rattle.check_names.specs.Inside.Table.{is_named_before}
use Rattle.check_names.specs.Variable.{variables_in}
use Rattle.check_names.proofs.scope.first_before.Given as goal

abbrev pub invariant-loop-variable : goal.invariant-loop-variable
invariant-loop-variable l = record {
  number : l.number ≡ l.variable-index;
  first : (base : List DbcMessage) →
      position_from (is_named_before l.procedure l.name l.token) l.number (variables_in base (drop l.variable-index l.variables))
      ≡ position (is_named_before l.procedure l.name l.token) (variables_in base l.variables);
}
