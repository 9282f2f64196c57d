-- The tables are those of the variables so far.
use Rattle.std.proofs.Common.{◌≡◌, List, take}
use Rattle.dbc_reader.specs.declared.message.DbcMessage.{DbcMessage}
use Rattle.check_names.specs.Inside.Table.{AreTables}
use Rattle.check_names.specs.Variable.{variables_in}
use Rattle.check_names.proofs.scope.tables_of.Given as goal

abbrev pub invariant-loop-variable : goal.invariant-loop-variable
invariant-loop-variable l = record {
  number : l.number ≡ l.variable-index;
  tables : (base : List DbcMessage) → AreTables l.tables.items (variables_in base (take l.variable-index l.variables));
}
