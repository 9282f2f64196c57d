-- The tables, by the forms of variables.
use Rattle.typed_source.proofs.Tables.{has_tables}
use Rattle.typed_source.proofs.Units.{have_units}
use Rattle.typed_source.proofs.laws.tables_have_what_names_need.Goals as goal

pub returns-clause-tables : goal.returns-clause-tables
returns-clause-tables c = λ names typed distinct cells timers elements units. has_tables names distinct typed cells timers elements units

pub returns-clause-units : goal.returns-clause-units
returns-clause-units c = λ base program. have_units base program
