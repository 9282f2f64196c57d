-- What statements are made by.
use Rattle.std.specs.Prelude.{List, ℕ}
use Rattle.capl_meaning.specs.Names.{Names}
use Rattle.check_sorts.specs.Constant.{AreConstantsOf}
use Rattle.type_expressions.specs.Made.{AreTreeTables, order_in}
use Rattle.type_alone.specs.declared.tables.StatementTables.{StatementTables}

-- the tables are those of a program
pub record AreTables (names : Names) (tables : StatementTables) : Type 0 where
  pub trees : AreTreeTables names tables.trees
  pub constants : AreConstantsOf names tables.constants.now

-- the order of the functions
abbrev pub order_of : StatementTables → List ℕ
order_of tables = order_in tables.trees
