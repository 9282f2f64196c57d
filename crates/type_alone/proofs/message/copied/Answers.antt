-- A message that a variable becomes.
use Rattle.typed_source.specs.Expression.{expression_of}
use Rattle.typed_tree.specs.declared.statement.TStmt.TheVariants.{Eval}
use Rattle.check_sorts.specs.Scope.{scope_in}
use Rattle.type_alone.specs.Tables.{order_of}
use Rattle.type_alone.proofs.AloneLemmas.{variable_copied}
use Rattle.type_alone.proofs.message.copied.Goals as goal

pub returns-in-Variable : goal.returns-in-Variable
returns-in-Variable c left right to_is from_is =
    let names = c.args.scope.names.now in
    variable_copied names c.args.to c.in-Variable.number c.in-Variable.signals left right _ _
    (Eval (expression_of (scope_in c.args.scope) (order_of c.args.tables.now) c.args.e.now))
    c.in-Variable.is to_is (c.message_slot.ensures names left c.requires.trees to_is)
    (c.message_slot-in-Variable.ensures names right c.requires.trees from_is)
