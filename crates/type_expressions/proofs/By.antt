-- By what trees are read as the definitions have them, with names that the attribute of a tactic can write: what
-- opens their boxes.
unfoldable pub use Rattle.typed_tree.specs.declared.expression.Place.TheBlock.{hidden-the_row-TExpr-0 as tree}
unfoldable pub use Rattle.capl_tree.specs.declared.expr.Expr.TheBlock.{hidden-the_row-Expr-0 as source}
unfoldable pub use denote.Hole.Carrier.{hidden as row}
