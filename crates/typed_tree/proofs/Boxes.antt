-- What opens the boxes and lists of a tree, by names that the attribute of a tactic can write. Under
-- `#[tactic(auto, unfolding(typed_tree::proofs::Boxes::expression, typed_tree::proofs::Boxes::statement,
-- typed_tree::proofs::Boxes::row))]` a variant that code made or matched is one of the patterns of `Forms`.
unfoldable pub use Rattle.typed_tree.specs.declared.expression.Place.TheBlock.{hidden-the_row-TExpr-0 as expression}
unfoldable pub use Rattle.typed_tree.specs.declared.statement.TStmt.TheBlock.{hidden-the_row-TStmt-2 as statement}
unfoldable pub use denote.Hole.Carrier.{hidden as row}
