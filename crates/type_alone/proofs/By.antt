-- By what statements are read as the definitions have them, with names that the attribute of a tactic can write:
-- what opens their boxes and lists.
unfoldable pub use Rattle.typed_tree.specs.declared.statement.TStmt.TheBlock.{hidden-the_row-TStmt-2 as tree}
unfoldable pub use denote.Hole.Carrier.{hidden as row}
