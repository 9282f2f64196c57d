-- By what statements are read as the definitions have them, with names that the attribute of a tactic can write:
-- what opens their boxes and lists, and the sizes of the forms that hold lists of statements.
unfoldable pub use Rattle.typed_tree.specs.declared.statement.TStmt.TheBlock.{hidden-the_row-TStmt-2 as tree}
unfoldable pub use denote.Hole.Carrier.{hidden as row}
use Rattle.code_size.proofs.Rows.{block_size, for_size, if_size, switch_size}

pub ruleset form = (block_size, if_size, for_size, switch_size)
