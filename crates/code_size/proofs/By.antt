-- By what trees are read as the definitions have them, with names that the attribute of a tactic can write: what
-- opens their boxes and lists, and the sizes of the forms that hold lists.
unfoldable pub use Rattle.typed_tree.specs.declared.expression.Place.TheBlock.{hidden-the_row-TExpr-0 as held}
unfoldable pub use Rattle.typed_tree.specs.declared.statement.TStmt.TheBlock.{hidden-the_row-TStmt-2 as tree}
unfoldable pub use denote.Hole.Carrier.{hidden as row}
use Rattle.code_size.proofs.Notes.{block_notes, for_notes, if_notes, switch_notes}
use Rattle.code_size.proofs.Rows.{block_goes, block_size, call_size, for_size, if_goes, if_size, switch_size}
use Rattle.code_size.proofs.Steps.{arms_saturated, for_saturated, jump_saturated}

pub ruleset form = (block_size, if_size, for_size, switch_size, block_goes, if_goes, block_notes, if_notes, for_notes, switch_notes, call_size, jump_saturated, arms_saturated, for_saturated)
