-- By what trees are read as the definitions have them, with names that the attribute of a tactic can write: what
-- opens their boxes and lists, and the forms that hold lists.
unfoldable pub use Rattle.typed_tree.specs.declared.statement.TStmt.TheBlock.{hidden-the_row-TStmt-2 as stmts}
unfoldable pub use Rattle.typed_tree.specs.declared.expression.Place.TheBlock.{hidden-the_row-TExpr-0 as tree}
unfoldable pub use denote.Hole.Carrier.{hidden as row}
use Rattle.sound_check.proofs.Rows.{call_calls, call_few, node_of_sound}
use Rattle.sound_check.proofs.StatementRows.{block_sound, for_sound, if_sound, switch_sound, write_sound}

pub ruleset form = (call_calls, call_few, node_of_sound)

pub ruleset held = (block_sound, for_sound, if_sound, switch_sound, write_sound)
