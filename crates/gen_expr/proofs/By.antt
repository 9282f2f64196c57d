-- By what expressions are read as the definitions have them, with names that the attribute of a tactic can write:
-- what opens their boxes and lists, and what is known of their sizes.
unfoldable pub use Rattle.typed_tree.specs.declared.expression.Place.TheBlock.{hidden-the_row-TExpr-0 as tree}
unfoldable pub use denote.Hole.Carrier.{hidden as row}
use Rattle.gen_expr.proofs.Emitted.{value_some}
use Rattle.code_size.proofs.Rows.{call_size}

pub ruleset form = (call_size, value_some)
