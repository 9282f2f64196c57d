-- Where the cells of a message lie.
use Rattle.std.proofs.Common.{◌≤◌, ◌+◌, ℕ, List, length, drop, ap, arith, length-take, length-drop}
use Rattle.int_kinds.specs.declared.kinds.Kind.{Kind}
use Rattle.message_cells.specs.Message.{IsMessage}

-- a message's cells are among the cells
pub message_within : (kinds : List Kind) (at : ℕ) → IsMessage kinds at → at + 14 ≤ length kinds
message_within kinds at is = omega (arith, ap length is, length-take 14 (drop at kinds), length-drop at kinds)
