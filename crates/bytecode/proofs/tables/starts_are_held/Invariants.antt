-- The initial values so far are held.
use Rattle.std.proofs.Common.{take}
use Rattle.std.specs.Prelude.{All}
use Rattle.message_cells.specs.Cells.{IsHeldStart}
use Rattle.bytecode.proofs.tables.starts_are_held.Given as goal

abbrev pub invariant-loop-cell : goal.invariant-loop-cell
invariant-loop-cell l = All (IsHeldStart l.kinds) (take l.cell-index l.starts)
