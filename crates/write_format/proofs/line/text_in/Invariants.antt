-- The bytes of the cells that were passed, none of which is 0.
use Rattle.std.proofs.Common.{◌≡◌, ◌<◌, ℕ, false, get_or, take}
use Rattle.std.specs.Prelude.{◌==◌, map, pos, unsigned_abs}
use Rattle.write_format.proofs.line.text_in.Given as goal

abbrev pub invariant-loop-cell : goal.invariant-loop-cell
invariant-loop-cell l =
    (l.text.items ≡ map unsigned_abs (take l.cell-index l.cells))
    × ((k : ℕ) → k < l.cell-index → (unsigned_abs (get_or l.cells k (pos 0)) == 0) ≡ false)
