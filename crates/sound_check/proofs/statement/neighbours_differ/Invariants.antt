-- The neighbours so far differ.
use Rattle.std.proofs.Common.{◌≢◌, ℕ, ◌+◌, ◌<◌, get_or, Option}
use Rattle.std.specs.Prelude.{ℤ}
use Rattle.sound_check.proofs.statement.neighbours_differ.Given as goal

abbrev pub invariant-loop-i : goal.invariant-loop-i
invariant-loop-i l = (k : ℕ) (d : Option ℤ) → k + 1 < l.i → get_or l.labels k d ≢ get_or l.labels (k + 1) d
