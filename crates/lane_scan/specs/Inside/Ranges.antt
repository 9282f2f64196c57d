-- Places up to which no range holds a key.
use Rattle.std.specs.Prelude.{◌≡◌, ℕ, ◌<◌, ◌≤◌, false, List, length, slice_index}
use Rattle.lane_scan.specs.Ranges.{holds}

-- no range before the place holds the key
pub record IsPassed (lows highs : List ℕ) (key place : ℕ) : Type 0 where
  pub within : place ≤ length lows
  pub none : (k : ℕ) → k < place → holds key (slice_index lows k, slice_index highs k) ≡ false
