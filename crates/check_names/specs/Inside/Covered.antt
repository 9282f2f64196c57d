-- Numbers that ranges cover, where most ranges come in ascending order.
use Rattle.std.specs.Prelude.{◌≡◌, ◌<◌, ◌≤◌, ◌||◌, ℕ, List, length, slice_index_or}
use Rattle.std.specs.List.{list_any}
use Rattle.check_names.specs.declared.covered.Covered.{Covered}
use Rattle.check_names.specs.Inside.Ranges.{AreRanges, meet}

-- ranges are in ascending order and have no numbers in common
pub record IsRising (ranges : List (ℕ × ℕ)) : Type 0 where
  pub forward : (i : ℕ) (d : ℕ × ℕ) → i < length ranges →
      (slice_index_or ranges i d).0 ≤ (slice_index_or ranges i d).1
  pub apart : (i j : ℕ) (d : ℕ × ℕ) → i < j → j < length ranges →
      (slice_index_or ranges i d).1 < (slice_index_or ranges j d).0

-- all ranges end before a number
abbrev pub EndBefore : List (ℕ × ℕ) → ℕ → Type 0
EndBefore ranges low = (i : ℕ) (d : ℕ × ℕ) → i < length ranges → (slice_index_or ranges i d).1 < low

-- what came in order rises; a range has a number in common with one of that or of the others exactly where it
-- has one in common with one of all these
pub record Covers (covered : Covered) (all : List (ℕ × ℕ)) : Type 0 where
  pub rising : IsRising covered.rising.items
  pub some : List (ℕ × ℕ)
  pub others : AreRanges covered.others some
  pub met : (one : ℕ × ℕ) → list_any (meet one) all
      ≡ (list_any (meet one) covered.rising.items || list_any (meet one) some)
