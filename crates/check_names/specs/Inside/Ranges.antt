-- Ranges of numbers in a map.
use Rattle.std.specs.Prelude.{◌≡◌, ◌<◌, ◌≤◌, ◌⊎◌, ℕ, Bool, true, ◌&&◌, nat_le, List, Some}
use Rattle.std.specs.BTreeMap.{get}
use Rattle.std.specs.List.{list_any}
use Rattle.std.specs.Ordering.{nat_cmp}
use Rattle.check_names.specs.declared.ranges.Ranges.{Ranges}

-- a range stands in the map, by its least and its greatest number
abbrev pub IsThere : Ranges → ℕ → ℕ → Type 0
IsThere ranges low high = get nat_cmp ranges.ends low ≡ Some high

-- two ranges have a number in common
abbrev pub meet : ℕ × ℕ → ℕ × ℕ → Bool
meet a b = nat_le a.0 b.1 && nat_le b.0 a.1

-- a range of the map has a number in common with that from `low` to `high`
pub record IsMetBy (ranges : Ranges) (low high start end : ℕ) : Type 0 where
  pub there : IsThere ranges start end
  pub begins : start ≤ high
  pub ends : low ≤ end

-- some range of the map has
abbrev pub IsMet : Ranges → ℕ → ℕ → Type 0
IsMet ranges low high = (start : ℕ) × (end : ℕ) × IsMetBy ranges low high start end

-- the ranges of the map have no numbers in common
pub record AreApart (ranges : Ranges) : Type 0 where
  pub forward : (low high : ℕ) → IsThere ranges low high → low ≤ high
  pub apart : (low high next end : ℕ) → IsThere ranges low high → IsThere ranges next end →
      low < next → high < next

-- the ranges of the map are apart; a range has a number in common with one of them exactly where it has
-- one in common with one of all these
pub record AreRanges (ranges : Ranges) (all : List (ℕ × ℕ)) : Type 0 where
  pub stand : AreApart ranges
  pub met : (low high : ℕ) → low ≤ high → IsMet ranges low high → list_any (meet (low, high)) all ≡ true
  pub meets : (low high : ℕ) → low ≤ high → list_any (meet (low, high)) all ≡ true → IsMet ranges low high

-- the same of the ranges of the map and one more, which may have numbers in common with them
pub record AreRangesWith (ranges : Ranges) (low high : ℕ) (all : List (ℕ × ℕ)) : Type 0 where
  pub rises : low ≤ high
  pub stand : AreApart ranges
  pub met : (least most : ℕ) → least ≤ most →
      IsMet ranges least most ⊎ (meet (least, most) (low, high) ≡ true) →
      list_any (meet (least, most)) all ≡ true
  pub meets : (least most : ℕ) → least ≤ most → list_any (meet (least, most)) all ≡ true →
      IsMet ranges least most ⊎ (meet (least, most) (low, high) ≡ true)
