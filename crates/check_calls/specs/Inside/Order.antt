-- Places in an order.
use Rattle.std.specs.Prelude.{◌≡◌, ℕ, List, slice_get, slice_index, Some}

-- where each place of a list stands in it
abbrev pub AreWhere : List ℕ → List ℕ → Type 0
AreWhere where_ places = (k place : ℕ) → slice_get places k ≡ Some place → slice_index where_ place ≡ k
