-- Which cells are characters.
use Rattle.std.specs.Prelude.{◌≡◌, ℕ, ◌+◌, ◌≤◌, Bool, true, false, List, length, take, slice_index, count_by}
use Rattle.int_kinds.specs.declared.kinds.Kind.{Kind}
use Rattle.int_kinds.specs.declared.kinds.Kind.TheVariants.{Char}

-- whether a kind is none of characters
abbrev pub is_other : Kind → Bool
is_other Char = false
is_other _ = true

-- of each place up to one, how many cells before it are no characters
pub record CountsOthers (kinds : List Kind) (last : ℕ) (others : List ℕ) : Type 0 where
  pub places : length others ≡ last + 1
  pub counts : (place : ℕ) → place ≤ last → slice_index others place ≡ count_by is_other (take place kinds)
