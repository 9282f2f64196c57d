-- Lists of selectors by rank, and their runs.
use Rattle.std.specs.Prelude.{◌≡◌, ℕ, ◌<◌, ◌≤◌, List, [], ◌∷◌, AllPairs, length, slice_index_or}
use Rattle.std.specs.List.{AllWithin, HoldsAt}
use Rattle.std.specs.List.Sorted.{IsPermutation}
use Rattle.msg_select.specs.declared.selector.MessageSelector.{MessageSelector}
use Rattle.msg_select.specs.Selection.{Holds}

-- no selector stands before one of a lesser rank
abbrev pub AreByRank : List MessageSelector → Type 0
AreByRank = AllPairs (λ earlier later. earlier.rank ≤ later.rank)

-- the second list has the selectors of the first, by rank
pub record IsByRank (list ordered : List MessageSelector) : Type 0 where
  pub same : IsPermutation list ordered
  pub by_rank : AreByRank ordered

-- a selector's range begins behind that of an earlier one, and at no lesser key
pub record IsBehind (earlier later : MessageSelector) : Type 0 where
  pub rises : earlier.low ≤ later.low
  pub above : earlier.high < later.low

-- each selector's range is behind those before it
abbrev pub IsRun : List MessageSelector → Type 0
IsRun = AllPairs IsBehind

-- the same of the selectors from one place up to another
abbrev pub IsRunWithin : List MessageSelector → ℕ → ℕ → Type 0
IsRunWithin list start end =
    (i j : ℕ) (d : MessageSelector) → start ≤ i → i < j → j < end
    → IsBehind (slice_index_or list i d) (slice_index_or list j d)

-- from one place up to another there are runs, one behind the other, that end at the places of the list
abbrev pub AreRuns : List MessageSelector → ℕ → ℕ → List ℕ → Type 0
AreRuns list start stop [] = start ≡ stop
AreRuns list start stop (end ∷ ends) =
    (start ≤ end) × (end ≤ stop) × IsRunWithin list start end × AreRuns list end stop ends

-- the selector at the place holds the key, and none before it does
pub record IsFirstHolder (list : List MessageSelector) (key place : ℕ) : Type 0 where
  pub within : place < length list
  pub holds : HoldsAt (Holds key) list place
  pub before : AllWithin (λ selector. Holds key selector → ⊥) list 0 place
