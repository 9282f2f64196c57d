-- Lists of requests that are heaps, or lack little of it.
use Rattle.std.specs.Prelude.{◌≡◌, ℕ, ◌+◌, ◌*◌, ◌<◌, ◌≤◌, ◌==◌, ◌∷◌, Bool, false, not, List, length}
use Rattle.std.specs.List.{All, slice_index_or}
use Rattle.std.specs.List.Sorted.{IsPermutation}
use Rattle.can_bus.specs.declared.waiting.Waiting.{Waiting}
use Rattle.can_bus.specs.Waiting.{goes_before}

-- a place is one of the two below another
abbrev pub IsBelow : ℕ → ℕ → Type 0
IsBelow above below = (2 * above + 1 ≤ below) × (below ≤ 2 * above + 2)

-- the request at one place does not go before the one at the other
abbrev pub Stays : List Waiting → ℕ → ℕ → Type 0
Stays rs above below =
    (d : Waiting) → goes_before (slice_index_or rs below d) (slice_index_or rs above d) ≡ false

-- no request at the first so many places goes before the one above it
abbrev pub IsHeapUpTo : ℕ → List Waiting → Type 0
IsHeapUpTo count rs = (above below : ℕ) → IsBelow above below → below < count → Stays rs above below

-- no request goes before the one above it
abbrev pub IsHeap : List Waiting → Type 0
IsHeap rs = IsHeapUpTo (length rs) rs

-- no request goes before the one above it, where that stands at the place or behind it
abbrev pub IsHeapFrom : ℕ → List Waiting → Type 0
IsHeapFrom place rs =
    (above below : ℕ) → IsBelow above below → place ≤ above → below < length rs → Stays rs above below

-- no request goes before the one above it, where that stands behind the place
abbrev pub IsHeapBehind : ℕ → List Waiting → Type 0
IsHeapBehind place rs = IsHeapFrom (place + 1) rs

-- the place is one below, and no request below goes before the one there
pub record IsFirstBelow (rs : List Waiting) (above first : ℕ) : Type 0 where
  pub below : IsBelow above first
  pub within : first < length rs
  pub goes_first : (below : ℕ) → IsBelow above below → below < length rs → Stays rs first below

-- the request was in the first list, where none goes before it, and the second has the others as a heap
pub record IsTakenFirst (old new : List Waiting) (r : Waiting) : Type 0 where
  pub first : All (λ other. goes_before other r ≡ false) old
  pub others : IsPermutation old (r ∷ new)
  pub heap : IsHeap new

-- whether the request is of another node
abbrev pub is_of_other : ℕ → Waiting → Bool
is_of_other node r = not (r.node == node)
