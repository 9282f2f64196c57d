-- A tree of moments, each of which is the lesser of the two below it.
use Rattle.std.specs.Prelude.{◌≡◌, ◌≢◌, ◌⊎◌, ℕ, ◌+◌, ◌*◌, ◌^◌, ◌<◌, ◌≤◌, List, length, drop, slice_index, min, All, Contains}
use Rattle.timer_queue.specs.declared.minima.Minima.TheInside.{Inside}

-- the moment at a place is the lesser of those at twice the place and at the place behind
abbrev pub IsLesserOfTwo : List ℕ → ℕ → Type 0
IsLesserOfTwo nodes place =
    slice_index nodes place ≡ min (slice_index nodes (2 * place)) (slice_index nodes (2 * place + 1))

-- each moment at the places from 1 to the leaves is the lesser of the two below it
abbrev pub IsTree : List ℕ → ℕ → Type 0
IsTree nodes leaves = (place : ℕ) → 0 < place → place < leaves → IsLesserOfTwo nodes place

-- the same, but perhaps not at one place
abbrev pub IsTreeBut : List ℕ → ℕ → ℕ → Type 0
IsTreeBut nodes leaves but =
    (place : ℕ) → 0 < place → place < leaves → place ≢ but → IsLesserOfTwo nodes place

-- of the two places below a place, the one is the first of at most the limit
pub record IsFirstBelow (nodes : List ℕ) (place limit below : ℕ) : Type 0 where
  pub below_it : (below ≡ 2 * place) ⊎ (below ≡ 2 * place + 1)
  pub reached : slice_index nodes below ≤ limit
  pub passed : below ≢ 2 * place → limit < slice_index nodes (2 * place)

-- what contracts see: the moments in the leaves
abbrev pub leaves_of : Inside → List ℕ
leaves_of m = drop m.leaves m.nodes.items

-- the moment at each place before the front is above the limit
abbrev pub IsPassed : List ℕ → ℕ → ℕ → Type 0
IsPassed moments front limit = (before : ℕ) → before < front → limit < slice_index moments before

-- the leaves are at the last level of a whole tree, and the front is the place of one
pub record IsMinima (m : Inside) : Type 0 where
  pub size : length m.nodes.items ≡ 2 * m.leaves
  pub levels : m.leaves ≡ 2 ^ m.levels
  pub tree : IsTree m.nodes.items m.leaves
  pub front : m.front < m.leaves
  pub passed : IsPassed (leaves_of m) m.front m.limit

-- of the nodes from one on, the other is the first of at most the limit
pub record IsFirstFrom (nodes : List ℕ) (node limit other : ℕ) : Type 0 where
  pub from : node ≤ other
  pub within : other < length nodes
  pub reached : slice_index nodes other ≤ limit
  pub passed : (before : ℕ) → node ≤ before → before < other → limit < slice_index nodes before

-- the place is that of the first moment of at most the limit
pub record IsFirstUpTo (moments : List ℕ) (limit place : ℕ) : Type 0 where
  pub within : place < length moments
  pub reached : slice_index moments place ≤ limit
  pub first : IsPassed moments place limit

-- the moment is the least of the list
pub record IsLeast (moments : List ℕ) (moment : ℕ) : Type 0 where
  pub among : Contains moments moment
  pub least : All (λ other. moment ≤ other) moments
