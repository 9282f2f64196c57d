-- A depth-first walk under way.
use Rattle.std.specs.Prelude.{◌≡◌, ◌⊎◌, ℕ, suc, ◌+◌, ◌-◌, ◌<◌, ◌≤◌, Bool, true, false, List, [], ◌∷◌, ◌++◌, length, map, set, slice_get, Some}
use Rattle.std.specs.Option.{option_map_or}
use Rattle.check_calls.specs.Graph.{Has, Reaches, StandBehind}
use Rattle.check_calls.specs.Inside.Search.{AreOnce}
use Rattle.check_calls.specs.declared.depth.Walk.{Walk}

-- the places that are open, each with the number of its next call
abbrev pub opened : List (ℕ × ℕ) → List ℕ
opened stack = map (λ o. o.0) stack

-- A walk is under way: what was entered was left or is open, and not both; each open place reaches those
-- above it; what the calls of an open place lead to was entered, up to its next call; and what was left
-- stands behind what it leads to.
pub record IsWalk (rows : List (List ℕ)) (entered : List Bool) (stack : List (ℕ × ℕ)) (left : List ℕ) :
    Type 0 where
  pub count : length entered ≡ length rows
  pub known : (place : ℕ) → slice_get entered place ≡ Some true → Has left place ⊎ Has (opened stack) place
  pub left_once : AreOnce entered left
  pub open_once : AreOnce entered (opened stack)
  pub apart : (place : ℕ) → Has left place → Has (opened stack) place → ⊥
  pub path : (i j from to : ℕ) → i ≤ j → slice_get (opened stack) i ≡ Some from →
      slice_get (opened stack) j ≡ Some to → Reaches rows from to
  pub followed : (k : ℕ) (o : ℕ × ℕ) → slice_get stack k ≡ Some o → (row : List ℕ) →
      slice_get rows o.0 ≡ Some row → (c to : ℕ) → c < o.1 → slice_get row c ≡ Some to → to < length rows →
      slice_get entered to ≡ Some true
  pub behind : StandBehind rows left

-- the same, of a walk
abbrev pub GoesOn : List (List ℕ) → Walk → Type 0
GoesOn rows walk = IsWalk rows walk.entered.items walk.stack.items walk.left.items

-- what was entered before was entered
abbrev pub KeepsEntered : Walk → Walk → Type 0
KeepsEntered before after = (place : ℕ) → slice_get before.entered.items place ≡ Some true →
    slice_get after.entered.items place ≡ Some true

-- a place is none, or was entered before
pub record WasEntered (before after : Walk) (place : ℕ) : Type 0 where
  pub old : place < length before.entered.items → slice_get before.entered.items place ≡ Some true
  pub entered : after.entered.items ≡ before.entered.items
  pub stack : after.stack.items ≡ before.stack.items
  pub left : after.left.items ≡ before.left.items

-- a place was not entered before, and is entered now
pub record IsEntered (before after : Walk) (place : ℕ) : Type 0 where
  pub within : place < length before.entered.items
  pub new : slice_get before.entered.items place ≡ Some true → ⊥
  pub entered : after.entered.items ≡ set before.entered.items place true
  pub stack : after.stack.items ≡ before.stack.items ++ (place, 0) ∷ []
  pub left : after.left.items ≡ before.left.items

-- a call of a place leads to another
abbrev pub IsCall : List (List ℕ) → ℕ → ℕ → ℕ → Type 0
IsCall rows from call to = (row : List ℕ) × (slice_get rows from ≡ Some row) × (slice_get row call ≡ Some to)

-- how many calls a place has
abbrev pub calls_at : List (List ℕ) → ℕ → ℕ
calls_at rows place = option_map_or length (slice_get rows place) 0

-- the steps that the places from one on take which were not entered
abbrev pub to_enter : List (List ℕ) → ℕ → List Bool → ℕ
to_enter rows place [] = 0
to_enter rows place (true ∷ flags) = to_enter rows (suc place) flags
to_enter rows place (false ∷ flags) = suc (calls_at rows place) + to_enter rows (suc place) flags

-- the steps that open places take
abbrev pub to_leave : List (List ℕ) → List (ℕ × ℕ) → ℕ
to_leave rows [] = 0
to_leave rows (o ∷ stack) = suc (calls_at rows o.0 - o.1) + to_leave rows stack

-- the steps that a walk takes at most until no place is open
abbrev pub steps_of : List (List ℕ) → Walk → ℕ
steps_of graph walk = to_enter graph 0 walk.entered.items + to_leave graph walk.stack.items
