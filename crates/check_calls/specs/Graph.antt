-- Rows of a graph: what each place leads to.
use Rattle.std.specs.Prelude.{◌≡◌, ℕ, ◌⊎◌, ◌<◌, ◌≤◌, Bool, true, List, length, map, slice_get, slice_index, Some}
use Rattle.std.specs.Global.{Vec}
use Rattle.capl_meaning.specs.Names.{Names}
use Rattle.check_calls.specs.Callees.{callees, calls_of_all, functions_at}

-- something stands in a list
abbrev pub Has : {X : Type 0} → List X → X → Type 0
Has {X} xs x = (k : ℕ) × (slice_get xs k ≡ Some x)

-- the rows, each as its places
abbrev pub rows_of : List (Vec ℕ) → List (List ℕ)
rows_of rows = map (λ row. row.items) rows

-- a place leads to another
abbrev pub Leads : List (List ℕ) → ℕ → ℕ → Type 0
Leads rows from to = (row : List ℕ) × (slice_get rows from ≡ Some row) × Has row to

-- what passes a test leads only to what passes it
abbrev pub Keeps : List (List ℕ) → (ℕ → Bool) → Type 0
Keeps rows test = (from to : ℕ) → Leads rows from to → test from ≡ true → test to ≡ true

-- the rows are of the functions that each function of a program calls
abbrev pub AreCallees : Names → List (List ℕ) → Type 0
AreCallees names rows =
    map (functions_at names) rows ≡ map (λ f. callees names (calls_of_all f.body)) names.functions

-- what each place leads to is ranked no higher
abbrev pub AreRanked : List ℕ → List (List ℕ) → Type 0
AreRanked ranks rows = (from to : ℕ) → Leads rows from to → slice_index ranks to ≤ slice_index ranks from

-- no place stands in a list twice
abbrev pub AreApart : List ℕ → Type 0
AreApart places = (i j place : ℕ) → slice_get places i ≡ Some place → slice_get places j ≡ Some place → i ≡ j

-- by any number of steps a place leads to another, which so passes what the place passes and each step keeps
abbrev pub Reaches : List (List ℕ) → ℕ → ℕ → Type 0
Reaches rows from to = (test : ℕ → Bool) → Keeps rows test → test from ≡ true → test to ≡ true

-- each marked place is reached from its root
abbrev pub AreReached : List (List ℕ) → List ℕ → List Bool → Type 0
AreReached rows roots marks =
    (place : ℕ) → slice_get marks place ≡ Some true → Reaches rows (slice_index roots place) place

-- each marked place reaches its root
abbrev pub AreReaching : List (List ℕ) → List ℕ → List Bool → Type 0
AreReaching rows roots marks =
    (place : ℕ) → slice_get marks place ≡ Some true → Reaches rows place (slice_index roots place)

-- a place stands in a list before an index
abbrev pub StandsBefore : List ℕ → ℕ → ℕ → Type 0
StandsBefore places k place = (i : ℕ) × (i < k) × (slice_get places i ≡ Some place)

-- each place of a list stands behind what it leads to, but for what reaches it
abbrev pub StandBehind : List (List ℕ) → List ℕ → Type 0
StandBehind rows places = (k from to : ℕ) → slice_get places k ≡ Some from → Leads rows from to →
    to < length rows → StandsBefore places k to ⊎ Reaches rows to from
