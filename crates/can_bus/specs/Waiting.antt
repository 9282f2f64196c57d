-- The requests that wait for the bus: which of two goes first, and the set of them (ISO 11898-1,
-- arbitration).
use Rattle.std.specs.Prelude.{◌≡◌, ◌<◌, ◌⊎◌, Bool, true, false, ◌&&◌, ◌||◌, ◌==◌, nat_lt, if◌then◌else◌, List, [], ◌∷◌, ℕ, not, map, find, Option, Some}
use Rattle.can_frame.specs.Frame.{Wins, arbitration_field, FrameFields}
use Rattle.can_bus.specs.declared.waiting.Waiting.{Waiting}
use Rattle.std.specs.List.{list_all}
use Rattle.std.specs.Ordering.{nat_cmp, ordering_then}
use Rattle.std.specs.declared.cmp.Ordering.{Ordering}
use Rattle.std.specs.FinMap.{FinMap, get, entries, from_entries}

-- ---- Which of two requests goes first (ISO 11898-1, arbitration).

-- the arbitration field of the request's frame
abbrev pub arbitration_of : Waiting → List Bool
arbitration_of r = arbitration_field r.frame

-- of one node the earlier request comes first, and of two nodes the lesser
abbrev pub ComesFirst : Waiting → Waiting → Type 0
ComesFirst a b = (a.node < b.node) ⊎ ((a.node ≡ b.node) × (a.number < b.number))

-- a's field wins the bus, or the fields are equal and a comes first
abbrev pub GoesBefore : Waiting → Waiting → Type 0
GoesBefore a b =
    Wins (arbitration_of a) (arbitration_of b) ⊎ ((arbitration_of a ≡ arbitration_of b) × ComesFirst a b)

-- the same as tests: whether the first field wins
abbrev pub wins : List Bool → List Bool → Bool
wins [] b = false
wins (x ∷ a) [] = false
wins (false ∷ a) (true ∷ b) = true
wins (true ∷ a) (false ∷ b) = false
wins (false ∷ a) (false ∷ b) = wins a b
wins (true ∷ a) (true ∷ b) = wins a b

-- whether a comes first
abbrev pub comes_first : Waiting → Waiting → Bool
comes_first a b = nat_lt a.node b.node || ((a.node == b.node) && nat_lt a.number b.number)

-- whether a goes before b
unfoldable pub goes_before : Waiting → Waiting → Bool
goes_before a b =
    if wins (arbitration_of a) (arbitration_of b) then true
    else (if wins (arbitration_of b) (arbitration_of a) then false else comes_first a b)

-- ---- The set of waiting requests.

-- a request is named by its node and the node's own number for it
abbrev pub RequestName : Type 0
RequestName = ℕ × ℕ

-- by node and then by number
abbrev pub name_cmp : RequestName → RequestName → Ordering
name_cmp a b = ordering_then (nat_cmp a.0 b.0) (nat_cmp a.1 b.1)

-- a set of requests: each name has one frame at most
abbrev pub Requests : Type 0
Requests = FinMap name_cmp FrameFields

-- the name of a request
abbrev pub request_name : Waiting → RequestName
request_name r = (r.node, r.number)

-- the request is a member
abbrev pub Waits : Requests → Waiting → Type 0
Waits requests r = get requests (request_name r) ≡ Some r.frame

-- the request is a member and goes before each other one
pub record IsWinner (requests : Requests) (r : Waiting) : Type 0 where
  pub waits : Waits requests r
  pub before : (other : Waiting) → Waits requests other →
      (request_name other ≡ request_name r) ⊎ GoesBefore r other

-- a request as an entry of the set
abbrev pub entry_of : Waiting → RequestName × FrameFields
entry_of r = (request_name r, r.frame)

-- the request that an entry stands for
abbrev pub request_at : RequestName × FrameFields → Waiting
request_at e = record { node = e.0.0; number = e.0.1; frame = e.1 }

-- the set of a list's requests
abbrev pub requests_of : List Waiting → Requests
requests_of rs = from_entries (map entry_of rs)

-- the members by name
abbrev pub members : Requests → List Waiting
members requests = map request_at (entries requests)

-- the member that no member goes before, if there is a member
unfoldable pub winner : Requests → Option Waiting
winner requests =
    find (λ r. list_all (λ other. not (goes_before other r)) (members requests)) (members requests)
