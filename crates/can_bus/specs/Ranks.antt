-- The numbers of a node's requests: below its next one, and their ranks by a list of those that wait and
-- what is on the wire.
use Rattle.std.specs.Prelude.{◌≡◌, ℕ, ◌+◌, ◌<◌, ◌≤◌, ◌==◌, nat_lt, ◌&&◌, if◌then◌else◌, List, Option, None, Some, ⊤, count_by}
use Rattle.can_bus.specs.declared.waiting.Waiting.{Waiting}
use Rattle.can_bus.specs.declared.transmission.Transmission.{Transmission}
use Rattle.can_bus.specs.Bus.{BusState, next_number, carries_earlier, last_number}

-- the request has a lesser number than its node's next one
abbrev pub IsBelowNext : BusState → Waiting → Type 0
IsBelowNext s r = r.number < next_number s r.node

-- how many requests of the list are the node's and have a lesser number
abbrev pub earlier_count : List Waiting → ℕ → ℕ → ℕ
earlier_count rs node number = count_by (λ r. (r.node == node) && nat_lt r.number number) rs

-- how many are, with the one on the wire
abbrev pub rank_in : List Waiting → Option Transmission → ℕ → ℕ → ℕ
rank_in rs wire node number =
    earlier_count rs node number + (if carries_earlier wire node number then 1 else 0)

-- a request, where it is the node's with its rank for its number
abbrev pub with_rank_in : List Waiting → Option Transmission → ℕ → Waiting → Waiting
with_rank_in rs wire node r =
    if r.node == node then record r { number = rank_in rs wire node r.number } else r

-- and the same of the request on the wire
abbrev pub transmission_with_rank_in : List Waiting → Option Transmission → ℕ → Transmission → Transmission
transmission_with_rank_in rs wire node t = record t { request = with_rank_in rs wire node t.request }

-- a request of the node on the wire has a number that can be given
abbrev pub CarriesInRange : Option Transmission → ℕ → Type 0
CarriesInRange None node = ⊤
CarriesInRange (Some t) node = t.request.node ≡ node → t.request.number ≤ last_number
