-- What contracts see of the fields of a `HeapBus`, and what these keep.
use Rattle.std.specs.Prelude.{◌≤◌, ◌∷◌, List, length, Option, None, Some, All, count_by, vec_capacity}
use Rattle.std.specs.Ordering.{eq_by_cmp}
use Rattle.std.specs.FinMap.{from_entries}
use Rattle.can_bus.specs.declared.waiting.Waiting.{Waiting}
use Rattle.can_bus.specs.declared.transmission.Transmission.{Transmission}
use Rattle.can_bus.specs.Waiting.{RequestName, name_cmp, request_name, requests_of}
use Rattle.can_bus.specs.Bus.{BusState}
use Rattle.can_bus.specs.Ranks.{IsBelowNext}
use Rattle.bus_heap.specs.declared.heap_bus.HeapBus.TheInside.{Inside}
use Rattle.bus_heap.specs.Inside.Heap.{IsHeap}

-- what contracts see of the fields
abbrev pub state_of : Inside → BusState
state_of b = record {
  waiting = requests_of b.waiting.items;
  wire = b.wire;
  free = b.free;
  next = from_entries b.next.entries;
  bit = b.bit;
}

-- no two requests have one name
abbrev pub AreNamesDistinct : List Waiting → Type 0
AreNamesDistinct rs = (name : RequestName) → count_by (λ r. eq_by_cmp name_cmp name (request_name r)) rs ≤ 1

-- the requests that wait, behind the one on the wire if there is one
abbrev pub on_bus : Option Transmission → List Waiting → List Waiting
on_bus None waiting = waiting
on_bus (Some t) waiting = t.request ∷ waiting

-- a bit takes time; the waiting requests are a heap; each request, also that on the wire, has its own name
-- and a lesser number than its node's next one; and there is room for all of them to wait
pub record IsHeapBus (b : Inside) : Type 0 where
  pub takes_time : 1 ≤ b.bit
  pub heap : IsHeap b.waiting.items
  pub distinct : AreNamesDistinct (on_bus b.wire b.waiting.items)
  pub below_next : All (IsBelowNext (state_of b)) (on_bus b.wire b.waiting.items)
  pub room : length (on_bus b.wire b.waiting.items) ≤ vec_capacity b.waiting
