-- What contracts see of the fields of a `PlainBus`, and what these keep.
use Rattle.std.specs.Prelude.{◌≤◌, All}
use Rattle.std.specs.FinMap.{from_entries}
use Rattle.can_bus.specs.Waiting.{requests_of}
use Rattle.can_bus.specs.Bus.{BusState}
use Rattle.can_bus.specs.Ranks.{IsBelowNext}
use Rattle.arbitration.specs.declared.plain_bus.PlainBus.TheInside.{Inside}
use Rattle.arbitration.specs.Inside.Places.{InOrder}

-- what contracts see of the fields
abbrev pub state_of : Inside → BusState
state_of b = record {
  waiting = requests_of b.waiting.items;
  wire = b.wire;
  free = b.free;
  next = from_entries b.next.entries;
  bit = b.bit;
}

-- a bit takes time; the requests stand by node and then by number, and have lesser numbers than
-- their node's next one
pub record IsPlainBus (b : Inside) : Type 0 where
  pub takes_time : 1 ≤ b.bit
  pub in_order : InOrder b.waiting.items
  pub below_next : All (IsBelowNext (state_of b)) b.waiting.items
