-- What contracts see of the fields of a `PairBus`, and what these keep.
use Rattle.channel_pair.specs.Pair.{PairState, IsSoundPair}
use Rattle.bus_pair.specs.declared.pair_bus.PairBus.TheInside.{Inside}

-- what contracts see of the fields
abbrev pub state_of : Inside → PairState
state_of b = record { one = b.one; two = b.two; held = b.held }

-- they are those of a sound pair
abbrev pub IsPairBus : Inside → Type 0
IsPairBus b = IsSoundPair (state_of b)
