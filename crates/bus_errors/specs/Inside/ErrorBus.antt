-- What contracts see of the fields of an `ErrorBus`, and what these keep.
use Rattle.std.specs.Prelude.{◌≤◌}
use Rattle.channel_errors.specs.Errors.{ErrorState, IsSoundErrors}
use Rattle.bus_errors.specs.declared.error_bus.ErrorBus.TheInside.{Inside}

-- what contracts see of the fields
abbrev pub state_of : Inside → ErrorState
state_of b = record { plain = b.plain; planned = b.planned; begun = b.begun; counts = b.counts.items }

-- a sound bus, on which no more transmissions have begun than microseconds pass until it is free
pub record IsPaced (s : ErrorState) : Type 0 where
  pub sound : IsSoundErrors s
  pub begun_by_free : s.begun ≤ s.plain.free

-- the fields are those of such a bus
abbrev pub IsErrorBus : Inside → Type 0
IsErrorBus b = IsPaced (state_of b)
