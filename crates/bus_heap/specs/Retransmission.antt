-- What a `HeapBus` does beside what every bus does, for a bus above it whose transmissions may be disturbed:
-- a transmission takes longer, and a request waits again, or is dropped.
use Rattle.std.specs.Prelude.{ℕ, ◌+◌, ◌*◌, ◌==◌, not, None}
use Rattle.std.specs.Option.{option_map_or}
use Rattle.std.specs.FinMap.{insert, retain_keys}
use Rattle.can_bus.specs.declared.waiting.Waiting.{Waiting}
use Rattle.can_bus.specs.Bus.{time_on_wire, BusState, winner_at, with_transmission}
use Rattle.can_bus.specs.Waiting.{request_name}

-- the bus after arbitration: a request that begins now takes the time of its frame and of so many bits more
abbrev pub after_longer_arbitration : BusState → ℕ → ℕ → BusState
after_longer_arbitration s now bits =
    let more = bits * s.bit in
    option_map_or (λ r. with_transmission s now (time_on_wire r.frame s.bit + more) r) (winner_at s now) s

-- the bus with an empty wire, on which the request waits again under its own number
abbrev pub waiting_again : BusState → Waiting → BusState
waiting_again s r = record s { waiting = insert s.waiting (request_name r) r.frame; wire = None }

-- the bus on which the request that was on the wire waits again
abbrev pub with_wire_waiting : BusState → BusState
with_wire_waiting s = option_map_or (λ t. waiting_again s t.request) s.wire s

-- the bus without the requests of the node that wait
abbrev pub without_waiting_of : BusState → ℕ → BusState
without_waiting_of s node = record s { waiting = retain_keys s.waiting (λ name. not (name.0 == node)) }
