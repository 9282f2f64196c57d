-- The bus of ISO 11898-1 (arbitration, interframe space) with requests that wait: its state, and what
-- each call makes of it.
use Rattle.std.specs.Prelude.{ℕ, ◌*◌, ◌+◌, ◌-◌, ◌^◌, ◌≤◌, ◌==◌, nat_lt, nat_le, Bool, false, ◌&&◌, if◌then◌else◌, ◌≡◌, ◌⊎◌, map, Option, None, Some, MatchOption, is_none, is_some, unwrap_or}
use Rattle.can_frame.specs.Frame.{FrameFields}
use Rattle.frame_bits.specs.Length.{frame_length}
use Rattle.std.specs.Option.{option_map, option_map_or}
use Rattle.std.specs.Ordering.{nat_cmp}
use Rattle.std.specs.FinMap.{FinMap, get, insert, remove, retain_keys, len, empty}
use Rattle.can_bus.specs.declared.waiting.Waiting.{Waiting}
use Rattle.can_bus.specs.declared.transmission.Transmission.{Transmission}
use Rattle.can_bus.specs.declared.bus.Ended.{Ended}
use Rattle.can_bus.specs.Meaning.{BusMeaning}
use Rattle.can_bus.specs.Waiting.{RequestName, Requests, request_name, requests_of, members, winner}

-- ---- How long a frame and the intermission behind it take (ISO 11898-1, data frame, remote frame and
-- interframe space).

-- the microseconds that a frame is on the wire, where a bit takes so many
abbrev pub time_on_wire : FrameFields → ℕ → ℕ
time_on_wire frame bit = frame_length frame * bit

-- the microseconds of the three bits after the end of a frame in which no other begins
abbrev pub intermission : ℕ → ℕ
intermission bit = 3 * bit

-- ---- The bus.

-- the waiting requests, the one on the wire, the moment from which the bus is free, the number of
-- each node's next request (0 where there is none), and the microseconds that a bit takes
pub record BusState : Type 0 where
  pub waiting : Requests
  pub wire : Option Transmission
  pub free : ℕ
  pub next : FinMap nat_cmp ℕ
  pub bit : ℕ

-- a bus on which nothing was requested
abbrev pub new_bus : ℕ → BusState
new_bus bit = record { waiting = empty; wire = None; free = 0; next = empty; bit = bit }

-- a bit takes time
abbrev pub BitTakesTime : BusState → Type 0
BitTakesTime s = 1 ≤ s.bit

-- the frame waits under some name, or is on the wire
abbrev pub Carries : BusState → FrameFields → Type 0
Carries s frame =
    ((name : RequestName) × (get s.waiting name ≡ Some frame))
    ⊎ MatchOption s.wire ⊥ (λ t. t.request.frame ≡ frame)

-- ---- requests

-- the number of the node's next request
abbrev pub next_number : BusState → ℕ → ℕ
next_number s node = unwrap_or (get s.next node) 0

-- the greatest number that a request can have
abbrev pub last_number : ℕ
last_number = 2 ^ 64 - 1

-- whether the wire carries a request of the node with a lesser number
abbrev pub carries_earlier : Option Transmission → ℕ → ℕ → Bool
carries_earlier None node number = false
carries_earlier (Some t) node number = (t.request.node == node) && nat_lt t.request.number number

-- how many requests of the node, waiting or on the wire, have a lesser number
abbrev pub rank : BusState → ℕ → ℕ → ℕ
rank s node number =
    len (retain_keys s.waiting (λ name. (name.0 == node) && nat_lt name.1 number))
    + (if carries_earlier s.wire node number then 1 else 0)

-- a request, where it is the node's with its rank for its number
abbrev pub with_rank : BusState → ℕ → Waiting → Waiting
with_rank s node r = if r.node == node then record r { number = rank s node r.number } else r

-- and the same of the request on the wire
abbrev pub transmission_with_rank : BusState → ℕ → Transmission → Transmission
transmission_with_rank s node t = record { request = with_rank s node t.request; end = t.end }

-- the bus with the node's requests numbered from 0 in their order
unfoldable pub with_ranks : BusState → ℕ → BusState
with_ranks s node = record s {
  waiting = requests_of (map (with_rank s node) (members s.waiting));
  wire = option_map (transmission_with_rank s node) s.wire;
  next = insert s.next node (rank s node (next_number s node));
}

-- the bus with one more request, under the node's next number
abbrev pub with_request : BusState → ℕ → FrameFields → BusState
with_request s node frame = record s {
  waiting = insert s.waiting (node, next_number s node) frame;
  next = insert s.next node (next_number s node + 1);
}

-- the bus after a request: under the last number, the node's requests are numbered from 0 first
abbrev pub after_request : BusState → ℕ → FrameFields → BusState
after_request s node frame =
    with_request (if next_number s node == last_number then with_ranks s node else s) node frame

-- ---- the wire

-- what ends now of what is on the wire, with its node
abbrev pub ended_on : Option Transmission → ℕ → Option Ended
ended_on None now = None
ended_on (Some t) now =
    if t.end == now then Some (record { node = t.request.node; frame = t.request.frame }) else None

-- the frame that ends now, with its node
abbrev pub ended : BusState → ℕ → Option Ended
ended s now = ended_on s.wire now

-- the bus without the frame that ends now
abbrev pub after_finish : BusState → ℕ → BusState
after_finish s now = if is_some (ended s now) then record s { wire = None } else s

-- whether the wire is empty and the bus is free
abbrev pub is_free : BusState → ℕ → Bool
is_free s now = is_none s.wire && nat_le s.free now

-- the request that wins arbitration now, if one does
abbrev pub winner_at : BusState → ℕ → Option Waiting
winner_at s now = if is_free s now then winner s.waiting else None

-- the bus on which the request begins now and takes so long; it is free again after the intermission
abbrev pub with_transmission : BusState → ℕ → ℕ → Waiting → BusState
with_transmission s now duration r =
    let end = now + duration in
    record s {
      waiting = remove s.waiting (request_name r);
      wire = Some (record { request = r; end = end });
      free = end + intermission s.bit;
    }

-- the bus after arbitration: a request that begins now takes the time of its frame
abbrev pub after_arbitration : BusState → ℕ → BusState
after_arbitration s now =
    option_map_or (λ r. with_transmission s now (time_on_wire r.frame s.bit) r) (winner_at s now) s

-- the moment by what is on the wire, what waits and when the bus is free
abbrev pub moment_by : Option Transmission → Requests → ℕ → Option ℕ
moment_by (Some t) waiting free = Some t.end
moment_by None waiting free = if len waiting == 0 then None else Some free

-- the end of the frame on the wire, else where a request waits the moment from which the bus is free
abbrev pub next_moment : BusState → Option ℕ
next_moment s = moment_by s.wire s.waiting s.free

-- the bus of one channel without errors, whose nodes have numbers of 32 bits
abbrev pub one_channel : BusMeaning BusState
one_channel = record {
  nodes = λ _. 2 ^ 32;
  sound = BitTakesTime;
  carries = Carries;
  after_request = after_request;
  next_moment = next_moment;
  ended = ended;
  after_finish = after_finish;
  after_arbitration = after_arbitration;
}
