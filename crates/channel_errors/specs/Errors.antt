-- The bus of one channel with planned errors: its state, and what each call makes of it. Counts,
-- retransmission and bus-off are those of a transmitter in ISO 11898-1 (fault confinement). That a
-- disturbance is seen at the frame's end, and an error frame of 14 bits, are this project's own.
use Rattle.std.specs.Prelude.{◌≡◌, ℕ, ◌+◌, ◌-◌, ◌*◌, ◌==◌, nat_lt, Bool, true, false, not, if◌then◌else◌, List, length, replicate, slice_index, slice_set, Option, None, Some, IfSome}
use Rattle.std.specs.Ordering.{nat_cmp}
use Rattle.std.specs.FinSet.{FinSet, contains}
use Rattle.std.specs.Option.{option_map_or}
use Rattle.std.specs.FinMap.{get, insert, retain_keys}
use Rattle.can_frame.specs.Frame.{FrameFields}
use Rattle.can_bus.specs.declared.waiting.Waiting.{Waiting}
use Rattle.can_bus.specs.declared.transmission.Transmission.{Transmission}
use Rattle.can_bus.specs.declared.bus.Ended.{Ended}
use Rattle.can_bus.specs.Meaning.{BusMeaning}
use Rattle.can_bus.specs.Bus.{time_on_wire, BusState, BitTakesTime}
use Rattle.can_bus.specs.Waiting.{Requests, request_name}
use Rattle.can_bus.specs.Bus as channel

-- the plain bus, which is the one without errors; the set of the numbers of the transmissions that are
-- disturbed, counted from 1 over the whole run; how many transmissions have begun, retransmissions too; and
-- for each node its count. A node is off where its count is above 255. It never transmits again, so its
-- count stays above, and no mark besides is needed
pub record ErrorState : Type 0 where
  pub plain : BusState
  pub planned : FinSet nat_cmp
  pub begun : ℕ
  pub counts : List ℕ

-- a bus of so many nodes on which nothing was requested, whose bits take so long
abbrev pub new_bus : ℕ → FinSet nat_cmp → ℕ → ErrorState
new_bus bit planned nodes = record {
  plain = channel.new_bus bit;
  planned = planned;
  begun = 0;
  counts = replicate nodes 0;
}

-- ---- counts

-- whether the node is off by these counts; a node without a count is not
abbrev pub is_off_in : List ℕ → ℕ → Bool
is_off_in counts node = nat_lt 255 (slice_index counts node)

-- whether the node is off
abbrev pub is_off : ErrorState → ℕ → Bool
is_off s node = is_off_in s.counts node

-- the counts after a frame of the node that was sent: 1 less, but not below 0
abbrev pub counts_after_sent : List ℕ → ℕ → List ℕ
counts_after_sent counts node = slice_set counts node (slice_index counts node - 1)

-- the counts after a frame of the node that was disturbed: 8 more
abbrev pub counts_after_disturbed : List ℕ → ℕ → List ℕ
counts_after_disturbed counts node = slice_set counts node (slice_index counts node + 8)

-- bits take time, and a node that is off has no frame, waiting or on the wire
pub record IsSoundErrors (s : ErrorState) : Type 0 where
  pub takes_time : BitTakesTime s.plain
  pub none_waits : (node number : ℕ) → is_off s node ≡ true → get s.plain.waiting (node, number) ≡ None
  pub none_on_wire : IfSome s.plain.wire (λ t. is_off s t.request.node ≡ false)

-- the frame is on the plain bus
abbrev pub Carries : ErrorState → FrameFields → Type 0
Carries s frame = channel.Carries s.plain frame

-- ---- requests

-- the bus after a request: what the plain bus makes of it, but nothing changes where the node is off
abbrev pub after_request : ErrorState → ℕ → FrameFields → ErrorState
after_request s node frame =
    if is_off s node then s else record s { plain = channel.after_request s.plain node frame }

-- ---- the wire

-- whether the transmission of this number is disturbed
abbrev pub is_planned : FinSet nat_cmp → ℕ → Bool
is_planned planned number = contains planned number

-- whether the transmission that began last is disturbed, which is the one on the wire if there is one
abbrev pub is_disturbed : ErrorState → Bool
is_disturbed s = is_planned s.planned s.begun

-- the frame that ends now, with its node, where its transmission is not disturbed
abbrev pub ended : ErrorState → ℕ → Option Ended
ended s now = if is_disturbed s then None else channel.ended s.plain now

-- the bus after the request's frame was sent: the wire is empty, and its node's count is 1 less
abbrev pub after_sent : ErrorState → Waiting → ErrorState
after_sent s r = record s {
  plain = record s.plain { wire = None };
  counts = counts_after_sent s.counts r.node;
}

-- what waits after the request's frame was disturbed, by the counts after it: the frame too, under its own
-- number; where its node is then off, none of that node's
abbrev pub waiting_after_disturbed : Requests → List ℕ → Waiting → Requests
waiting_after_disturbed waiting counts r =
    if is_off_in counts r.node then retain_keys waiting (λ name. not (name.0 == r.node))
    else insert waiting (request_name r) r.frame

-- the bus after the request's frame was disturbed: the wire is empty, and its node's count is 8 more
abbrev pub after_disturbed : ErrorState → Waiting → ErrorState
after_disturbed s r =
    let counts = counts_after_disturbed s.counts r.node in
    record s {
      plain = record s.plain { wire = None; waiting = waiting_after_disturbed s.plain.waiting counts r };
      counts = counts;
    }

-- the bus where this was on the wire, without it where it ends now
abbrev pub after_finish_of : Option Transmission → ErrorState → ℕ → ErrorState
after_finish_of None s now = s
after_finish_of (Some t) s now =
    if t.end == now then (if is_disturbed s then after_disturbed s t.request else after_sent s t.request)
    else s

-- the bus without the transmission that ends now
abbrev pub after_finish : ErrorState → ℕ → ErrorState
after_finish s now = after_finish_of s.plain.wire s now

-- ---- arbitration

-- the microseconds of the 14 bits of an error frame
abbrev pub error_frame : ℕ → ℕ
error_frame bit = 14 * bit

-- the microseconds that the frame is on the wire where it begins next, with an error frame where it is
-- then disturbed
abbrev pub next_duration : ErrorState → FrameFields → ℕ
next_duration s frame =
    time_on_wire frame s.plain.bit
    + (if is_planned s.planned (s.begun + 1) then error_frame s.plain.bit else 0)

-- the bus on which the request begins now, as one more transmission
abbrev pub with_transmission : ErrorState → ℕ → Waiting → ErrorState
with_transmission s now r = record s {
  plain = channel.with_transmission s.plain now (next_duration s r.frame) r;
  begun = s.begun + 1;
}

-- the bus after arbitration: the plain bus's winner begins
abbrev pub after_arbitration : ErrorState → ℕ → ErrorState
after_arbitration s now = option_map_or (with_transmission s now) (channel.winner_at s.plain now) s

-- what is due next: the same as on the plain bus
abbrev pub next_moment : ErrorState → Option ℕ
next_moment s = channel.next_moment s.plain

-- the bus of one channel with planned errors, which serves the nodes that have a count
abbrev pub with_errors : BusMeaning ErrorState
with_errors = record {
  nodes = λ s. length s.counts;
  sound = IsSoundErrors;
  carries = Carries;
  after_request = after_request;
  next_moment = next_moment;
  ended = ended;
  after_finish = after_finish;
  after_arbitration = after_arbitration;
}
