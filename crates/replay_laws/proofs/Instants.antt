-- A run as the bus has it: its instants, and the frames that leave the wire at them.
use Rattle.std.specs.Prelude.{ℕ, ◌+◌, ◌*◌, ◌≤◌, List, [], ◌∷◌, ◌++◌, Option, Some, None, ⊤}
use Rattle.can_frame.specs.Frame.{FrameFields}
use Rattle.frame_bits.specs.Length.{frame_length}
use Rattle.can_bus.specs.declared.bus.Ended.{Ended}
use Rattle.can_bus.specs.Bus.{BusState, after_arbitration, after_finish, after_request, ended}

-- a frame, and the moment at which it ended
pub record Logged : Type 0 where
  pub moment : ℕ
  pub frame : FrameFields

-- a node's request
pub record Ask : Type 0 where
  pub node : ℕ
  pub frame : FrameFields

-- a moment, and what is asked for at it, in order
pub record Instant : Type 0 where
  pub moment : ℕ
  pub asks : List Ask

-- the bus after these requests
abbrev pub with_asks : BusState → List Ask → BusState
with_asks s [] = s
with_asks s (ask ∷ asks) = with_asks (after_request s ask.node ask.frame) asks

-- the bus after an instant: the frame that ends leaves the wire, the requests are made, and the winner begins
abbrev pub after_instant : BusState → Instant → BusState
after_instant s i = after_arbitration (with_asks (after_finish s i.moment) i.asks) i.moment

-- the frame that ended at a moment, if one did
abbrev pub logged_at : ℕ → Option Ended → List Logged
logged_at now None = []
logged_at now (Some e) = record { moment = now; frame = e.frame } ∷ []

-- the frames that leave the wire at the instants
abbrev pub logged : BusState → List Instant → List Logged
logged s [] = []
logged s (i ∷ instants) = logged_at i.moment (ended s i.moment) ++ logged (after_instant s i) instants

-- the first frame starts at this moment or later, each further one at least three bits after the end before
-- it, and each ends at the last moment or before
abbrev pub AreSpaced : ℕ → ℕ → ℕ → List Logged → Type 0
AreSpaced bit last from [] = ⊤
AreSpaced bit last from (e ∷ es) = (from + frame_length e.frame * bit ≤ e.moment) × (e.moment ≤ last) × AreSpaced bit last (e.moment + 3 * bit) es
