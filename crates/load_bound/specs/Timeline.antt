-- The timeline of a bus on which frames are requested at given moments: what it does from instant to instant.
use Rattle.std.specs.Prelude.{ℕ, ◌==◌, min, if◌then◌else◌, List, [], ◌∷◌, Option, None, Some}
use Rattle.std.specs.Option.{option_map_or}
use Rattle.std.proofs.Common.{zero, suc}
use Rattle.can_frame.specs.Frame.{FrameFields}
use Rattle.can_bus.specs.declared.waiting.Waiting.{Waiting}
use Rattle.can_bus.specs.Bus.{BusState, new_bus, after_request, after_finish, winner_at, after_arbitration, next_moment}

-- a node's frame at a moment: that of its request, or that of its start
pub record FrameAt : Type 0 where
  pub moment : ℕ
  pub node : ℕ
  pub frame : FrameFields

-- the bus after an instant, the moment of the instant, the requests that are still to come, in order, and,
-- the newest first, the requests that were made and the frames that began
pub record Line : Type 0 where
  pub bus : BusState
  pub now : ℕ
  pub to_come : List FrameAt
  pub made : List FrameAt
  pub begun : List FrameAt

-- before the first instant
abbrev pub new_line : ℕ → List FrameAt → Line
new_line bit requests = record { bus = new_bus bit; now = 0; to_come = requests; made = []; begun = [] }

-- ---- when the next instant is

-- the moment of the first request
abbrev pub first_moment : List FrameAt → Option ℕ
first_moment [] = None
first_moment (r ∷ requests) = Some r.moment

-- the lesser of two moments, where there are two
abbrev pub earlier : Option ℕ → Option ℕ → Option ℕ
earlier None b = b
earlier (Some a) None = Some a
earlier (Some a) (Some b) = Some (min a b)

-- the moment at which something is due on the bus or a request comes, if there is one
abbrev pub next_instant : Line → Option ℕ
next_instant line = earlier (next_moment line.bus) (first_moment line.to_come)

-- ---- what happens at an instant

-- what ends now leaves the wire
abbrev pub with_end : ℕ → Line → Line
with_end now line = record line { bus = after_finish line.bus now; now = now }

-- a request is made
abbrev pub with_request : FrameAt → Line → Line
with_request r line = record line { bus = after_request line.bus r.node r.frame; made = r ∷ line.made }

-- those requests at the front that come now are made, one after another
abbrev pub with_requests : ℕ → List FrameAt → Line → Line
with_requests now [] line = record line { to_come = [] }
with_requests now (r ∷ requests) line =
    if r.moment == now
    then with_requests now requests (with_request r line)
    else record line { to_come = r ∷ requests }

-- the frame of a waiting request as it begins now
abbrev pub begins_at : ℕ → Waiting → FrameAt
begins_at now r = record { moment = now; node = r.node; frame = r.frame }

-- the bus arbitrates, and the winner begins, if there is one
abbrev pub with_start : ℕ → Line → Line
with_start now line = record line {
  bus = after_arbitration line.bus now;
  begun = option_map_or (λ r. begins_at now r ∷ line.begun) (winner_at line.bus now) line.begun;
}

-- an instant: first what ends, then the requests of the moment, and last arbitration
abbrev pub with_instant : ℕ → Line → Line
with_instant now line = with_start now (with_requests now line.to_come (with_end now line))

-- the line after the next instant, and the same line where there is none
abbrev pub with_next : Line → Line
with_next line = option_map_or (λ now. with_instant now line) (next_instant line) line

-- the line after so many instants
abbrev pub line_after : ℕ → List FrameAt → ℕ → Line
line_after bit requests zero = new_line bit requests
line_after bit requests (suc n) = with_next (line_after bit requests n)
