-- What holds of a bus with planned errors beside what every bus keeps.
use Rattle.std.specs.Prelude.{◌≡◌, ℕ, ◌+◌, true, false, ◌⊎◌, ◌↔◌, if◌then◌else◌, replicate, None, Some, is_some}
use Rattle.std.specs.FinSet.{empty}
use Rattle.can_frame.specs.Frame.{FrameFields}
use Rattle.can_bus.specs.declared.transmission.Transmission.{Transmission}
use Rattle.can_bus.specs.Waiting.{Waits}
use Rattle.can_bus.specs.Bus.{BusState}
use Rattle.can_bus.specs.Bus as channel
use Rattle.channel_errors.specs.Errors.{ErrorState, IsSoundErrors, is_off, is_disturbed}
use Rattle.channel_errors.specs.Errors as errors

-- `finish` gives nothing exactly where no undisturbed transmission ends now
abbrev pub GivesNothing : ErrorState → ℕ → Type 0
GivesNothing s now =
    (errors.ended s now ≡ None) ↔ ((is_disturbed s ≡ true) ⊎ (channel.ended s.plain now ≡ None))

-- a disturbed transmission ends now
pub record EndsDisturbed (s : ErrorState) (t : Transmission) (now : ℕ) : Type 0 where
  pub on_wire : s.plain.wire ≡ Some t
  pub ends : t.end ≡ now
  pub disturbed : is_disturbed s ≡ true

-- the frame of a disturbed transmission waits again under its own number, where its node is not off then
abbrev pub WaitsAgain : ErrorState → ℕ → Type 0
WaitsAgain s now =
    (t : Transmission) → EndsDisturbed s t now → is_off (errors.after_finish s now) t.request.node ≡ false
    → Waits (errors.after_finish s now).plain.waiting t.request

-- a node that is off stays off, whatever the call
pub record OffStays (s : ErrorState) (node : ℕ) : Type 0 where
  pub request : (n : ℕ) (frame : FrameFields) → is_off (errors.after_request s n frame) node ≡ true
  pub finish : (now : ℕ) → is_off (errors.after_finish s now) node ≡ true
  pub arbitrate : (now : ℕ) → is_off (errors.after_arbitration s now) node ≡ true

-- this bus with no planned number, after so many transmissions, whose nodes' counts are 0
abbrev pub unplanned : BusState → ℕ → ℕ → ErrorState
unplanned s begun nodes = record { plain = s; planned = empty; begun = begun; counts = replicate nodes 0 }

-- each call of such a bus gives what the plain bus gives, and makes of it what it makes of that bus, with
-- one more transmission where one begins
pub record ActsAsPlain (s : BusState) (begun nodes : ℕ) : Type 0 where
  pub request : (node : ℕ) (frame : FrameFields)
      → errors.after_request (unplanned s begun nodes) node frame
      ≡ unplanned (channel.after_request s node frame) begun nodes
  pub next_moment : errors.next_moment (unplanned s begun nodes) ≡ channel.next_moment s
  pub ended : (now : ℕ) → errors.ended (unplanned s begun nodes) now ≡ channel.ended s now
  pub finish : (now : ℕ)
      → errors.after_finish (unplanned s begun nodes) now ≡ unplanned (channel.after_finish s now) begun nodes
  pub arbitrate : (now : ℕ)
      → errors.after_arbitration (unplanned s begun nodes) now
      ≡ unplanned (channel.after_arbitration s now)
      (if is_some (channel.winner_at s now) then begun + 1 else begun) nodes
