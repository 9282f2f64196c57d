-- What holds of a bus of two channels beside what every bus keeps.
use Rattle.std.specs.Prelude.{◌≡◌, ◌≢◌, ℕ, ◌↔◌, ◌++◌, None}
use Rattle.std.specs.Option.{option_to_list}
use Rattle.can_frame.specs.Frame.{FrameFields}
use Rattle.can_bus.specs.Bus.{BusState, new_bus}
use Rattle.can_bus.specs.Bus as channel
use Rattle.channel_pair.specs.Pair.{PairState, IsSoundPair}
use Rattle.channel_pair.specs.Pair as pair

-- `finish` gives nothing exactly where nothing is held and no frame ends now on either channel
abbrev pub GivesNothing : PairState → ℕ → Type 0
GivesNothing s now =
    (pair.ended s now ≡ None)
    ↔ ((s.held ≡ None) × (channel.ended s.one now ≡ None) × (channel.ended s.two now ≡ None))

-- after two calls of `finish` at one moment nothing is held
abbrev pub HoldsNothingAfterTwo : PairState → ℕ → Type 0
HoldsNothingAfterTwo s now = (pair.after_finish (pair.after_finish s now) now).held ≡ None

-- where nothing is held, two calls of `finish` at one moment give the frame that ends on channel 1 and
-- then the one on channel 2, each where there is one
abbrev pub GivesBoth : PairState → ℕ → Type 0
GivesBoth s now =
    s.held ≡ None
    → option_to_list (pair.ended s now) ++ option_to_list (pair.ended (pair.after_finish s now) now)
    ≡ option_to_list (channel.ended s.one now) ++ option_to_list (channel.ended s.two now)

-- the pair whose channel 1 is this bus, and on whose channel 2 nothing was requested
abbrev pub beside_nothing : BusState → PairState
beside_nothing s = record { one = s; two = new_bus s.bit; held = None }

-- each call of such a pair, where no frame of channel 2 is requested, gives what that bus gives, and
-- makes of it the pair of what it makes of that bus
pub record ActsAsOneChannel (s : BusState) : Type 0 where
  pub request : (node : ℕ) (frame : FrameFields) → frame.can ≢ 2
      → pair.after_request (beside_nothing s) node frame
      ≡ beside_nothing (channel.after_request s node frame)
  pub next_moment : pair.next_moment (beside_nothing s) ≡ channel.next_moment s
  pub ended : (now : ℕ) → pair.ended (beside_nothing s) now ≡ channel.ended s now
  pub finish : (now : ℕ)
      → pair.after_finish (beside_nothing s) now ≡ beside_nothing (channel.after_finish s now)
  pub arbitrate : (now : ℕ)
      → pair.after_arbitration (beside_nothing s) now ≡ beside_nothing (channel.after_arbitration s now)
