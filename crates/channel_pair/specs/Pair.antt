-- The bus of two channels: its state, and what each call makes of it. Which channel's frame goes first
-- where both end at one moment is this project's own.
use Rattle.std.specs.Prelude.{◌≡◌, ℕ, ◌^◌, ◌==◌, ◌⊎◌, min, if◌then◌else◌, Option, None, Some, MatchOption, IfSome, is_some}
use Rattle.std.specs.Option.{option_or}
use Rattle.can_frame.specs.Frame.{FrameFields}
use Rattle.can_bus.specs.declared.bus.Ended.{Ended}
use Rattle.can_bus.specs.Meaning.{BusMeaning}
use Rattle.can_bus.specs.Bus.{BusState, BitTakesTime, new_bus}
use Rattle.can_bus.specs.Bus as channel

-- the buses of channel 1 and of channel 2, and the frame that is held back, with its node
pub record PairState : Type 0 where
  pub one : BusState
  pub two : BusState
  pub held : Option Ended

-- two channels on which nothing was requested, whose bits take so long; nothing is held
abbrev pub new_pair : ℕ → PairState
new_pair bit = record { one = new_bus bit; two = new_bus bit; held = None }

-- bits take time, the same on both channels, and while a frame is held both wires are empty
pub record IsSoundPair (s : PairState) : Type 0 where
  pub takes_time : BitTakesTime s.one
  pub same_bit : s.one.bit ≡ s.two.bit
  pub wires_empty : IfSome s.held (λ _. (s.one.wire ≡ None) × (s.two.wire ≡ None))

-- the frame is on one of the channels, or is held
abbrev pub Carries : PairState → FrameFields → Type 0
Carries s frame =
    MatchOption s.held ⊥ (λ e. e.frame ≡ frame) ⊎ channel.Carries s.one frame ⊎ channel.Carries s.two frame

-- the pair after a request, which goes to the channel of its frame
abbrev pub after_request : PairState → ℕ → FrameFields → PairState
after_request s node frame =
    if frame.can == 2 then record s { two = channel.after_request s.two node frame }
    else record s { one = channel.after_request s.one node frame }

-- the lesser of two moments, or the one that there is
abbrev pub lesser_moment : Option ℕ → Option ℕ → Option ℕ
lesser_moment None b = b
lesser_moment (Some m) None = Some m
lesser_moment (Some m) (Some n) = Some (min m n)

-- the lesser of the channels' next moments
abbrev pub next_moment : PairState → Option ℕ
next_moment s = lesser_moment (channel.next_moment s.one) (channel.next_moment s.two)

-- the held frame; where none is, the frame that ends now on channel 1, else the one on channel 2
abbrev pub ended : PairState → ℕ → Option Ended
ended s now = option_or s.held (option_or (channel.ended s.one now) (channel.ended s.two now))

-- the second of two frames, where there are both
abbrev pub second_of_both : Option Ended → Option Ended → Option Ended
second_of_both None b = None
second_of_both (Some _) b = b

-- the pair without the held frame; where none is held, without the frames that end now, of which channel
-- 2's is held where both channels have one
abbrev pub after_finish : PairState → ℕ → PairState
after_finish s now =
    if is_some s.held then record s { held = None }
    else record {
      one = channel.after_finish s.one now;
      two = channel.after_finish s.two now;
      held = second_of_both (channel.ended s.one now) (channel.ended s.two now);
    }

-- the pair after arbitration on both channels; nothing is held
abbrev pub after_arbitration : PairState → ℕ → PairState
after_arbitration s now = record {
  one = channel.after_arbitration s.one now;
  two = channel.after_arbitration s.two now;
  held = None;
}

-- the bus of two channels without errors, whose nodes have numbers of 32 bits
abbrev pub two_channels : BusMeaning PairState
two_channels = record {
  nodes = λ _. 2 ^ 32;
  sound = IsSoundPair;
  carries = Carries;
  after_request = after_request;
  next_moment = next_moment;
  ended = ended;
  after_finish = after_finish;
  after_arbitration = after_arbitration;
}
