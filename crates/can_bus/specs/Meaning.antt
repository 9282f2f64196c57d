-- What a bus is to those that give it frames: states, and what each call makes of them.
use Rattle.std.specs.Prelude.{ℕ, Option}
use Rattle.can_frame.specs.Frame.{FrameFields}
use Rattle.can_bus.specs.declared.bus.Ended.{Ended}

-- what the states of a bus mean
pub record BusMeaning (S : Type 0) : Type 1 where
  -- how many nodes it serves: their numbers are below this
  pub nodes : S → ℕ
  -- what holds of each bus that calls make
  pub sound : S → Type 0
  -- the frames that are on it: each waits, is on the wire, or left the wire and is held back
  pub carries : S → FrameFields → Type 0
  -- the bus after a request of this node
  pub after_request : S → ℕ → FrameFields → S
  -- the next moment at which something is due, if there is one
  pub next_moment : S → Option ℕ
  -- the frame that a call of `finish` at this moment gives, if it gives one
  pub ended : S → ℕ → Option Ended
  -- the bus after a call of `finish` at this moment
  pub after_finish : S → ℕ → S
  -- the bus after arbitration at this moment
  pub after_arbitration : S → ℕ → S
