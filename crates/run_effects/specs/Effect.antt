-- What a run of a program's code does to the world around it, and what its event procedures react to (CAPL
-- manual: write, output, stop, setTimer, setTimerCyclic, cancelTimer, event procedures).
use Rattle.std.specs.Prelude.{◌≡◌, ◌⊎◌, ℕ, ◌*◌, if◌then◌else◌, ℤ, pos, int_le, unsigned_abs, Bool, List, ◌≢◌, ◌<◌, ◌≤◌, [], Option, Some, None, All, AllPairs}
use Rattle.int_kinds.specs.declared.kinds.Kind.TheVariants.{Long}
use Rattle.int_kinds.specs.Kind.{wrap}
use Rattle.can_frame.specs.Frame.{FrameFields}
use Rattle.run_effects.specs.declared.event.Event.{Event}
use Rattle.run_effects.specs.declared.event.Event.TheVariants.{Message, Timer, Key}
use Rattle.run_effects.specs.declared.event.Selector.{Selector}

-- ---- How long a timer is set (CAPL manual, setTimer).

-- how many microseconds a duration in a unit is: wrapped to long, and below 1 it is 1
abbrev pub micros : ℕ → ℤ → ℕ
micros unit n = (if int_le (pos 1) (wrap Long n) then unsigned_abs (wrap Long n) else 1) * unit

-- a unit of a timer in microseconds: a millisecond or a second
abbrev pub IsUnit : ℕ → Type 0
IsUnit unit = (unit ≡ 1000) ⊎ (unit ≡ 1000000)

-- ---- What a run of a program's code does to the world around it. CAPL manual: write, output, stop,
-- setTimer, setTimerCyclic, cancelTimer.

-- one effect: a line of `write` with its text, a frame to the bus, the wish to stop, a timer that is set with
-- its microseconds and whether it is cyclic, or a timer that is cancelled
pub data Effect : Type 0 where
  Line : List ℕ → Effect
  Send : FrameFields → Effect
  Stop : Effect
  Set : ℕ → ℕ → Bool → Effect
  Cancel : ℕ → Effect

-- ---- What the event procedures of a program react to (CAPL manual, event procedures): selectors of frames,
-- timers and keys.

-- the selectors of a message procedure: rank, least and greatest key
abbrev pub selectors_of : Event → List Selector
selectors_of (Message selectors) = selectors
selectors_of _ = []

-- the timer of a timer procedure
abbrev pub timer_of : Event → Option ℕ
timer_of (Timer timer) = Some timer
timer_of _ = None

-- the key of a key procedure, where none stands for `*`
abbrev pub key_of : Event → Option (Option ℕ)
key_of (Key key) = Some key
key_of _ = None

-- a selector holds a selection key
pub record IsWithin (selector : Selector) (key : ℕ) : Type 0 where
  pub from : selector.low ≤ key
  pub to : key ≤ selector.high

-- two selectors have no key in common, if they are of one rank
abbrev pub AreApart : Selector → Selector → Type 0
AreApart a b = a.rank ≡ b.rank → (key : ℕ) → IsWithin a key → IsWithin b key → ⊥

-- selectors of known ranks, of which no two of one rank have a key in common
pub record KeepsSelectors (selectors : List Selector) : Type 0 where
  pub ranks : All (λ selector. selector.rank ≤ 2) selectors
  pub apart : AllPairs AreApart selectors

-- timers among so many, of which no two are the same
pub record KeepsTimers (timers : List ℕ) (count : ℕ) : Type 0 where
  pub exist : All (λ timer. timer < count) timers
  pub differ : AllPairs (λ a b. a ≢ b) timers
