-- What a host is to a run of code: a state that takes effects.
use Rattle.std.specs.Prelude.{◌≡◌, ℕ, ◌≤◌, Bool, false, IsTrue, List, length}
use Rattle.texts.specs.Fault.{HasRisen}
use Rattle.run_effects.specs.Effect.{Effect}

-- what the states of a host mean
pub record HostMeaning (S : Type 0) : Type 1 where
  -- for each of its timers whether it is active
  pub active_timers : S → List Bool
  -- the present moment in microseconds
  pub moment : S → ℕ
  -- whether it is closed, since the measurement has ended
  pub is_closed : S → Bool
  -- how many calls failed at what it writes to. At its type's end the count stands still
  pub faults : S → ℕ
  -- how it may stand after it took an effect: before, the effect, after
  pub takes : S → Effect → S → Type 0
  -- how it may stand after it refused an effect: before, the effect, after
  pub refuses : S → Effect → S → Type 0

-- what every call keeps: the moment, whether the host is closed and how many timers it has. Faults never fall
pub record HostStays {S : Type 0} (host : HostMeaning S) (before after : S) : Type 0 where
  pub moment : host.moment after ≡ host.moment before
  pub closing : host.is_closed after ≡ host.is_closed before
  pub timers : length (host.active_timers after) ≡ length (host.active_timers before)
  pub faults : host.faults before ≤ host.faults after

-- its faults have risen
abbrev pub FaultsRise : {S : Type 0} → HostMeaning S → S → S → Type 0
FaultsRise {S} host before after = HasRisen (host.faults before) (host.faults after)

-- an effect is taken by a host that is open, and passes by a closed one, which stays as it was
pub record TakesUnlessClosed {S : Type 0} (host : HostMeaning S) (before : S) (effect : Effect) (after : S) :
    Type 0 where
  pub taken : host.is_closed before ≡ false → host.takes before effect after
  pub passed : IsTrue (host.is_closed before) → after ≡ before
