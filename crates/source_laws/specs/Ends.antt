-- What it is that the machine runs an event procedure as its source means it.
use Rattle.std.specs.Prelude.{◌≡◌, ◌≤◌, ℕ, ◌-◌, Bool, List, [], ◌++◌, length, ℤ}
use Rattle.run_effects.specs.declared.outcome.Outcome.{Outcome}
use Rattle.bytecode.specs.declared.code.Code.{Code}
use Rattle.bytecode.specs.Machine.{Machine}
use Rattle.bytecode.specs.Runs.{EndsIn, HoldKinds, IsStartOf}
use Rattle.capl_meaning.specs.Names.{Names}
use Rattle.capl_meaning.specs.Store.{This, event_cells, event_kinds, laid_kinds, lay, timer_units}
use Rattle.capl_meaning.specs.Expression.{Memory}
use Rattle.capl_meaning.specs.Statement.{Ending, Handler, ending_of}

-- the cells of an event, and behind them those that a store is laid out in
abbrev pub cells_with : Names → This → Memory → List ℤ
cells_with names this memory = event_cells this ++ lay names memory.store

-- each of these cells holds a number of its kind, and there are as many timers as the source has, or more
pub record IsHeld (names : Names) (this : This) (memory : Memory) : Type 0 where
  pub cells : HoldKinds (event_kinds ++ laid_kinds names) (cells_with names this memory)
  pub timers : length (timer_units names) ≤ length memory.active

-- The machine begins the event procedure of a number in this state: with the cells of an event and of the
-- laid out store, the active timers of the memory, so many turns, and no effect yet.
pub record IsBegun (code : Code) (names : Names) (number turns : ℕ) (this : This) (memory : Memory)
    (start : Machine) : Type 0 where
  pub is_start : IsStartOf code number start
  pub cells : start.cells ≡ cells_with names this memory
  pub active : start.active ≡ memory.active
  pub turns_given : start.turns ≡ turns
  pub no_effects : start.effects ≡ []

-- The machine, which was given so many turns, has ended with an outcome as an event procedure of a source
-- ends: the cells of the event are the same and the store is laid out behind them, and the active timers, the
-- effects in order, the turns that were taken and the outcome are the source's.
pub record HasEndedAs (names : Names) (turns : ℕ) (this : This) (ending : Ending) (outcome : Outcome)
    (last : Machine) : Type 0 where
  pub cells : last.cells ≡ cells_with names this ending.memory
  pub active : last.active ≡ ending.memory.active
  pub effects : last.effects ≡ ending.effects
  pub taken : turns - last.turns ≡ ending.turns_taken
  pub outcome_is : outcome ≡ ending.outcome

-- The machine runs the event procedure of a number as one of a source runs. It can begin, from each such
-- beginning it ends, and it ends as the source does and in no other way.
pub record RunsAsSource (code : Code) (names : Names) (number : ℕ) (handler : Handler) (this : This)
    (closed : Bool) (moment turns : ℕ) (memory : Memory) : Type 0 where
  pub begins : (start : Machine) × IsBegun code names number turns this memory start
  pub ends : (start : Machine) → IsBegun code names number turns this memory start →
      (outcome : Outcome) × (last : Machine) × EndsIn code closed moment start outcome last
  pub only_so : (start : Machine) → IsBegun code names number turns this memory start →
      (outcome : Outcome) (last : Machine) → EndsIn code closed moment start outcome last →
      HasEndedAs names turns this (ending_of handler this closed moment turns memory) outcome last
