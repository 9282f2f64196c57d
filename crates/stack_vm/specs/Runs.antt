-- A run of a handler in a memory, on a host.
use Rattle.std.specs.Prelude.{◌≡◌, ◌⊎◌, ℕ, ◌-◌, List, [], ◌∷◌, ◌++◌}
use Rattle.can_frame.specs.Frame.{FrameFields}
use Rattle.run_effects.specs.Effect.{Effect, Line, Send}
use Rattle.vm_host.specs.Host.{HostMeaning}
use Rattle.run_effects.specs.declared.outcome.Outcome.{Outcome}
use Rattle.bytecode.specs.declared.code.Code.{Code}
use Rattle.bytecode.specs.Laws.{BeginsWith}
use Rattle.bytecode.specs.Machine.{Machine}
use Rattle.bytecode.specs.Runs.{EndsIn, IsStartOf, Reaches}
use Rattle.stack_vm.specs.declared.meter.MeterRow.{MeterRow}
use Rattle.stack_vm.specs.Memory.{MemoryState}
use Rattle.stack_vm.specs.Meter.{AddsRun}

-- how a host may stand after it took effects in order: before, the effects, after
abbrev pub TakesAll : {S : Type 0} → HostMeaning S → S → List Effect → S → Type 0
TakesAll {S} host before [] after = after ≡ before
TakesAll {S} host before (effect ∷ effects) after =
    (between : S) × host.takes before effect between × TakesAll host between effects after

-- a state in which a handler begins with so many turns, with a memory's cells and a host's active timers
pub record BeginsIn {S : Type 0} (host : HostMeaning S) (code : Code) (handler turns : ℕ)
    (memory : MemoryState) (before : S) (start : Machine) : Type 0 where
  pub is_start : IsStartOf code handler start
  pub cells : start.cells ≡ memory.cells
  pub timers : start.active ≡ host.active_timers before
  pub turns_given : start.turns ≡ turns
  pub no_effects : start.effects ≡ []

-- A handler runs to an outcome, as the machine ends from where the handler begins. The memory has the cells
-- of that end and the host its timers, the host has taken the effects in order, and a row of the meter has
-- one run more, with the turns that it took.
pub record Runs {S : Type 0} (host : HostMeaning S) (code : Code) (handler turns row : ℕ)
    (memory : MemoryState) (before : S) (meter : List MeterRow) (outcome : Outcome)
    (memory_after : MemoryState) (after : S) (meter_after : List MeterRow) : Type 0 where
  pub start : Machine
  pub end : Machine
  pub begins : BeginsIn host code handler turns memory before start
  pub ends : EndsIn code (host.is_closed before) (host.moment before) start outcome end
  pub cells : memory_after.cells ≡ end.cells
  pub timers : host.active_timers after ≡ end.active
  pub taken : TakesAll host before end.effects after
  pub metered : AddsRun row (turns - end.turns) meter meter_after

-- a line or a frame, which may be refused
abbrev pub MayBeRefused : Effect → Type 0
MayBeRefused effect =
    ((text : List ℕ) × (effect ≡ Line text)) ⊎ ((frame : FrameFields) × (effect ≡ Send frame))

-- an effect was not given to a host, since there was no memory for a line, or the host refused it
abbrev pub IsRefusal : {S : Type 0} → HostMeaning S → S → Effect → S → Type 0
IsRefusal {S} host before effect after = (after ≡ before) ⊎ host.refuses before effect after

-- A run of a handler was refused at a state that the machine comes to from where the handler begins, by a
-- line or a frame. The host has taken the effects up to there in order, and the next effect of the whole run
-- is the one that was refused.
pub record IsRunRefused {S : Type 0} (host : HostMeaning S) (code : Code) (handler turns : ℕ)
    (memory : MemoryState) (before after : S) : Type 0 where
  pub start : Machine
  pub at : Machine
  pub between : S
  pub effect : Effect
  pub begins : BeginsIn host code handler turns memory before start
  pub comes : Reaches code (host.is_closed before) (host.moment before) start at
  pub timers : host.active_timers between ≡ at.active
  pub taken : TakesAll host before at.effects between
  pub next_effect : (outcome : Outcome) (end : Machine) →
      EndsIn code (host.is_closed before) (host.moment before) start outcome end →
      BeginsWith end.effects (at.effects ++ effect ∷ [])
  pub may_be : MayBeRefused effect
  pub refusal : IsRefusal host between effect after
