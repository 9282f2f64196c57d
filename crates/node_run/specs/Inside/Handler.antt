-- The run of a handler by a node: the machine's run, and what its effects come to.
use Rattle.std.specs.Prelude.{◌≡◌, ◌⊎◌, ℕ, ◌-◌, Bool, List, [], ◌∷◌, ◌++◌}
use Rattle.can_frame.specs.Frame.{FrameFields}
use Rattle.run_effects.specs.Effect.{Effect}
use Rattle.run_effects.specs.declared.outcome.Outcome.{Outcome}
use Rattle.run_records.specs.Record.{RecordMeaning}
use Rattle.timer_queue.specs.Timers.{active_timers}
use Rattle.bytecode.specs.declared.code.Code.{Code}
use Rattle.bytecode.specs.Laws.{BeginsWith}
use Rattle.bytecode.specs.Machine.{Machine}
use Rattle.bytecode.specs.Runs.{EndsIn, IsStartOf}
use Rattle.stack_vm.specs.declared.meter.MeterRow.{MeterRow}
use Rattle.stack_vm.specs.Memory.{MemoryState}
use Rattle.stack_vm.specs.Meter.{AddsRun}
use Rattle.node_run.specs.Inside.Host.{ComeTo, Parts, PartsRefuse}

-- a state in which a handler begins, in a memory and with the timers of parts
pub record BeginsHere {B R : Type 0} (code : Code) (handler turns : ℕ) (memory : MemoryState)
    (before : Parts B R) (start : Machine) : Type 0 where
  pub is_start : IsStartOf code handler start
  pub cells : start.cells ≡ memory.cells
  pub active : start.active ≡ active_timers before.timers
  pub turns_given : start.turns ≡ turns
  pub no_effects : start.effects ≡ []

-- a handler was run to its end, and the parts come to what its effects come to
pub record RunsHandler {B R : Type 0} (after_request : B → ℕ → FrameFields → B) (meaning : RecordMeaning R)
    (code : Code) (closed : Bool) (handler turns row : ℕ) (memory : MemoryState) (before : Parts B R)
    (meter : List MeterRow) (outcome : Outcome) (memory_after : MemoryState) (after : Parts B R)
    (meter_after : List MeterRow) : Type 0 where
  pub start : Machine
  pub last : Machine
  pub begins : BeginsHere code handler turns memory before start
  pub ends : EndsIn code closed before.moment start outcome last
  pub cells : memory_after.cells ≡ last.cells
  pub come_to : ComeTo after_request meaning before last.effects after
  pub metered : AddsRun row (turns - last.turns) meter meter_after

-- the run of a handler was refused: the parts come to what the first of its effects come to, and then the
-- next one was refused or not given to them
pub record RefusesHandler {B R : Type 0} (after_request : B → ℕ → FrameFields → B) (meaning : RecordMeaning R)
    (code : Code) (closed : Bool) (handler turns : ℕ) (memory : MemoryState) (before after : Parts B R) :
    Type 0 where
  pub start : Machine
  pub at : Machine
  pub between : Parts B R
  pub effect : Effect
  pub begins : BeginsHere code handler turns memory before start
  pub come_to : ComeTo after_request meaning before at.effects between
  pub next_effect : (outcome : Outcome) (last : Machine) →
      EndsIn code closed before.moment start outcome last →
      BeginsWith last.effects (at.effects ++ effect ∷ [])
  pub refusal : (after.into ≡ between.into) ⊎ PartsRefuse meaning between effect after
  pub same_timers : after.timers ≡ between.timers
