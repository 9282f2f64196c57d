-- How a run of an event procedure leaves a memory and a host, by its ending.
use Rattle.std.specs.Prelude.{◌≡◌, ℕ, List, [], ◌∷◌, ◌++◌}
use Rattle.run_effects.specs.Effect.{Effect}
use Rattle.vm_host.specs.Host.{HostMeaning}
use Rattle.run_effects.specs.declared.outcome.Outcome.{Outcome}
use Rattle.bytecode.specs.Laws.{BeginsWith}
use Rattle.stack_vm.specs.declared.meter.MeterRow.{MeterRow}
use Rattle.stack_vm.specs.Memory.{MemoryState}
use Rattle.stack_vm.specs.Meter.{AddsRun}
use Rattle.stack_vm.specs.Runs.{IsRefusal, TakesAll}
use Rattle.typed_tree.specs.declared.program.THandler.{THandler}
use Rattle.typed_tree.specs.declared.program.Typed.{Typed}
use Rattle.typed_tree.specs.Program.{Ending, ending_of}

-- how an event procedure ends from the cells of a memory and the timers of a host, with so many turns, as its
-- typed tree says
abbrev pub meant_on : {S : Type 0} → HostMeaning S → Typed → THandler → ℕ → MemoryState → S → Ending
meant_on {S} host typed handler turns memory before =
    ending_of (record { typed = typed; closed = host.is_closed before; moment = host.moment before })
    handler turns (record { cells = memory.cells; active = host.active_timers before })

-- A run had this ending. The memory has its cells and the host its timers, the host has taken its effects in
-- order, and a row of the meter has one run more, with the turns that it took.
pub record EndsOnHost {S : Type 0} (host : HostMeaning S) (ending : Ending) (row : ℕ)
    (before : S) (meter : List MeterRow) (outcome : Outcome)
    (memory_after : MemoryState) (after : S) (meter_after : List MeterRow) : Type 0 where
  pub outcome_is : outcome ≡ ending.outcome
  pub cells : memory_after.cells ≡ ending.memory.cells
  pub timers : host.active_timers after ≡ ending.memory.active
  pub taken : TakesAll host before ending.effects after
  pub metered : AddsRun row ending.turns_taken meter meter_after

-- A run was refused on its way to this ending. The host took the first of its effects in order, and then
-- refused the next one, or there was no memory for its line.
pub record IsRefusedOnHost {S : Type 0} (host : HostMeaning S) (ending : Ending) (before after : S) : Type 0
  where
    pub first : List Effect
    pub effect : Effect
    pub between : S
    pub taken : TakesAll host before first between
    pub begins : BeginsWith ending.effects (first ++ effect ∷ [])
    pub refusal : IsRefusal host between effect after
