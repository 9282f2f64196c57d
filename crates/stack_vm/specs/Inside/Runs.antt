-- A run from the state in which it begins.
use Rattle.std.specs.Prelude.{◌≡◌, List, [], ◌∷◌, ◌++◌, Some, slice_get}
use Rattle.run_effects.specs.Effect.{Effect}
use Rattle.vm_host.specs.Host.{HostMeaning, HostStays}
use Rattle.run_effects.specs.declared.outcome.Outcome.{Outcome}
use Rattle.bytecode.specs.declared.code.Code.{Code}
use Rattle.bytecode.specs.declared.instr.Instr.{Instr}
use Rattle.bytecode.specs.Machine.{Machine}
use Rattle.bytecode.specs.Runs.{EndsIn, Reaches}
use Rattle.stack_vm.specs.Memory.{HasRoomFor}
use Rattle.stack_vm.specs.Runs.{IsRefusal, MayBeRefused, TakesAll}
use Rattle.stack_vm.specs.Inside.State.{HasSameRoom, RunState, machine}
use Rattle.stack_vm.specs.Inside.Step.{GivesLineOrFrame}

-- the machine with this state, the active timers of a host and these effects so far
abbrev pub machine_on : {S : Type 0} → HostMeaning S → RunState → S → List Effect → Machine
machine_on {S} host s stands effects = machine s (host.active_timers stands) effects

-- there is room for every state that the run reaches
abbrev pub HasRoomOn : {S : Type 0} → HostMeaning S → Code → RunState → S → Type 0
HasRoomOn {S} host code start before = (reached : Machine) →
    Reaches code (host.is_closed before) (host.moment before) (machine_on host start before []) reached →
    HasRoomFor start.numbers_room start.calls_room reached

-- the run has come to a state, and the host has taken the effects so far in order
pub record ComesTo {S : Type 0} (host : HostMeaning S) (code : Code) (start : RunState) (before : S)
    (s : RunState) (after : S) : Type 0 where
  pub effects : List Effect
  pub reached : Reaches code (host.is_closed before) (host.moment before) (machine_on host start before [])
      (machine_on host s after effects)
  pub taken : TakesAll host before effects after
  pub room : HasSameRoom start s
  pub stays : HostStays host before after

-- the run has ended with an outcome, and the host has taken its effects in order
pub record EndsWith {S : Type 0} (host : HostMeaning S) (code : Code) (start : RunState) (before : S)
    (outcome : Outcome) (s : RunState) (after : S) : Type 0 where
  pub effects : List Effect
  pub ended : EndsIn code (host.is_closed before) (host.moment before) (machine_on host start before [])
      outcome (machine_on host s after effects)
  pub taken : TakesAll host before effects after

-- the run was refused at an instruction that gives a line or a frame: the host took the effects up to there,
-- and the machine goes on to a state that has the refused one too
pub record IsRefused {S : Type 0} (host : HostMeaning S) (code : Code) (start : RunState) (before after : S) :
    Type 0 where
  pub at : RunState
  pub between : S
  pub effect : Effect
  pub next : RunState
  pub instr : Instr
  pub is_there : slice_get code.instrs at.place ≡ Some instr
  pub gives : GivesLineOrFrame instr
  pub comes : ComesTo host code start before at between
  pub goes_on : Reaches code (host.is_closed before) (host.moment before) (machine_on host start before [])
      (machine_on host next between (comes.effects ++ effect ∷ []))
  pub may_be : MayBeRefused effect
  pub refusal : IsRefusal host between effect after
