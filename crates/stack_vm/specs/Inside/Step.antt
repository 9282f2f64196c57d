-- One step of a run, as the machine's table has it.
use Rattle.std.specs.Prelude.{◌≡◌, ◌≢◌, ℕ, ◌+◌, ◌^◌, ◌<◌, ◌≤◌, Bool, List, [], ◌∷◌, ◌++◌, length, ℤ, pos, slice_index_or, Option, Some, None, ⊤}
use Rattle.std.specs.List.{AllByRecursion}
use Rattle.int_kinds.specs.Kind.{IsNumber}
use Rattle.run_effects.specs.Effect.{Effect}
use Rattle.vm_host.specs.Host.{HostMeaning}
use Rattle.run_effects.specs.declared.outcome.Outcome.{Outcome}
use Rattle.bytecode.specs.declared.code.Code.{Code}
use Rattle.bytecode.specs.declared.instr.Instr.{Instr}
use Rattle.bytecode.specs.declared.instr.Instr.TheVariants.{Case, Write, Send, Stop, Set, Cancel, Active, Now}
use Rattle.bytecode.specs.Machine.{Machine, Next, Goes, Ends, Stuck}
use Rattle.bytecode.specs.Rule.{NamesWhatExists}
use Rattle.bytecode.specs.Runs.{HoldKinds}
use Rattle.bytecode.specs.Shape.{shape_of}
use Rattle.bytecode.specs.Step.{row}
use Rattle.stack_vm.specs.declared.step.Needs.{Needs}
use Rattle.stack_vm.specs.declared.step.Needs.TheVariants.{Cases, Host}
use Rattle.stack_vm.specs.Cases.{HaveOtherLabels}
use Rattle.stack_vm.specs.Memory.{HasRoomFor}
use Rattle.stack_vm.specs.Runs.{IsRefusal, MayBeRefused, TakesAll}
use Rattle.stack_vm.specs.Inside.State.{HasSameRoom, RunState, machine}

-- the machine goes on, or ends with an outcome
abbrev pub answered : Option Outcome → Machine → Next
answered None m = Goes m
answered (Some outcome) m = Ends outcome m

-- an instruction that asks something of the host
abbrev pub AsksHost : Instr → Type 0
AsksHost (Write format) = ⊤
AsksHost (Send at) = ⊤
AsksHost Stop = ⊤
AsksHost (Set timer cyclic) = ⊤
AsksHost (Cancel timer) = ⊤
AsksHost (Active timer) = ⊤
AsksHost Now = ⊤
AsksHost _ = ⊥

-- the top of a state, or 0
abbrev pub top_of : RunState → ℤ
top_of s = slice_index_or s.stack 0 (pos 0)

-- an instruction is a Case whose label is another number than this one
pub record IsOtherCase (instr : Instr) (n : ℤ) : Type 0 where
  pub label : ℤ
  pub target : ℕ
  pub is_case : instr ≡ Case target label
  pub other : label ≢ n

-- what an instruction needs, at a state, that a step does not have at hand
abbrev pub IsNeededBy : Instr → RunState → Needs → Type 0
IsNeededBy instr s Host = AsksHost instr
IsNeededBy instr s Cases = IsOtherCase instr (top_of s)

-- an instruction that gives the host a line or a frame, which may be refused
abbrev pub GivesLineOrFrame : Instr → Type 0
GivesLineOrFrame (Write format) = ⊤
GivesLineOrFrame (Send at) = ⊤
GivesLineOrFrame _ = ⊥

-- the row of an instruction that asks nothing of the host leads from a state to another in this code, where
-- the machine goes on or has ended
pub record DoesIn (code : Code) (instr : Instr) (before : RunState) (end : Option Outcome)
    (after : RunState) : Type 0 where
  pub room : HasSameRoom before after
  pub leads : (closed : Bool) (moment : ℕ) (active : List Bool) (effects : List Effect) →
      row code closed moment (machine before active effects) instr before.stack
      ≡ answered end (machine after active effects)

-- it does so in any code, since it reads nothing of the code
pub record Does (instr : Instr) (before : RunState) (end : Option Outcome) (after : RunState) : Type 0 where
  pub in_code : (code : Code) → DoesIn code instr before end after

-- the machine passes from a state over Cases up to a place, since none of them has the top as its label
pub record Passes (code : Code) (before after : RunState) : Type 0 where
  pub end : ℕ
  pub above : before.place < end
  pub others : HaveOtherLabels code (top_of before) before.place end
  pub leads : after ≡ record before { place = end }

-- the row of an instruction leads from a state and a host to others, where the machine goes on or has ended
-- and the host has taken the new effects
pub record DoesOn {S : Type 0} (host : HostMeaning S) (code : Code) (instr : Instr) (s : RunState)
    (before : S) (end : Option Outcome) (s_after : RunState) (after : S) : Type 0 where
  pub new : List Effect
  pub room : HasSameRoom s s_after
  pub leads : (effects : List Effect) →
      row code (host.is_closed before) (host.moment before) (machine s (host.active_timers before) effects)
      instr s.stack ≡ answered end (machine s_after (host.active_timers after) (effects ++ new))
  pub taken : TakesAll host before new after

-- the row of an instruction, which gives the host a line or a frame, leads from a state and a host to a state
-- with one effect more, the one that was refused
pub record RefusesOn {S : Type 0} (host : HostMeaning S) (code : Code) (instr : Instr) (s : RunState)
    (before after : S) : Type 0 where
  pub effect : Effect
  pub next : RunState
  pub gives : GivesLineOrFrame instr
  pub leads : (effects : List Effect) →
      row code (host.is_closed before) (host.moment before) (machine s (host.active_timers before) effects)
      instr s.stack ≡ Goes (machine next (host.active_timers before) (effects ++ effect ∷ []))
  pub may_be : MayBeRefused effect
  pub refusal : IsRefusal host before effect after

-- What an instruction asks of the state is there: numbers on the stack, cells that their kinds hold, what
-- it names, the next place, and, on some host with the timers of the code, a row that is not stuck and room
-- for the state that it leads to.
pub record IsReady (code : Code) (instr : Instr) (s : RunState) : Type 0 where
  pub numbers : AllByRecursion IsNumber s.stack
  pub cells_held : HoldKinds code.cells s.cells
  pub taken : (shape_of code instr).taken ≤ length s.stack
  pub named : NamesWhatExists code (shape_of code instr).named
  pub next : s.place + 1 < 2 ^ 64
  pub closed : Bool
  pub moment : ℕ
  pub active : List Bool
  pub effects : List Effect
  pub timers : length code.timers ≤ length active
  pub runs : row code closed moment (machine s active effects) instr s.stack ≢ Stuck
  pub fits : (after : Machine) →
      row code closed moment (machine s active effects) instr s.stack ≡ Goes after →
      HasRoomFor s.numbers_room s.calls_room after
