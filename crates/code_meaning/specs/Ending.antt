-- How the machine's runs of an event procedure end, said in the words in which a typed tree says how the
-- procedure ends. The machine and its turns are this project's own.
use Rattle.std.specs.Prelude.{◌≡◌, ℕ, ◌-◌, Bool, false, [], length, Some, slice_get}
use Rattle.run_effects.specs.declared.outcome.Outcome.{Outcome}
use Rattle.bytecode.specs.declared.code.Code.{Code}
use Rattle.bytecode.specs.declared.code.Fun.{Fun}
use Rattle.bytecode.specs.declared.code.Handler.{Handler}
use Rattle.bytecode.specs.Machine.{Machine}
use Rattle.bytecode.specs.Runs.{EndsIn, IsStartOf}
use Rattle.typed_tree.specs.declared.program.THandler.{THandler}
use Rattle.typed_tree.specs.declared.program.Typed.{Typed}
use Rattle.typed_tree.specs.Expression.{Setting}
use Rattle.typed_tree.specs.Memory.{Memory}
use Rattle.typed_tree.specs.Program.{Ending, ending_of}

-- the cells and the active timers of a state
abbrev pub memory_in : Machine → Memory
memory_in m = record { cells = m.cells; active = m.active }

-- the ending of a run that was given so many turns, by its outcome and its last state
abbrev pub ending_in : ℕ → Outcome → Machine → Ending
ending_in turns outcome m =
    record { memory = memory_in m; turns_taken = turns - m.turns; effects = m.effects; outcome = outcome }

-- a run of code from a state ends
abbrev pub Ends : Code → Bool → ℕ → Machine → Type 0
Ends code closed moment start =
    (outcome : Outcome) × (m : Machine) × EndsIn code closed moment start outcome m

-- wherever a run of code from a state ends, its ending is this one
abbrev pub EndsOnlyAs : Code → Bool → ℕ → Machine → Ending → Type 0
EndsOnlyAs code closed moment start ending = (outcome : Outcome) (m : Machine) →
    EndsIn code closed moment start outcome m → ending_in start.turns outcome m ≡ ending

-- code lists an event procedure by its number: with its event, with its file and line, and as a function of
-- the code, which gives nothing
pub record IsListed (code : Code) (number : ℕ) (handler : THandler) : Type 0 where
  pub entry : Handler
  pub function : Fun
  pub is_entry : slice_get code.handlers number ≡ Some entry
  pub is_function : slice_get code.functions entry.function ≡ Some function
  pub event : entry.event ≡ handler.event
  pub file : entry.file ≡ handler.file
  pub line : entry.line ≡ handler.line
  pub gives_nothing : function.gives ≡ false

-- The code of an event procedure does what the procedure means. Its run may begin in any state in which the
-- cells are held by their kinds, with at least as many timers as the program has, with any number of turns,
-- in a measurement that has ended or not, and at any moment. It ends, and only as the procedure does.
pub record RunsAsMeant (typed : Typed) (code : Code) (number : ℕ) (handler : THandler) : Type 0 where
  pub listed : IsListed code number handler
  pub ends : (closed : Bool) (moment : ℕ) (start : Machine) →
      IsStartOf code number start → Ends code closed moment start
  pub as_meant : (closed : Bool) (moment : ℕ) (start : Machine) →
      IsStartOf code number start → start.effects ≡ [] → EndsOnlyAs code closed moment start
      (ending_of (record { typed = typed; closed = closed; moment = moment })
      handler start.turns (memory_in start))

-- code does what a typed program means: it has as many event procedures, and the code of each does what the
-- procedure means
pub record DoesWhatItMeans (typed : Typed) (code : Code) : Type 0 where
  pub as_many : length code.handlers ≡ length typed.handlers
  pub each : (number : ℕ) (handler : THandler) →
      slice_get typed.handlers number ≡ Some handler → RunsAsMeant typed code number handler

-- this is the ending of an event procedure from a memory, with so many turns
abbrev pub IsEndingOf : Setting → THandler → ℕ → Memory → Ending → Type 0
IsEndingOf s handler turns memory ending = ending ≡ ending_of s handler turns memory

-- this holds of one thing, and of no other
abbrev pub HasOneMember : {A : Type 0} → (A → Type 0) → Type 0
HasOneMember {A} P = (one : A) × P one × ((other : A) → P other → other ≡ one)
