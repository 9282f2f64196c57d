-- How a node reacts by its code: the machine runs the code of its procedures.
use Rattle.std.specs.Prelude.{◌≡◌, ℕ, ◌-◌, Bool, List, [], ◌++◌, drop, map, ℤ, pos, slice_set}
use Rattle.run_effects.specs.declared.event.Event.{Event}
use Rattle.bytecode.specs.declared.code.Code.{Code}
use Rattle.bytecode.specs.declared.code.Handler.{Handler}
use Rattle.bytecode.specs.Machine.{Machine}
use Rattle.bytecode.specs.Runs.{EndsIn, IsStartOf}
use Rattle.stack_vm.specs.Frame.{message_of}
use Rattle.node_rounds.specs.declared.occurrence.Occurrence.{Occurrence}
use Rattle.node_rounds.specs.declared.occurrence.Occurrence.TheVariants.{Frame, Key}
use Rattle.node_rounds.specs.Reaction.{NodeState, Reacts, RunEnd, Runner, is_closed, reaction_of}

-- the memory of a node that runs code: the code, its cells, and how many turns each task has
pub record CodeMemory : Type 0 where
  pub code : Code
  pub cells : List ℤ
  pub turns : ℕ

-- what the procedures of handlers react to, in order
abbrev pub events_of : List Handler → List Event
events_of handlers = map (λ handler. handler.event) handlers

-- the cells with `this` of an occurrence: a frame in the first 14 cells, a key in the cell behind them
abbrev pub cells_with_this : Occurrence → ℕ → List ℤ → List ℤ
cells_with_this (Frame seen) now cells = message_of seen.frame seen.sent now ++ drop 14 cells
cells_with_this (Key key) now cells = slice_set cells 14 (pos key)
cells_with_this occurrence now cells = cells

-- The run of a procedure by the machine: from where its handler begins, with `this`, with these timers active
-- and with all turns, it ends with this outcome, in these cells, after these effects and turns.
pub record EndsByCode (memory : CodeMemory) (procedure : ℕ) (occurrence : Occurrence) (now : ℕ)
    (timers : List Bool) (end : RunEnd CodeMemory) : Type 0 where
  pub start : Machine
  pub last : Machine
  pub is_start : IsStartOf memory.code procedure start
  pub cells : start.cells ≡ cells_with_this occurrence now memory.cells
  pub active : start.active ≡ timers
  pub turns_given : start.turns ≡ memory.turns
  pub no_effects : start.effects ≡ []
  pub ends : EndsIn memory.code (is_closed occurrence) now start end.outcome last
  pub memory_after : end.memory ≡ record memory { cells = last.cells }
  pub effects : end.effects ≡ last.effects
  pub turns : end.turns ≡ memory.turns - last.turns

-- how procedures run by code
abbrev pub by_code : Runner CodeMemory
by_code = record {
  events = λ memory. events_of memory.code.handlers;
  ends = λ memory procedure occurrence now timers end. EndsByCode memory procedure occurrence now timers end;
}

-- how nodes react by code
abbrev pub code_reaction : Reacts (NodeState CodeMemory)
code_reaction = reaction_of by_code
