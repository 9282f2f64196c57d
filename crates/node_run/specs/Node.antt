-- A node as contracts see it, and what its calls make of it.
use Rattle.std.specs.Prelude.{◌≡◌, ◌⊎◌, ℕ, ◌+◌, ◌<◌, Bool, false, List, [], ◌∷◌, ◌++◌, length, pos, replicate, IfSome, MatchOption}
use Rattle.can_frame.specs.Frame.{FrameFields}
use Rattle.run_records.specs.declared.record.Noted.TheVariants as entry
use Rattle.run_records.specs.Record.{RecordMeaning, RefusesEntry}
use Rattle.timer_queue.specs.Timers.{inactive}
use Rattle.bytecode.specs.declared.code.Code.{Code}
use Rattle.bytecode.specs.Laws.{BeginsWith}
use Rattle.stack_vm.specs.declared.meter.MeterRow.{MeterRow}
use Rattle.stack_vm.specs.Memory.{with_starts}
use Rattle.stack_vm.specs.Meter.{AddsRun}
use Rattle.stack_vm.specs.Quiet.{IsQuietHandler}
use Rattle.node_rounds.specs.Effects.{TakesEntries, after_requests, line_entries}
use Rattle.node_rounds.specs.Reaction.{NodeState}
use Rattle.node_rounds.specs.Round.{Doing, DoesNext, Task, nothing_left}
use Rattle.node_run.specs.Code.{CodeMemory, code_reaction}

-- a node: the first of its rows in a meter, the moment, and how it stands in the round
pub record NodeInRound : Type 0 where
  pub first_row : ℕ
  pub moment : ℕ
  pub doing : Doing (NodeState CodeMemory)

-- a node as it is loaded: the initial values in its cells, no active timer, not halted, and nothing to do
abbrev pub loaded : Code → ℕ → ℕ → NodeInRound
loaded code first_row turns = record {
  first_row = first_row;
  moment = 0;
  doing = record {
    node = record {
      memory = record {
        code = code;
        cells = with_starts (replicate (length code.cells) (pos 0)) code.starts;
        turns = turns;
      };
      timers = inactive (length code.timers);
      is_halted = false;
    };
    rest = nothing_left;
  };
}

-- a meter has a row for each handler of a node
abbrev pub HasRows : List MeterRow → NodeInRound → Type 0
HasRows meter node = (handler : ℕ) → handler < length node.doing.node.memory.code.handlers →
    node.first_row + handler < length meter

-- the row of the handler that ran has one run more, with the turns of the task, and no other row has changed;
-- a task that only takes a timer changes no row
abbrev pub IsMetered : ℕ → Task → List MeterRow → List MeterRow → Type 0
IsMetered first_row task before after = MatchOption task.trigger.procedure (after ≡ before)
    (λ handler. AddsRun (first_row + handler) task.turns before after)

-- A node of a number did its next task: its lines went to the record, its requests to the bus and its wish to
-- stop to the caller, the meter has its run, and the node stands where the task leaves it, at the same
-- moment.
pub record DoesTask {B R : Type 0} (after_request : B → ℕ → FrameFields → B) (meaning : RecordMeaning R)
    (number : ℕ) (before : NodeInRound) (bus : B) (into : R) (meter : List MeterRow)
    (stop : Bool) (after : NodeInRound) (bus_after : B) (into_after : R) (meter_after : List MeterRow) :
    Type 0 where
  pub task : Task
  pub next : DoesNext code_reaction before.moment before.doing task after.doing
  pub same_moment : after.moment ≡ before.moment
  pub same_row : after.first_row ≡ before.first_row
  pub lines : TakesEntries meaning into (line_entries before.moment number task.lines) into_after
  pub requests : bus_after ≡ after_requests after_request bus number task.requests
  pub stops : stop ≡ task.stops
  pub metered : IsMetered before.first_row task meter meter_after

-- these lines begin those of the next task
abbrev pub BeginTask : NodeInRound → List (List ℕ) → Type 0
BeginTask node lines = (task : Task) (after : Doing (NodeState CodeMemory)) →
    DoesNext code_reaction node.moment node.doing task after → BeginsWith task.lines lines

-- no row of a meter has changed, or the run of the next task was added
abbrev pub IsMeteredAtMost : NodeInRound → List MeterRow → List MeterRow → Type 0
IsMeteredAtMost node before after = (after ≡ before) ⊎ ((task : Task) × (left : Doing (NodeState CodeMemory))
    × DoesNext code_reaction node.moment node.doing task left × IsMetered node.first_row task before after)

-- A task of a node of a number ended by a fault: the record took the first of its lines in order, and then
-- refused its next line, or was not asked. At most the run of this task was added to the meter.
pub record IsTaskRefused {R : Type 0} (meaning : RecordMeaning R) (number : ℕ) (node : NodeInRound)
    (into into_after : R) (meter meter_after : List MeterRow) : Type 0 where
  pub lines : List (List ℕ)
  pub between : R
  pub first_lines : BeginTask node lines
  pub taken : TakesEntries meaning into (line_entries node.moment number lines) between
  pub refusal : (into_after ≡ between)
      ⊎ ((text : List ℕ) × RefusesEntry meaning between (entry.Line node.moment number text) into_after
      × BeginTask node (lines ++ text ∷ []))
  pub metered : IsMeteredAtMost node meter meter_after

-- the next task of a node is that of a quiet procedure, or of none, and does not halt the node
pub record HasQuietTask (node : NodeInRound) : Type 0 where
  pub task : Task
  pub after : Doing (NodeState CodeMemory)
  pub next : DoesNext code_reaction node.moment node.doing task after
  pub quiet : IfSome task.trigger.procedure (IsQuietHandler node.doing.node.memory.code)
  pub goes_on : after.node.is_halted ≡ false
