-- What nodes that run their code do in a round, task by task.
use Rattle.std.specs.Prelude.{◌≡◌, ℕ, ◌+◌, Bool, if◌then◌else◌, List, [], ◌∷◌, map, is_some, IsSome, IfSome, Option, Some, slice_get, slice_set, ⊤}
use Rattle.can_bus.specs.declared.bus.Ended.{Ended}
use Rattle.can_frame.specs.Frame.{FrameFields}
use Rattle.run_records.specs.Record.{RecordMeaning}
use Rattle.stack_vm.specs.declared.meter.MeterRow.{MeterRow}
use Rattle.node_rounds.specs.declared.round.Round.{Round}
use Rattle.node_rounds.specs.Reaction.{NodeState}
use Rattle.node_rounds.specs.Round.{Doing, DoesNext, IsDone, PartOf, Task, at_begin, next_of}
use Rattle.node_run.specs.Code.{CodeMemory, code_reaction}
use Rattle.node_run.specs.Node.{DoesTask, IsTaskRefused, NodeInRound}
use Rattle.node_run.specs.Sound.{CanOccur, IsSound}
use Rattle.run_meaning.specs.Run.{after_all_tasks, ask_stop, seen_by}
use Rattle.run_meaning.specs.Done.{AreCut, AreDone}
use Rattle.run_meaning.specs.Live.{AreDue, IsReady}
use Rattle.run_meaning.specs.Steps.{picks_after, task_steps}
use Rattle.sim_core.specs.Core.{rows_of, states_of}

-- whether a node has a further task in its round
abbrev pub has_next : NodeInRound → Bool
has_next node = is_some (next_of code_reaction node.moment node.doing)

-- the numbers of the nodes that have a further task, from a number on
abbrev pub open_nodes : ℕ → List NodeInRound → List ℕ
open_nodes number [] = []
open_nodes number (node ∷ nodes) =
    if has_next node then number ∷ open_nodes (number + 1) nodes else open_nodes (number + 1) nodes

-- how nodes stand in a round
abbrev pub doings_of : List NodeInRound → List (Doing (NodeState CodeMemory))
doings_of nodes = map (λ node. node.doing) nodes

-- these are all tasks that a node has left in a round, and so it stands after them
pub record IsLeft (now : ℕ) (d : Doing (NodeState CodeMemory)) (tasks : List Task)
    (after : NodeState CodeMemory) : Type 0 where
  pub end : Doing (NodeState CodeMemory)
  pub part : PartOf (DoesNext code_reaction now) (IsDone code_reaction now) d tasks end
  pub stands : after ≡ end.node

-- these are all tasks that each node has left in a round
abbrev pub AreLeft : ℕ → List (Doing (NodeState CodeMemory)) → List (List Task) → List (NodeState CodeMemory)
    → Type 0
AreLeft now [] [] [] = ⊤
AreLeft now (d ∷ ds) (tasks ∷ others) (after ∷ afters) =
    IsLeft now d tasks after × AreLeft now ds others afters
AreLeft now _ _ _ = ⊥

-- the node of a number has a further task
abbrev pub IsOpen : List NodeInRound → ℕ → Type 0
IsOpen nodes number =
    IfSome (slice_get nodes number) (λ node. IsSome (next_of code_reaction node.moment node.doing))

-- the node of a number did its next task, and no other changed
pub record DoesOne {B R : Type 0} (after_request : B → ℕ → FrameFields → B) (meaning : RecordMeaning R)
    (number : ℕ) (nodes : List NodeInRound) (bus : B) (into : R) (meter : List MeterRow)
    (stop : Bool) (nodes_after : List NodeInRound) (bus_after : B) (into_after : R)
    (meter_after : List MeterRow) : Type 0 where
  pub node : NodeInRound
  pub after : NodeInRound
  pub at : slice_get nodes number ≡ Some node
  pub does : DoesTask after_request meaning number node bus into meter stop after bus_after into_after
      meter_after
  pub nodes_are : nodes_after ≡ slice_set nodes number after

-- the next task of the node of a number was cut by a fault
pub record IsOneCut {R : Type 0} (meaning : RecordMeaning R) (number : ℕ) (nodes : List NodeInRound)
    (into into_after : R) (meter meter_after : List MeterRow) : Type 0 where
  pub node : NodeInRound
  pub at : slice_get nodes number ≡ Some node
  pub refused : IsTaskRefused meaning number node into into_after meter meter_after

-- nodes did all tasks that they had left in a round, in the order of the picks: their requests came to the
-- bus, their lines to the record and their runs to the meter, and it is told whether one asked to stop
pub record DoTasks {B R : Type 0} (after_request : B → ℕ → FrameFields → B) (meaning : RecordMeaning R)
    (now : ℕ) (nodes : List NodeInRound) (bus : B) (picks : List ℕ) (into : R) (meter : List MeterRow)
    (stops : Bool) (nodes_after : List NodeInRound) (bus_after : B) (picks_left : List ℕ) (into_after : R)
    (meter_after : List MeterRow) : Type 0 where
  pub tasks : List (List Task)
  pub left : AreLeft now (doings_of nodes) tasks (states_of nodes_after)
  pub bus_is : bus_after ≡ after_all_tasks after_request bus 0 tasks
  pub picks_are : picks_left ≡ picks_after tasks picks
  pub stops_are : stops ≡ ask_stop tasks
  pub done : AreDone meaning (rows_of nodes) (task_steps now tasks picks) into into_after meter meter_after

-- the tasks that nodes had left in a round were cut by a fault
pub record AreTasksCut {R : Type 0} (meaning : RecordMeaning R) (now : ℕ) (nodes : List NodeInRound)
    (picks : List ℕ) (into into_after : R) (meter meter_after : List MeterRow) : Type 0 where
  pub tasks : List (List Task)
  pub afters : List (NodeState CodeMemory)
  pub left : AreLeft now (doings_of nodes) tasks afters
  pub cut : AreCut meaning (rows_of nodes) (task_steps now tasks picks) into into_after meter meter_after

-- each node begins a round, from a number on, with the frame as it sees it
abbrev pub begun_nodes : Round → ℕ → Option Ended → List ℕ → ℕ → List NodeInRound → List NodeInRound
begun_nodes round now ended keys number [] = []
begun_nodes round now ended keys number (node ∷ nodes) =
    record node {
      moment = now;
      doing = at_begin code_reaction round (seen_by number ended) keys node.doing.node;
    } ∷ begun_nodes round now ended keys (number + 1) nodes

-- A node in a round at a moment that is sound, and none of whose timers was due before; what it has left to
-- do is for its own procedures.
pub record IsOwn (now : ℕ) (node : NodeInRound) : Type 0 where
  pub at : node.moment ≡ now
  pub ready : IsReady IsSound now node.doing.node
  pub due : AreDue CanOccur (code_reaction.procedures node.doing.node) node.doing.rest
