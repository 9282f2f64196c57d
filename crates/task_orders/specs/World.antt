-- Nodes on one bus that do their tasks one by one, in whichever order: how they stand between two tasks.
use Rattle.std.specs.Prelude.{ℕ, ◌+◌, Bool, true, false, ◌||◌, if◌then◌else◌, List, [], ◌∷◌, ◌++◌, map, Option, None, slice_set}
use Rattle.can_bus.specs.declared.bus.Ended.{Ended}
use Rattle.can_bus.specs.Meaning.{BusMeaning}
use Rattle.scenario.specs.declared.scenario.KeyItem.{KeyItem}
use Rattle.replay_node.specs.declared.replay.Request.{Request}
use Rattle.node_rounds.specs.declared.round.Round.{Round}
use Rattle.node_rounds.specs.declared.round.Round.TheVariants as round
use Rattle.node_rounds.specs.Effects.{after_requests}
use Rattle.node_rounds.specs.Reaction.{Reacts}
use Rattle.node_rounds.specs.Round.{Doing, Task, at_begin}
use Rattle.run_meaning.specs.Run.{RunState, seen_by}
use Rattle.run_meaning.specs.Steps.{Step, ended_steps, task_done}

-- In which round a run is: that before the start, that of the start, the first or the second of a later
-- instant, or that of the stop.
pub data Stage : Type 0 where
  in_pre_start : Stage
  in_start : Stage
  in_first : Stage
  in_second : Stage
  in_stop : Stage

-- what kind of round it is to a node
abbrev pub round_of : Stage → Round
round_of in_pre_start = round.PreStart
round_of in_start = round.Start
round_of in_first = round.Moment
round_of in_second = round.Moment
round_of in_stop = round.Stop

-- whether it is the round of the stop: what its tasks ask for comes to nothing
abbrev pub is_last : Stage → Bool
is_last in_pre_start = false
is_last in_start = false
is_last in_first = false
is_last in_second = false
is_last in_stop = true

-- A world: the nodes, each with what it has left to do in the round, their bus, the keys and the requests of
-- the replay that are still to come, the moment, the round, whether a node asked to stop, and what has
-- happened so far, in order: frames that ended, and tasks. What these leave in a record is the record so far.
pub record World (S B : Type 0) : Type 0 where
  pub nodes : List (Doing S)
  pub bus : B
  pub keys : List KeyItem
  pub requests : List Request
  pub moment : ℕ
  pub stage : Stage
  pub stops : Bool
  pub happened : List Step

-- how the run of a world stands, without what the nodes have left to do
abbrev pub run_in : {S B : Type 0} → World S B → RunState S B
run_in {S} {B} w = record {
  nodes = map (λ d. d.node) w.nodes;
  bus = w.bus;
  keys = w.keys;
  requests = w.requests;
  moment = w.moment;
  stops = w.stops;
}

-- ---- a task

-- The world after the node of a number did a task, which leaves it so. Its requests come to the bus and its
-- wish to stop counts at once, but in the round of the stop.
abbrev pub after_task : {S B : Type 0} → BusMeaning B → World S B → ℕ → Task → Doing S → World S B
after_task {S} {B} bus w number task left = record w {
  nodes = slice_set w.nodes number left;
  bus = if is_last w.stage then w.bus else after_requests bus.after_request w.bus number task.requests;
  stops = if is_last w.stage then w.stops else w.stops || task.stops;
  happened = w.happened ++ task_done w.moment number task ∷ [];
}

-- ---- a round

-- nodes at the beginning of a round, with a frame that ended, as each sees it, and with keys that are
-- pressed; from a number on
abbrev pub all_begin : {S : Type 0} → Reacts S → Round → Option Ended → List ℕ → ℕ → List S → List (Doing S)
all_begin {S} r round ended keys number [] = []
all_begin {S} r round ended keys number (node ∷ nodes) =
    at_begin r round (seen_by number ended) keys node ∷ all_begin r round ended keys (number + 1) nodes

-- the world at the beginning of a round, from how the run stands and what has happened before
abbrev pub at_round : {S B : Type 0} → Reacts S → Stage → Option Ended → List ℕ → RunState S B → List Step
    → World S B
at_round {S} {B} r stage ended keys s happened = record {
  nodes = all_begin r (round_of stage) ended keys 0 s.nodes;
  bus = s.bus;
  keys = s.keys;
  requests = s.requests;
  moment = s.moment;
  stage = stage;
  stops = s.stops;
  happened = happened ++ ended_steps s.moment ended;
}

-- the world in which the round before the start begins
abbrev pub first_world : {S B : Type 0} → Reacts S → RunState S B → World S B
first_world {S} {B} r s = at_round r in_pre_start None [] s []
