-- What does not depend on the order in which the nodes of a simulation do their tasks.
use Rattle.std.specs.Prelude.{◌≡◌, ℕ, ◌<◌, List, length, All}
use Rattle.can_bus.specs.Meaning.{BusMeaning}
use Rattle.run_records.specs.Record.{RecordMeaning}
use Rattle.stack_vm.specs.declared.meter.MeterRow.{MeterRow}
use Rattle.node_rounds.specs.Effects.{TakesEntries}
use Rattle.node_rounds.specs.Reaction.{NodeState}
use Rattle.node_run.specs.Code.{CodeMemory, code_reaction}
use Rattle.node_run.specs.Node.{NodeInRound}
use Rattle.run_meaning.specs.Counts.{AddsSteps}
use Rattle.run_meaning.specs.Run.{Passed}
use Rattle.run_meaning.specs.Steps.{Step, entries, steps}
use Rattle.task_orders.specs.Moves.{IsInterleaving, Move}
use Rattle.task_orders.specs.Values.{DifferInOrder}
use Rattle.task_orders.specs.World.{World, run_in}
use Rattle.sim_core.specs.Core.{CoreState, rows_of, run_of, states_of}

-- The steps of a simulation that was run are those of an interleaving of its run: their entries went to
-- the record in this order, their runs to the meter, and so its nodes stand at the end.
pub record IsInterleaved {B R : Type 0} (bus : BusMeaning B) (meaning : RecordMeaning R)
    (before : CoreState B) (into : R) (meter : List MeterRow) (after : CoreState B) (into_after : R)
    (meter_after : List MeterRow) : Type 0 where
  pub moves : List Move
  pub end : World (NodeState CodeMemory) B
  pub is_interleaving : IsInterleaving code_reaction bus before.until (run_of before) moves end
  pub nodes : states_of after.nodes ≡ (run_in end).nodes
  pub takes : TakesEntries meaning into (entries end.happened) into_after
  pub metered : AddsSteps (rows_of before.nodes) end.happened meter meter_after

-- there are picks, each a place among nodes, under which the steps of rounds are what happened in a world
pub record HasPicks {B : Type 0} (nodes : List NodeInRound) (rounds : List Passed)
    (end : World (NodeState CodeMemory) B) : Type 0 where
  pub picks : List ℕ
  pub happened : end.happened ≡ steps rounds picks
  pub few : All (λ pick. pick < length nodes) picks

-- Two simulations that were run came to the same: their nodes stand alike, with equal variables, their
-- meters have the same rows, and their records took the same frames, and the same lines of each node in
-- order.
pub record AreRunAlike {B R : Type 0} (meaning : RecordMeaning R) (after end : CoreState B)
    (into into_after others others_after : R) (meter_after meter_end : List MeterRow) : Type 0 where
  pub nodes : states_of end.nodes ≡ states_of after.nodes
  pub meter : meter_end ≡ meter_after
  pub steps : List Step
  pub other_steps : List Step
  pub takes : TakesEntries meaning into (entries steps) into_after
  pub takes_other : TakesEntries meaning others (entries other_steps) others_after
  pub differ : DifferInOrder steps other_steps
