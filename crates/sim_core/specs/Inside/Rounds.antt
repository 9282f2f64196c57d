-- What a simulation does in a round and in the rounds of a moment.
use Rattle.std.specs.Prelude.{◌≡◌, ℕ, List, [], ◌∷◌, Option}
use Rattle.can_bus.specs.declared.bus.Ended.{Ended}
use Rattle.can_bus.specs.Meaning.{BusMeaning}
use Rattle.run_records.specs.Record.{RecordMeaning}
use Rattle.stack_vm.specs.declared.meter.MeterRow.{MeterRow}
use Rattle.node_rounds.specs.declared.round.Round.{Round}
use Rattle.node_rounds.specs.declared.round.Round.TheVariants.{Moment}
use Rattle.node_rounds.specs.Reaction.{NodeState}
use Rattle.node_rounds.specs.Round.{Task}
use Rattle.node_run.specs.Code.{CodeMemory, code_reaction}
use Rattle.run_meaning.specs.Done.{AreCut, AreDone}
use Rattle.run_meaning.specs.Steps.{picks_after, picks_left, steps, task_steps}
use Rattle.run_meaning.specs.Run.{IsEnded, IsRound, Passed, RunState}
use Rattle.sim_core.specs.Core.{CoreState, KeepsNodes, rows_of, run_of, states_of}

-- a simulation did a round: these are the tasks of each node
pub record DoesRound {B R : Type 0} (bus : BusMeaning B) (meaning : RecordMeaning R) (round : Round)
    (ended : Option Ended) (keys : List ℕ) (before : CoreState B) (into : R) (meter : List MeterRow)
    (after : CoreState B) (into_after : R) (meter_after : List MeterRow) : Type 0 where
  pub tasks : List (List Task)
  pub is_round : IsRound code_reaction bus round ended keys (run_of before) tasks (run_of after)
  pub picks : after.picks ≡ picks_after tasks before.picks
  pub done : AreDone meaning (rows_of before.nodes) (task_steps before.moment tasks before.picks)
      into into_after meter meter_after

-- a round was cut by a fault
pub record IsRoundCut {B R : Type 0} (bus : BusMeaning B) (meaning : RecordMeaning R) (round : Round)
    (ended : Option Ended) (keys : List ℕ) (before : CoreState B) (into into_after : R)
    (meter meter_after : List MeterRow) : Type 0 where
  pub tasks : List (List Task)
  pub after : RunState (NodeState CodeMemory) B
  pub is_round : IsRound code_reaction bus round ended keys (run_of before) tasks after
  pub cut : AreCut meaning (rows_of before.nodes) (task_steps before.moment tasks before.picks)
      into into_after meter meter_after

-- A simulation did rounds of which a condition tells which they are and how the run stands after them.
pub record DoesRounds {B R : Type 0} (meaning : RecordMeaning R)
    (are : List Passed → RunState (NodeState CodeMemory) B → Type 0) (before : CoreState B) (into : R)
    (meter : List MeterRow) (after : CoreState B) (into_after : R) (meter_after : List MeterRow) :
    Type 0 where
  pub rounds : List Passed
  pub is : are rounds (run_of after)
  pub picks : after.picks ≡ picks_left rounds before.picks
  pub done : AreDone meaning (rows_of before.nodes) (steps rounds before.picks)
      into into_after meter meter_after

-- such rounds were cut by a fault
pub record AreRoundsCut {B R : Type 0} (meaning : RecordMeaning R)
    (are : List Passed → RunState (NodeState CodeMemory) B → Type 0) (before : CoreState B)
    (into into_after : R) (meter meter_after : List MeterRow) : Type 0 where
  pub rounds : List Passed
  pub after : RunState (NodeState CodeMemory) B
  pub is : are rounds after
  pub cut : AreCut meaning (rows_of before.nodes) (steps rounds before.picks)
      into into_after meter meter_after

-- a simulation did the round of the stop: so its nodes stand at the end of its run
pub record HasStopped {B R : Type 0} (bus : BusMeaning B) (meaning : RecordMeaning R) (before : CoreState B)
    (into : R) (meter : List MeterRow) (after : CoreState B) (into_after : R) (meter_after : List MeterRow) :
    Type 0 where
  pub rounds : List Passed
  pub end : RunState (NodeState CodeMemory) B
  pub is_end : IsEnded code_reaction bus before.until (run_of before) rounds end
  pub nodes : states_of after.nodes ≡ end.nodes
  pub done : AreDone meaning (rows_of before.nodes) (steps rounds before.picks)
      into into_after meter meter_after

-- one round of a moment, with a frame that ended and keys that are pressed
pub record IsOneRound {B : Type 0} (bus : BusMeaning B) (ended : Option Ended) (keys : List ℕ)
    (before : RunState (NodeState CodeMemory) B) (rounds : List Passed)
    (after : RunState (NodeState CodeMemory) B) : Type 0 where
  pub tasks : List (List Task)
  pub is_round : IsRound code_reaction bus Moment ended keys before tasks after
  pub are : rounds ≡ record { moment = before.moment; ended = ended; tasks = tasks } ∷ []

-- what a round leaves of a simulation as it was
pub record StaysInRound {B : Type 0} (before after : CoreState B) : Type 0 where
  pub nodes : KeepsNodes before.nodes after.nodes
  pub keys : after.keys ≡ before.keys
  pub requests : after.requests ≡ before.requests
  pub until : after.until ≡ before.until
  pub moment : after.moment ≡ before.moment
  pub phase : after.phase ≡ before.phase
