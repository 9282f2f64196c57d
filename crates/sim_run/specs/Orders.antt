-- What a user may rely on under other picks.
use Rattle.std.specs.Prelude.{◌≡◌, ℕ, List}
use Rattle.capl_include.specs.Expansion.{Contents}
use Rattle.dbc_reader.specs.declared.message.DbcMessage.{DbcMessage}
use Rattle.replay_node.specs.declared.replay.Replay.{Replay}
use Rattle.run_meaning.specs.Steps.{Step}
use Rattle.scenario.specs.declared.scenario.Scenario.{Scenario}
use Rattle.sim_inputs.specs.Accepted.{AreAccepted, NodeSource}
use Rattle.sim_inputs.specs.Law.{SayTheSame}
use Rattle.sim_play.specs.declared.labels.Show.{Show}
use Rattle.stack_vm.specs.declared.meter.MeterRow.{MeterRow}
use Rattle.task_orders.specs.Values.{DifferInOrder}
use Rattle.sim_run.specs.Answer.{IsAnswer}
use Rattle.sim_run.specs.Command.{IsCommand}
use Rattle.sim_run.specs.Run.{shown_of}
use Rattle.sim_run.specs.declared.command.Command.{Command}
use Rattle.sim_run.specs.declared.status.Status.TheVariants.{Done}

-- another scenario says the same as the first, but for its picks
abbrev pub DifferInPicks : Scenario → Scenario → Type 0
DifferInPicks scenario other = SayTheSame other (record scenario { picks = other.picks })

-- the inputs of two names are accepted, and are the same but for the picks of their scenarios
pub record HaveOtherPicks (contents : Contents) (name : List ℕ) (others : Contents) (other : List ℕ) :
    Type 0 where
  pub scenario : Scenario
  pub changed : Scenario
  pub base : List DbcMessage
  pub sources : List NodeSource
  pub replay : Replay
  pub accepted : AreAccepted contents name scenario base sources replay
  pub accepted_other : AreAccepted others other changed base sources replay
  pub differ : DifferInPicks scenario changed

-- these bytes and rows are answered to a command on such inputs
pub record AreAnswered (command : Command) (bytes more : List ℕ) (rows counts : List MeterRow) : Type 0 where
  pub contents : Contents
  pub name : List ℕ
  pub words : List (List ℕ)
  pub others : Contents
  pub other : List ℕ
  pub other_words : List (List ℕ)
  pub inputs : HaveOtherPicks contents name others other
  pub asks : IsCommand words command name
  pub asks_other : IsCommand other_words command other
  pub answer : IsAnswer contents words Done bytes rows
  pub answer_other : IsAnswer others other_words Done more counts

-- Bytes are what is shown of steps, and others what is shown of the same steps in another order: the frames
-- are the same in order, and the steps of each node in order, so its lines too.
pub record AreReordered (show : Show) (bytes more : List ℕ) : Type 0 where
  pub scenario : Scenario
  pub base : List DbcMessage
  pub sources : List NodeSource
  pub replay : Replay
  pub steps : List Step
  pub others : List Step
  pub shows : bytes ≡ shown_of show scenario base sources replay steps
  pub shows_other : more ≡ shown_of show scenario base sources replay others
  pub differ : DifferInOrder steps others
