-- What words that are a command may find: inputs that are accepted, or a first blame.
use Rattle.std.specs.Prelude.{ℕ, List, Option}
use Rattle.texts.specs.declared.blame.Blame.{Blame}
use Rattle.scenario.specs.declared.scenario.Scenario.{Scenario}
use Rattle.replay_node.specs.declared.replay.Replay.{Replay}
use Rattle.dbc_reader.specs.declared.message.DbcMessage.{DbcMessage}
use Rattle.capl_include.specs.Expansion.{Contents}
use Rattle.sim_inputs.specs.Accepted.{AreAccepted, IsFirstBlame, NodeSource}
use Rattle.sim_play.specs.declared.labels.Show.{Show}
use Rattle.sim_run.specs.Command.{IsAsked}

-- the words ask for something over the inputs of a name, and these are accepted
pub record FindsAccepted (contents : Contents) (words : List (List ℕ)) : Type 0 where
  pub what : Option Show
  pub held : Contents
  pub name : List ℕ
  pub asked : IsAsked contents words what held name
  pub scenario : Scenario
  pub base : List DbcMessage
  pub sources : List NodeSource
  pub replay : Replay
  pub accepted : AreAccepted held name scenario base sources replay

-- the words ask for something over the inputs of a name, and these break a rule: this is their first blame
pub record FindsBlame (contents : Contents) (words : List (List ℕ)) : Type 0 where
  pub what : Option Show
  pub held : Contents
  pub name : List ℕ
  pub asked : IsAsked contents words what held name
  pub blame : Blame
  pub first : IsFirstBlame held name blame
