-- The logs of scenarios.
use Rattle.std.specs.Prelude.{ℕ, List, All}
use Rattle.capl_include.specs.Expansion.{Contents}
use Rattle.dbc_reader.specs.declared.message.DbcMessage.{DbcMessage}
use Rattle.replay_node.specs.Spaced.{IsSpacedLog}
use Rattle.replay_node.specs.declared.replay.Replay.{Replay}
use Rattle.scenario.specs.declared.scenario.Scenario.{Scenario}
use Rattle.source_logs.specs.Silent.{IsSilent}
use Rattle.sim_inputs.specs.Accepted.{AreAccepted, NodeSource, LogAt}

-- the bytes are a log that the bus of a scenario can have had: well spaced, on its interface and for its
-- bits, from the epoch of its replay to its end moment
abbrev pub IsLogOf : Scenario → Replay → List ℕ → Type 0
IsLogOf scenario replay bytes =
    IsSpacedLog scenario.interface scenario.bit replay.epoch scenario.until bytes

-- the inputs of a name are accepted, and the bytes are a log that the bus of their scenario can have had
pub record IsRecorded (contents : Contents) (name bytes : List ℕ) : Type 0 where
  pub scenario : Scenario
  pub base : List DbcMessage
  pub sources : List NodeSource
  pub replay : Replay
  pub accepted : AreAccepted contents name scenario base sources replay
  pub is_log : IsLogOf scenario replay bytes

-- The inputs of a name are accepted, no program of their nodes has a call of `output` or of `stop`, and their
-- scenario replays this log, which its bus can have had.
pub record IsReplayedBySilent (contents : Contents) (name log : List ℕ) : Type 0 where
  pub scenario : Scenario
  pub base : List DbcMessage
  pub sources : List NodeSource
  pub replay : Replay
  pub accepted : AreAccepted contents name scenario base sources replay
  pub log_at : LogAt contents name scenario.replay log
  pub is_log : IsLogOf scenario replay log
  pub silent : All (λ source. IsSilent source.program) sources
