-- What is written, and what the meter has, once a command was answered over inputs or a fault ended it.
use Rattle.std.specs.Prelude.{◌≡◌, ◌⊎◌, ℕ, List, [], map, codes, Option, None, Some, Result, MatchResult}
use Rattle.sim_outside.specs.Sink.{GrowsBy, GrowsByPrefix, Writes}
use Rattle.sim_outside.specs.declared.sink.SinkRefusal.{SinkRefusal}
use Rattle.sim_outside.specs.declared.sink.SinkRefusal.TheVariants.{Failed, NoMemory}
use Rattle.stack_vm.specs.declared.meter.MeterRow.{MeterRow}
use Rattle.scenario.specs.declared.scenario.Scenario.{Scenario}
use Rattle.replay_node.specs.declared.replay.Replay.{Replay}
use Rattle.dbc_reader.specs.declared.message.DbcMessage.{DbcMessage}
use Rattle.run_meaning.specs.Steps.{steps}
use Rattle.sim_inputs.specs.Answer.{AreCodesFor}
use Rattle.sim_inputs.specs.Accepted.{NodeSource, file_names}
use Rattle.sim_inputs.specs.declared.inputs.Inputs.{Inputs}
use Rattle.sim_play.specs.declared.labels.Labels.{Labels}
use Rattle.sim_play.specs.declared.labels.Show.{Show}
use Rattle.sim_run.specs.Answer.{IsShown, IsShownInPart}
use Rattle.sim_run.specs.Run.{shown_of}

-- under which names a scenario is shown whose nodes have these files
abbrev pub labels_with : Scenario → List (List (List ℕ)) → Replay → Labels
labels_with scenario files replay = record {
  names = map (λ node. node.name) scenario.nodes.items;
  files = files;
  interface = scenario.interface;
  second = scenario.interface;
  epoch = replay.epoch;
  skipped = replay.skipped;
}

-- a run was shown whole, and the meter has its rows
pub record IsPlayed (show : Show) (scenario : Scenario) (base : List DbcMessage) (sources : List NodeSource)
    (replay : Replay) (old new : Option (List ℕ)) (rows : List MeterRow) : Type 0 where
  pub bytes : List ℕ
  pub shown : IsShown show scenario base sources replay bytes rows
  pub grows : GrowsBy old new bytes

-- A run was shown in part, and what was written is a beginning of all that is shown of it.
pub record IsCut (show : Show) (scenario : Scenario) (base : List DbcMessage) (sources : List NodeSource)
    (replay : Replay) (old new : Option (List ℕ)) (rows : List MeterRow) : Type 0 where
  pub part : IsShownInPart show scenario base sources replay old new rows
  pub begins : GrowsByPrefix old new
      (shown_of show scenario base sources replay (steps part.rounds scenario.picks.items))

-- after a refusal a run was shown in part; for want of memory maybe nothing was written
abbrev pub IsCutBy : SinkRefusal → Show → Scenario → List DbcMessage → List NodeSource → Replay
    → Option (List ℕ) → Option (List ℕ) → List MeterRow → Type 0
IsCutBy Failed show scenario base sources replay old new rows =
    IsCut show scenario base sources replay old new rows
IsCutBy NoMemory show scenario base sources replay old new rows =
    (new ≡ old) ⊎ IsCut show scenario base sources replay old new rows

-- the run of all sources that the codes and files of inputs are of was shown, whole or in part
abbrev pub PlaysInputs : {A : Type 0} → Show → Inputs → Option (List ℕ) → Option (List ℕ) → List MeterRow
    → Result A SinkRefusal → Type 0
PlaysInputs show inputs old new rows result =
    (base : List DbcMessage) (sources : List NodeSource) → AreCodesFor base sources inputs.codes.items →
    inputs.files ≡ map file_names sources → MatchResult result
    (λ done. IsPlayed show inputs.scenario base sources inputs.replay old new rows)
    (λ refusal. IsCutBy refusal show inputs.scenario base sources inputs.replay old new rows)

-- what is shown, or nothing, was answered over inputs: `ok` where nothing is shown
abbrev pub AnswersInputs : {A : Type 0} → Option Show → Inputs → Option (List ℕ) → Option (List ℕ)
    → List MeterRow → Result A SinkRefusal → Type 0
AnswersInputs None inputs old new rows result = Writes old new (codes "ok\n") result × (rows ≡ [])
AnswersInputs (Some show) inputs old new rows result = PlaysInputs show inputs old new rows result
