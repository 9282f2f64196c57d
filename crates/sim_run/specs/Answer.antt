-- The whole answer to the words, over what the files hold.
use Rattle.std.specs.Prelude.{◌≡◌, ◌⊎◌, ℕ, ◌≤◌, List, [], ◌++◌, Option, None, Some, codes, slice_get, take}
use Rattle.sim_outside.specs.Sink.{GrowsBy, GrowsByPrefix}
use Rattle.texts.specs.declared.blame.Blame.{Blame}
use Rattle.stack_vm.specs.declared.meter.MeterRow.{MeterRow}
use Rattle.scenario.specs.declared.scenario.Scenario.{Scenario}
use Rattle.replay_node.specs.declared.replay.Replay.{Replay}
use Rattle.dbc_reader.specs.declared.message.DbcMessage.{DbcMessage}
use Rattle.capl_include.specs.Expansion.{Contents}
use Rattle.run_meaning.specs.Counts.{row_then}
use Rattle.run_meaning.specs.Run.{Passed}
use Rattle.run_meaning.specs.Steps.{Step, entries, steps}
use Rattle.sim_inputs.specs.Accepted.{AreAccepted, IsFirstBlame, NodeSource}
use Rattle.sim_play.specs.Show.{shown, shown_first}
use Rattle.sim_play.specs.declared.labels.Show.{Show}
use Rattle.sim_text.specs.Lines.{blame_line}
use Rattle.sim_run.specs.Command.{IsAsked, IsNoCommand}
use Rattle.sim_run.specs.Run.{IsRunOf, first_rows, rows_in, labels_of, shown_of}
use Rattle.sim_run.specs.declared.status.Status.{Status}
use Rattle.sim_run.specs.declared.status.Status.TheVariants.{Done, Refused, Usage}

-- These are the rounds of the run of accepted inputs; the bytes are what is to be shown of its steps, in the
-- order that the picks give them, and the rows say how often each event procedure ran.
pub record IsShown (show : Show) (scenario : Scenario) (base : List DbcMessage) (sources : List NodeSource)
    (replay : Replay) (bytes : List ℕ) (rows : List MeterRow) : Type 0 where
  pub rounds : List Passed
  pub run : IsRunOf scenario base sources replay rounds
  pub shows : bytes ≡ shown_of show scenario base sources replay (steps rounds scenario.picks.items)
  pub counts : rows ≡ rows_in base sources (steps rounds scenario.picks.items)

-- what is answered on accepted inputs of which something is shown, or nothing: then `ok`, and nothing is run
abbrev pub IsAnswerOf : Option Show → Scenario → List DbcMessage → List NodeSource → Replay → List ℕ
    → List MeterRow → Type 0
IsAnswerOf None scenario base sources replay bytes rows = (bytes ≡ codes "ok\n") × (rows ≡ [])
IsAnswerOf (Some show) scenario base sources replay bytes rows =
    IsShown show scenario base sources replay bytes rows

-- the inputs of a name are accepted, and these are the bytes and the rows of what is answered on them
pub record IsAnsweredOn (what : Option Show) (held : Contents) (name : List ℕ) (bytes : List ℕ)
    (rows : List MeterRow) : Type 0 where
  pub scenario : Scenario
  pub base : List DbcMessage
  pub sources : List NodeSource
  pub replay : Replay
  pub accepted : AreAccepted held name scenario base sources replay
  pub answers : IsAnswerOf what scenario base sources replay bytes rows

-- the inputs of a name break a rule, the bytes are the line of the first blame, and there are no rows
pub record IsRefused (held : Contents) (name : List ℕ) (bytes : List ℕ) (rows : List MeterRow) : Type 0 where
  pub blame : Blame
  pub first : IsFirstBlame held name blame
  pub line : bytes ≡ blame_line blame
  pub no_rows : rows ≡ []

-- the answer over the inputs of a name is this status, which is done or refused, with these bytes and rows
abbrev pub IsAnswerOn : Option Show → Contents → List ℕ → Status → List ℕ → List MeterRow → Type 0
IsAnswerOn what held name Done bytes rows = IsAnsweredOn what held name bytes rows
IsAnswerOn what held name Refused bytes rows = IsRefused held name bytes rows
IsAnswerOn what held name _ bytes rows = ⊥

-- the words ask for something over the inputs of a name, and this is the answer over them
pub record IsAnswered (contents : Contents) (words : List (List ℕ)) (status : Status) (bytes : List ℕ)
    (rows : List MeterRow) : Type 0 where
  pub what : Option Show
  pub held : Contents
  pub name : List ℕ
  pub asked : IsAsked contents words what held name
  pub answer : IsAnswerOn what held name status bytes rows

-- the answer to the words is this status with these bytes and these rows
abbrev pub IsAnswer : Contents → List (List ℕ) → Status → List ℕ → List MeterRow → Type 0
IsAnswer contents words status bytes rows =
    IsAnswered contents words status bytes rows
    ⊎ (IsNoCommand words × (status ≡ Usage) × (bytes ≡ []) × (rows ≡ []))

-- nothing was written, or a beginning of the answer to the words
abbrev pub IsBegun : Contents → List (List ℕ) → Option (List ℕ) → Option (List ℕ) → Type 0
IsBegun contents words old new =
    (new ≡ old)
    ⊎ ((status : Status) × (bytes : List ℕ) × (rows : List MeterRow)
    × IsAnswer contents words status bytes rows × GrowsByPrefix old new bytes)

-- What was written after a fault where something is shown of the run of accepted inputs: of its steps the
-- first were shown whole, and no row has more runs than after these and the step behind them.
pub record IsShownInPart (show : Show) (scenario : Scenario) (base : List DbcMessage)
    (sources : List NodeSource) (replay : Replay) (old new : Option (List ℕ)) (rows : List MeterRow) :
    Type 0 where
  pub rounds : List Passed
  pub run : IsRunOf scenario base sources replay rounds
  pub front : List Step
  pub rest : List Step
  pub are : steps rounds scenario.picks.items ≡ front ++ rest
  pub whole : (front ≡ []) ⊎ ((more : List ℕ) × GrowsBy old new
      (shown_first show (labels_of scenario sources replay)
      ++ (shown show (labels_of scenario sources replay) (entries front) ++ more)))
  pub at_most : (number : ℕ) (row : MeterRow) → slice_get rows number ≡ Some row →
      row.runs ≤ (row_then (first_rows base 0 sources) (front ++ take 1 rest) number).runs

-- such inputs of a name are accepted, and so their run was shown in part
pub record IsAnsweredInPart (show : Show) (held : Contents) (name : List ℕ) (old new : Option (List ℕ))
    (rows : List MeterRow) : Type 0 where
  pub scenario : Scenario
  pub base : List DbcMessage
  pub sources : List NodeSource
  pub replay : Replay
  pub accepted : AreAccepted held name scenario base sources replay
  pub part : IsShownInPart show scenario base sources replay old new rows
