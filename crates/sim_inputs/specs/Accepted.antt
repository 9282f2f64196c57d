-- Which inputs are accepted, and which blame is the first of inputs that are not. The rules are this
-- project's own.
use Rattle.std.specs.Prelude.{◌≡◌, ◌<◌, ◌≤◌, ◌⊎◌, ℕ, List, length, Some, None, ◌^◌, [], Option, ◌+◌, ◌∷◌, map}
use Rattle.texts.specs.declared.blame.Blame.{Blame}
use Rattle.texts.specs.declared.blame.Rule.{Rule}
use Rattle.texts.specs.Rule.{source_rule}
use Rattle.capl_include.specs.Blame.{file_blame, too_long_rule}
use Rattle.capl_include.specs.Expansion.{Contents}
use Rattle.scenario.specs.Scenario.{IsScenario, IsScenarioRefusal}
use Rattle.scenario.specs.declared.refusal.ScenarioRefusal.TheVariants.{Broken}
use Rattle.scenario.specs.declared.scenario.Scenario.{Scenario}
use Rattle.input_refusals.specs.Blame.{line_blame}
use Rattle.sim_outside.specs.Files.{beside}
use Rattle.dbc_reader.specs.Database.{IsDatabase, IsDatabaseRefusal}
use Rattle.dbc_reader.specs.declared.message.DbcMessage.{DbcMessage}
use Rattle.scenario.specs.declared.scenario.NodeItem.{NodeItem}
use Rattle.capl_tree.specs.Weight.{weight}
use Rattle.capl_tree.specs.declared.file.Program.{Program}
use Rattle.capl_include.specs.declared.expanded.SourceFile.{SourceFile}
use Rattle.capl_meaning.specs.Store.{cells_of_program}
use Rattle.source_compiler.specs.Source.{IsSource, IsSourceBlame}
use Rattle.replay_node.specs.Replay.{IsBadLine, IsReplay}
use Rattle.replay_node.specs.declared.replay.Replay.{Replay}
use Rattle.std.specs.List.{AllZip, sum_by}
use Rattle.dbc_reader.specs.declared.refusal.DbcRefusal.TheVariants as refusal

-- ---- The rules that inputs may break, and which part of a file is to blame. They are this project's own.

-- F01: there is no file of the name
abbrev pub missing_rule : Rule
missing_rule = record { group = 70; number = 1 }

-- L01: a line of a log that is replayed has no reading
abbrev pub log_rule : Rule
log_rule = record { group = 76; number = 1 }

-- D01: a statement of a database has no spelling
abbrev pub statement_rule : Rule
statement_rule = record { group = 68; number = 1 }

-- D02: an identifier or a name of a database stands for the second time
abbrev pub twice_rule : Rule
twice_rule = record { group = 68; number = 2 }

-- E29: the programs so far are too large together
abbrev pub too_large_rule : Rule
too_large_rule = source_rule 29

-- the file of a name is held, with at most so many bytes
abbrev pub Holds : Contents → ℕ → List ℕ → List ℕ → Type 0
Holds contents limit name text = (contents name ≡ Some text) × (length text ≤ limit)

-- the file of a name is not held (F01), or has more bytes than it may (F02)
abbrev pub IsFileBlame : Contents → ℕ → List ℕ → Blame → Type 0
IsFileBlame contents limit name blame =
    ((contents name ≡ None) × (blame ≡ file_blame name missing_rule))
    ⊎ ((text : List ℕ) × (contents name ≡ Some text) × (limit < length text)
    × (blame ≡ file_blame name too_long_rule))

-- ---- The scenario of a name, and what is to blame where there is none.

-- how many bytes a scenario may have
abbrev pub scenario_limit : ℕ
scenario_limit = 2 ^ 20

-- the file of a name is this scenario
pub record ScenarioAt (contents : Contents) (name : List ℕ) (scenario : Scenario) : Type 0 where
  pub text : List ℕ
  pub held : Holds contents scenario_limit name text
  pub is : IsScenario text scenario

-- a line of the text of a scenario breaks a rule of S01 to S12, the first that does
abbrev pub IsLineBlame : List ℕ → List ℕ → Blame → Type 0
IsLineBlame text name blame =
    (line : ℕ) × (rule : Rule) × IsScenarioRefusal text (Broken line rule)
    × (blame ≡ line_blame name line rule)

-- the file of the scenario is to blame, or a line of its text
abbrev pub IsScenarioBlame : Contents → List ℕ → Blame → Type 0
IsScenarioBlame contents name blame =
    IsFileBlame contents scenario_limit name blame
    ⊎ ((text : List ℕ) × Holds contents scenario_limit name text × IsLineBlame text name blame)

-- ---- The messages of the database that a scenario names, and what is to blame where there are none.

-- how many bytes a database may have
abbrev pub database_limit : ℕ
database_limit = 2 ^ 24

-- the file of a name is a database with these messages
abbrev pub DatabaseAt : Contents → List ℕ → List DbcMessage → Type 0
DatabaseAt contents name base =
    (text : List ℕ) × Holds contents database_limit name text × IsDatabase text base

-- what the database of a scenario says, which is sought beside it; without one, no message
abbrev pub BaseAt : Contents → List ℕ → Option (List ℕ) → List DbcMessage → Type 0
BaseAt contents name None base = base ≡ []
BaseAt contents name (Some file) base = DatabaseAt contents (beside name file) base

-- a statement has no spelling (D01), or gives an identifier or a name for the second time (D02)
abbrev pub IsStatementBlame : List ℕ → List ℕ → Blame → Type 0
IsStatementBlame text name blame =
    ((line : ℕ) × IsDatabaseRefusal text (refusal.Text line) × (blame ≡ line_blame name line statement_rule))
    ⊎ ((line : ℕ) × IsDatabaseRefusal text (refusal.Twice line) × (blame ≡ line_blame name line twice_rule))

-- the file of a database is to blame, or a line of its text
abbrev pub IsDatabaseBlame : Contents → List ℕ → Blame → Type 0
IsDatabaseBlame contents name blame =
    IsFileBlame contents database_limit name blame
    ⊎ ((text : List ℕ) × Holds contents database_limit name text × IsStatementBlame text name blame)

-- the database of a scenario is to blame, where it has one
abbrev pub IsBaseBlame : Contents → List ℕ → Option (List ℕ) → Blame → Type 0
IsBaseBlame contents name None blame = ⊥
IsBaseBlame contents name (Some file) blame = IsDatabaseBlame contents (beside name file) blame

-- ---- The sources of the nodes of a scenario, and which blame is the first of nodes whose sources are not
-- taken.

-- ---- sources

-- the files of a node's source, and the program that they are
pub record NodeSource : Type 0 where
  pub files : List SourceFile
  pub program : Program

-- the names of the files of a source, in program order
abbrev pub file_names : NodeSource → List (List ℕ)
file_names source = map (λ file. file.name) source.files

-- the source of a node is accepted; its file is sought beside that of the scenario, which has this name
abbrev pub IsNodeSource : Contents → List ℕ → List DbcMessage → NodeItem → NodeSource → Type 0
IsNodeSource contents name base node source =
    IsSource contents (beside name node.file) base source.files source.program

-- ---- sizes

-- the most cells, and the greatest weight, of all programs of a scenario together
abbrev pub most_together : ℕ
most_together = 4000000

-- the cells of a node's program
abbrev pub cells_in : List DbcMessage → NodeSource → ℕ
cells_in base source = cells_of_program base source.program

-- the weight of a node's program
abbrev pub weight_in : NodeSource → ℕ
weight_in source = weight source.program

-- so many cells and so great a weight, both of all programs together, are not too large
abbrev pub AreWithin : ℕ → ℕ → Type 0
AreWithin cells weights = (cells ≤ most_together) × (weights ≤ most_together)

-- ---- blames

-- the file of this name is to blame where all programs so far, which have so many cells and so great a weight
-- together, are too large (E29)
abbrev pub IsSumBlame : List ℕ → ℕ → ℕ → Blame → Type 0
IsSumBlame name cells weights blame =
    ((most_together < cells) ⊎ (most_together < weights)) × (blame ≡ file_blame name too_large_rule)

-- The first blame of nodes, where the programs of those before have so many cells and so great a weight
-- together: that of the first node's source; else E29 of its file, where all programs up to it are too large
-- together; else that of the nodes behind it.
abbrev pub IsNodesBlame : Contents → List ℕ → List DbcMessage → ℕ → ℕ → List NodeItem → Blame → Type 0
IsNodesBlame contents name base cells weights [] blame = ⊥
IsNodesBlame contents name base cells weights (node ∷ nodes) blame =
    IsSourceBlame contents (beside name node.file) base blame
    ⊎ ((source : NodeSource) × IsNodeSource contents name base node source
    × (let all_cells : ℕ = cells + cells_in base source in
    let all_weights : ℕ = weights + weight_in source in
    IsSumBlame (beside name node.file) all_cells all_weights blame
    ⊎ (AreWithin all_cells all_weights × IsNodesBlame contents name base all_cells all_weights nodes blame)))

-- ---- The log that a scenario replays, and what is to blame where there is no replay of it.

-- how many bytes a log that is replayed may have
abbrev pub log_limit : ℕ
log_limit = 2 ^ 26

-- the text of the log that the scenario of a name replays; it has no line where none is replayed
abbrev pub LogAt : Contents → List ℕ → Option (List ℕ) → List ℕ → Type 0
LogAt contents name None log = log ≡ []
LogAt contents name (Some file) log = Holds contents log_limit (beside name file) log

-- the replay of the scenario of a name: what its log asks for on its interface and its bus
pub record ReplayAt (contents : Contents) (name : List ℕ) (scenario : Scenario) (replay : Replay) :
    Type 0 where
  pub log : List ℕ
  pub log_at : LogAt contents name scenario.replay log
  pub is : IsReplay log scenario.interface scenario.bit scenario.epoch replay

-- a line of the log of this name is to blame (L01), the first that neither reads nor is passed over
abbrev pub IsLogLineBlame : List ℕ → List ℕ → Blame → Type 0
IsLogLineBlame log name blame =
    (number : ℕ) × IsBadLine log number × (blame ≡ line_blame name number log_rule)

-- the log that the scenario of a name replays, if it replays one, is to blame: its file, or a line of it
abbrev pub IsReplayBlame : Contents → List ℕ → Option (List ℕ) → Blame → Type 0
IsReplayBlame contents name None blame = ⊥
IsReplayBlame contents name (Some file) blame =
    IsFileBlame contents log_limit (beside name file) blame
    ⊎ ((log : List ℕ) × Holds contents log_limit (beside name file) log
    × IsLogLineBlame log (beside name file) blame)

-- ---- Which inputs are accepted, and which blame is the first of inputs that are not: that of the scenario,
-- else of its database, else of its nodes, else of the log that it replays.

-- the sources of all nodes of a scenario, each accepted by itself: one for each node, in order; and their
-- programs are not too large together
pub record AreNodes (contents : Contents) (name : List ℕ) (base : List DbcMessage) (scenario : Scenario)
    (sources : List NodeSource) : Type 0 where
  pub sources_at : AllZip (IsNodeSource contents name base) scenario.nodes.items sources
  pub fit : AreWithin (sum_by (cells_in base) sources) (sum_by weight_in sources)

-- The inputs of a name are accepted: this is the scenario of the name, these are the messages of its
-- database, these the sources of its nodes, and this is its replay.
pub record AreAccepted (contents : Contents) (name : List ℕ) (scenario : Scenario)
    (base : List DbcMessage) (sources : List NodeSource) (replay : Replay) : Type 0 where
  pub scenario_at : ScenarioAt contents name scenario
  pub base_at : BaseAt contents name scenario.database base
  pub nodes_at : AreNodes contents name base scenario sources
  pub replay_at : ReplayAt contents name scenario replay

-- the first blame behind a scenario and its database: that of its nodes, else of its replay
abbrev pub IsLastBlame : Contents → List ℕ → Scenario → List DbcMessage → Blame → Type 0
IsLastBlame contents name scenario base blame =
    IsNodesBlame contents name base 0 0 scenario.nodes.items blame
    ⊎ ((sources : List NodeSource) × AreNodes contents name base scenario sources
    × IsReplayBlame contents name scenario.replay blame)

-- the first blame behind a scenario: that of its database, else one behind it
abbrev pub IsLaterBlame : Contents → List ℕ → Scenario → Blame → Type 0
IsLaterBlame contents name scenario blame =
    IsBaseBlame contents name scenario.database blame
    ⊎ ((base : List DbcMessage) × BaseAt contents name scenario.database base
    × IsLastBlame contents name scenario base blame)

-- the first blame of the inputs of a name: that of the scenario, else one behind it
abbrev pub IsFirstBlame : Contents → List ℕ → Blame → Type 0
IsFirstBlame contents name blame =
    IsScenarioBlame contents name blame
    ⊎ ((scenario : Scenario) × ScenarioAt contents name scenario × IsLaterBlame contents name scenario blame)
