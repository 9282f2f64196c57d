-- The run of a scenario's nodes, by what their sources mean, and what a command shows of it.
use Rattle.std.specs.Prelude.{ℕ, ◌+◌, List, [], ◌∷◌, length, map, ◌++◌}
use Rattle.std.specs.List.{range_with_len, sum_by}
use Rattle.can_bus.specs.Bus.{BusState, new_bus, one_channel}
use Rattle.stack_vm.specs.declared.meter.MeterRow.{MeterRow}
use Rattle.scenario.specs.declared.scenario.Scenario.{Scenario}
use Rattle.replay_node.specs.declared.replay.Replay.{Replay}
use Rattle.dbc_reader.specs.declared.message.DbcMessage.{DbcMessage}
use Rattle.capl_meaning.specs.Statement.{handlers_in}
use Rattle.node_rounds.specs.Reaction.{NodeState}
use Rattle.run_meaning.specs.Counts.{row_then}
use Rattle.run_meaning.specs.Run.{IsRun, Passed, RunState, new_run}
use Rattle.run_meaning.specs.Steps.{Step, entries}
use Rattle.source_laws.specs.Reaction.{SourceMemory, by_source_reaction, first_source_node}
use Rattle.sim_inputs.specs.Accepted.{NodeSource, file_names}
use Rattle.std.specs.Option.{option_map_or}
use Rattle.scenario.specs.declared.scenario.NodeItem.{NodeItem}
use Rattle.source_compiler.specs.Source.{token_in}
use Rattle.sim_play.specs.Show.{file_of, shown, shown_first, summary_of}
use Rattle.sim_play.specs.declared.labels.Labels.{Labels}
use Rattle.sim_play.specs.declared.labels.Show.{Show}
use Rattle.sim_play.specs.declared.labels.Show.TheVariants.{Profile, Summary}
use Rattle.sim_text.specs.Lines.{profile_line}
use Rattle.capl_meaning.specs.Statement as source

-- ---- The run of a scenario's nodes, by what their sources mean.

-- These are the rounds of the run of a scenario whose nodes have these sources, with these messages of a
-- database: on a bus with the scenario's bits, with its keys and the requests of its replay, up to its end
-- moment.
pub record IsRunOf (scenario : Scenario) (base : List DbcMessage) (sources : List NodeSource)
    (replay : Replay) (rounds : List Passed) : Type 0 where
  pub end : RunState (NodeState SourceMemory) BusState
  pub is : IsRun by_source_reaction one_channel scenario.until
      (new_run (map (λ source. first_source_node base source.program scenario.turns) sources)
      (new_bus scenario.bit) scenario.keys.items replay.list) rounds end

-- how many event procedures a source has
abbrev pub procedures_in : List DbcMessage → NodeSource → ℕ
procedures_in base source = length (handlers_in base source.program)

-- the first row of each node: nodes in the order of the scenario, from a number on, each with a row for each
-- of its event procedures
abbrev pub first_rows : List DbcMessage → ℕ → List NodeSource → List ℕ
first_rows base number [] = []
first_rows base number (source ∷ sources) =
    number ∷ first_rows base (number + procedures_in base source) sources

-- the rows of a run: for each event procedure, nodes in the order of the scenario and procedures in program
-- order, how often it ran and how many turns it took
abbrev pub rows_in : List DbcMessage → List NodeSource → List Step → List MeterRow
rows_in base sources steps =
    map (row_then (first_rows base 0 sources) steps) (range_with_len 0 (sum_by (procedures_in base) sources))

-- ---- What a command shows of a run of sources.

-- under which names a run is shown: those of the scenario's nodes, of their files and of its interface, from
-- the epoch of its replay on
abbrev pub labels_of : Scenario → List NodeSource → Replay → Labels
labels_of scenario sources replay = record {
  names = map (λ node. node.name) scenario.nodes.items;
  files = map file_names sources;
  interface = scenario.interface;
  second = scenario.interface;
  epoch = replay.epoch;
  skipped = replay.skipped;
}

-- the lines of event procedures in a profile, the first of which has the row of a number
abbrev pub procedure_lines : List ℕ → NodeSource → (ℕ → MeterRow) → ℕ → List source.Handler → List ℕ
procedure_lines name of row number [] = []
procedure_lines name of row number (handler ∷ handlers) =
    profile_line name (file_of (file_names of) handler.file)
    (option_map_or (λ token. token.line) (token_in of.files handler.file handler.token) 0)
    handler.event (row number)
    ++ procedure_lines name of row (number + 1) handlers

-- the lines of nodes in a profile, the first of which has the rows from a number on
abbrev pub node_lines : List DbcMessage → (ℕ → MeterRow) → ℕ → List NodeItem → List NodeSource → List ℕ
node_lines base row number (node ∷ nodes) (of ∷ sources) =
    procedure_lines node.name of row number (source.handlers_in base of.program)
    ++ node_lines base row (number + procedures_in base of) nodes sources
node_lines base row number _ _ = []

-- what is shown at the end of a run with these steps: the profile or the summary, where it is asked for
abbrev pub shown_last : Show → Scenario → List DbcMessage → List NodeSource → Replay → List Step → List ℕ
shown_last Profile scenario base sources replay steps =
    node_lines base (row_then (first_rows base 0 sources) steps) 0 scenario.nodes.items sources
shown_last Summary scenario base sources replay steps =
    summary_of (labels_of scenario sources replay) (length sources) (entries steps)
    (rows_in base sources steps)
shown_last _ scenario base sources replay steps = []

-- all that is shown of a run with these steps
abbrev pub shown_of : Show → Scenario → List DbcMessage → List NodeSource → Replay → List Step → List ℕ
shown_of show scenario base sources replay steps =
    let labels : Labels = labels_of scenario sources replay in
    shown_first show labels ++ (shown show labels (entries steps)
    ++ shown_last show scenario base sources replay steps)
