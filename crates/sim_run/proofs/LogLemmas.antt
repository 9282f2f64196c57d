-- The logs of scenarios: what is recorded is well spaced, and what is replayed to silent nodes is reproduced.
use Rattle.std.proofs.Common.{◌≡◌, ℕ, ◌+◌, ◌/◌, ◌%◌, ◌<◌, ◌≤◌, ◌^◌, List, [], ◌∷◌, ◌++◌, All, inl, inr, refl, sym, ap, subst, ◌∙◌, arith, append-nil}
use Rattle.std.proofs.lemmas.List.Elements.{All-cons, All-head, All-nil, All-tail}
use Rattle.can_bus.specs.Bus.{BusState, new_bus, one_channel}
use Rattle.capl_include.specs.Expansion.{Contents}
use Rattle.dbc_reader.specs.declared.message.DbcMessage.{DbcMessage}
use Rattle.log_line.specs.Reading.{IsInterface}
use Rattle.log_line.specs.Written.{IsLoggable, log_line}
use Rattle.node_rounds.specs.Reaction.{NodeState}
use Rattle.replay_laws.specs.Log.{log_of}
use Rattle.replay_node.specs.Replay.{IsReplay}
use Rattle.replay_node.specs.Spaced.{IsSpacedLog}
use Rattle.replay_node.specs.declared.replay.Replay.{Replay}
use Rattle.replay_node.specs.declared.replay.Request.{Request}
use Rattle.run_meaning.specs.Run.{IsRun, Passed, RunState, new_run}
use Rattle.run_meaning.specs.Steps.{Step, entries, steps}
use Rattle.run_records.specs.declared.record.Noted.{Noted}
use Rattle.run_records.specs.declared.record.Noted.TheVariants as entry
use Rattle.scenario.proofs.WithinLemmas.{scenario_within}
use Rattle.scenario.specs.Within.{IsWithin}
use Rattle.scenario.specs.declared.scenario.Epoch.{Epoch}
use Rattle.scenario.specs.declared.scenario.KeyItem.{KeyItem}
use Rattle.scenario.specs.declared.scenario.Scenario.{Scenario}
use Rattle.sim_inputs.proofs.ReplayLemmas.{one_log}
use Rattle.sim_inputs.specs.Accepted.{NodeSource}
use Rattle.sim_play.specs.Show.{interface_of, shown}
use Rattle.sim_play.specs.declared.labels.Labels.{Labels}
use Rattle.sim_play.specs.declared.labels.Show.TheVariants as show
use Rattle.source_laws.specs.Reaction.{SourceMemory, by_source_reaction, first_source_node}
use Rattle.source_logs.specs.Silent.{IsSilent}
use Rattle.stack_vm.specs.declared.meter.MeterRow.{MeterRow}
use Rattle.sim_run.proofs.AnswerLemmas.{AcceptedLaw, moved_answer, moved_shown}
use Rattle.sim_run.proofs.CommandLemmas.{one_asked}
use Rattle.sim_run.specs.Inside.Sources.{first_nodes}
use Rattle.sim_run.specs.Answer.{IsAnswer, IsAnsweredOn, IsShown}
use Rattle.sim_run.specs.Command.{IsCommand, show_of}
use Rattle.sim_run.specs.Logs.{IsRecorded, IsReplayedBySilent}
use Rattle.sim_run.specs.Run.{labels_of, shown_of}
use Rattle.sim_run.specs.declared.command.Command.{Command}
use Rattle.sim_run.specs.declared.command.Command.TheVariants.{Log}
use Rattle.sim_run.specs.declared.status.Status.TheVariants.{Done}

-- ---- the lines of frames

lines_same : (labels : Labels) (list : List Noted) → shown show.Log labels list ≡ log_of (interface_of labels) labels.epoch list
lines_same labels [] = refl
lines_same labels (entry.Line now node text ∷ list) = lines_same labels list
lines_same labels (entry.Frame now frame ∷ list) = ap (λ l. log_line (labels.epoch + now / 1000000) (now % 1000000) (interface_of labels frame.can) frame ++ l) (lines_same labels list)

-- what is shown of a run by `log` is its log
log_shown : (scenario : Scenario) (base : List DbcMessage) (sources : List NodeSource) (replay : Replay) (list : List Step) →
    shown_of show.Log scenario base sources replay list ≡ log_of (interface_of (labels_of scenario sources replay)) replay.epoch (entries list)
log_shown scenario base sources replay list =
    append-nil (shown show.Log (labels_of scenario sources replay) (entries list)) ∙ lines_same (labels_of scenario sources replay) (entries list)

-- ---- the answer of `log`

-- what a command answers on accepted inputs
pub command_done : (command : Command) (contents : Contents) (words : List (List ℕ)) (name bytes : List ℕ) (rows : List MeterRow) → IsCommand words command name → IsAnswer contents words Done bytes rows
    → IsAnsweredOn (show_of command) contents name bytes rows
command_done command contents words name bytes rows is (inl answered) =
    moved_answer contents words answered.what (show_of command) answered.held contents answered.name name Done bytes rows
    (one_asked contents words answered.what (show_of command) answered.held contents answered.name name answered.asked (inl (command, is, refl, refl))) answered.answer
command_done command contents words name bytes rows is (inr (none, usage, empty, no_rows)) = absurd (none.no_command command name is)

-- ---- recorded logs

-- the log of a run of sources is well spaced
abbrev pub RecordsLaw : Type 0
RecordsLaw = (names : ℕ → List ℕ) (bit epoch until : ℕ) (nodes : List (NodeState SourceMemory)) (keys : List KeyItem) (requests : List Request) (rounds : List Passed)
    (after : RunState (NodeState SourceMemory) BusState) (picks : List ℕ) → All (λ (request : Request). IsLoggable request.frame) requests →
    IsRun by_source_reaction one_channel until (new_run nodes (new_bus bit) keys requests) rounds after → IsSpacedLog (names 1) bit epoch until (log_of names epoch (entries (steps rounds picks)))

-- a log line can carry what a replay asks for
abbrev pub LoggableLaw : Type 0
LoggableLaw = (log interface : List ℕ) (bit : ℕ) (item : Epoch) (replay : Replay) → IsReplay log interface bit item replay → All (λ (request : Request). IsLoggable request.frame) replay.list

-- what `log` writes is well spaced
pub recorded_log : RecordsLaw → LoggableLaw → (contents : Contents) (words : List (List ℕ)) (name bytes : List ℕ) (rows : List MeterRow) → IsCommand words Log name → IsAnswer contents words Done bytes rows →
    IsRecorded contents name bytes
recorded_log law loggable contents words name bytes rows is answer =
    let done = command_done Log contents words name bytes rows is answer in
    let scenario : Scenario = done.scenario in
    let labels : Labels = labels_of scenario done.sources done.replay in
    let seen = done.answers in
    let replay_at = done.accepted.replay_at in
    let spaced = law (interface_of labels) scenario.bit done.replay.epoch scenario.until (first_nodes done.base scenario.turns done.sources) scenario.keys.items done.replay.list
    seen.rounds seen.run.end scenario.picks.items (loggable replay_at.log scenario.interface scenario.bit scenario.epoch done.replay replay_at.is) seen.run.is in
    record {
      scenario = scenario;
      base = done.base;
      sources = done.sources;
      replay = done.replay;
      accepted = done.accepted;
      is_log = subst (IsSpacedLog scenario.interface scenario.bit done.replay.epoch scenario.until)
          (sym (seen.shows ∙ log_shown scenario done.base done.sources done.replay (steps seen.rounds scenario.picks.items))) spaced;
    }

-- ---- logs that are replayed

-- silent sources reproduce a log
abbrev pub ReproducesLaw : Type 0
ReproducesLaw = (names : ℕ → List ℕ) (bit epoch until : ℕ) (log : List ℕ) (item : Epoch) (replay : Replay) (nodes : List (NodeState SourceMemory)) (keys : List KeyItem) (rounds : List Passed)
    (after : RunState (NodeState SourceMemory) BusState) (picks : List ℕ) → 1 ≤ bit → until < 2 ^ 64 → epoch < 2 ^ 32 → IsInterface (names 1) →
    All (λ (node : NodeState SourceMemory). IsSilent node.memory.program) nodes → IsSpacedLog (names 1) bit epoch until log → IsReplay log (names 1) bit item replay → replay.epoch ≡ epoch →
    IsRun by_source_reaction one_channel until (new_run nodes (new_bus bit) keys replay.list) rounds after → log_of names epoch (entries (steps rounds picks)) ≡ log

-- a log line can name the interface of a scenario
abbrev pub InterfaceLaw : Type 0
InterfaceLaw = (scenario : Scenario) → IsWithin scenario → IsInterface scenario.interface

-- the epoch of its replay is a number of 32 bits
abbrev pub EpochLaw : Type 0
EpochLaw = (scenario : Scenario) → IsWithin scenario → (log interface : List ℕ) (bit : ℕ) (replay : Replay) → IsReplay log interface bit scenario.epoch replay → replay.epoch < 2 ^ 32

-- the program of a source is silent
abbrev HasSilent : NodeSource → Type 0
HasSilent source = IsSilent source.program

-- so is that of a node
abbrev HasSilentProgram : NodeState SourceMemory → Type 0
HasSilentProgram node = IsSilent node.memory.program

silent_nodes : (base : List DbcMessage) (turns : ℕ) (sources : List NodeSource) → All HasSilent sources → All HasSilentProgram (first_nodes base turns sources)
silent_nodes base turns [] all = All-nil HasSilentProgram
silent_nodes base turns (source ∷ sources) all =
    All-cons HasSilentProgram (first_source_node base source.program turns) (first_nodes base turns sources) (All-head HasSilent source sources all)
    (silent_nodes base turns sources (All-tail HasSilent source sources all))

-- what is shown of silent sources is the log that they are given
shown_again : ReproducesLaw → InterfaceLaw → EpochLaw → (contents : Contents) (name log bytes : List ℕ) (rows : List MeterRow) (is : IsReplayedBySilent contents name log) →
    IsShown show.Log is.scenario is.base is.sources is.replay bytes rows → bytes ≡ log
shown_again law named epoch contents name log bytes rows is seen =
    let scenario : Scenario = is.scenario in
    let within = scenario_within is.accepted.scenario_at.text scenario is.accepted.scenario_at.is in
    let until = within.until in
    let replay_at = is.accepted.replay_at in
    let same : replay_at.log ≡ log = one_log contents name scenario.replay replay_at.log log replay_at.log_at is.log_at in
    let replayed : IsReplay log scenario.interface scenario.bit scenario.epoch is.replay = subst (λ l. IsReplay l scenario.interface scenario.bit scenario.epoch is.replay) same replay_at.is in
    seen.shows ∙ log_shown scenario is.base is.sources is.replay (steps seen.rounds scenario.picks.items)
    ∙ law (interface_of (labels_of scenario is.sources is.replay)) scenario.bit is.replay.epoch scenario.until log scenario.epoch is.replay
    (first_nodes is.base scenario.turns is.sources) scenario.keys.items seen.rounds seen.run.end scenario.picks.items
    within.some_bit (omega (arith, until)) (epoch scenario within log scenario.interface scenario.bit is.replay replayed) (named scenario within)
    (silent_nodes is.base scenario.turns is.sources is.silent) is.is_log replayed refl seen.run.is

-- `log` writes the log that is replayed to silent nodes
pub reproduced_log : AcceptedLaw → ReproducesLaw → InterfaceLaw → EpochLaw → (contents : Contents) (words : List (List ℕ)) (name log bytes : List ℕ) (rows : List MeterRow) → IsCommand words Log name →
    IsReplayedBySilent contents name log → IsAnswer contents words Done bytes rows → bytes ≡ log
reproduced_log accepted law named epoch contents words name log bytes rows command is answer =
    let done = command_done Log contents words name bytes rows command answer in
    let same = accepted contents name done.scenario is.scenario done.base is.base done.sources is.sources done.replay is.replay done.accepted is.accepted in
    let here = moved_shown show.Log done.scenario is.scenario done.base done.sources done.replay bytes rows same.0 done.answers in
    let by_base = subst (λ (b : List DbcMessage). IsShown show.Log is.scenario b done.sources done.replay bytes rows) same.1 here in
    let by_sources = subst (λ (s : List NodeSource). IsShown show.Log is.scenario is.base s done.replay bytes rows) same.2 by_base in
    let by_replay = subst (λ (r : Replay). IsShown show.Log is.scenario is.base is.sources r bytes rows) same.3 by_sources in
    shown_again law named epoch contents name log bytes rows is by_replay
