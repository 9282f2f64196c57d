-- What is answered under other picks: the same log and the same profile, and lines that differ in order alone.
use Rattle.std.proofs.Common.{◌≡◌, ℕ, List, [], ◌∷◌, ◌++◌, Option, None, Some, map, refl, sym, ap, subst, ◌∙◌}
use Rattle.std.specs.List.{range_with_len, sum_by}
use Rattle.std.specs.Option.{unwrap_or}
use Rattle.can_bus.specs.Bus.{new_bus}
use Rattle.capl_include.specs.Expansion.{Contents}
use Rattle.dbc_reader.specs.declared.message.DbcMessage.{DbcMessage}
use Rattle.node_rounds.specs.Effects.{line_entries}
use Rattle.replay_node.specs.declared.replay.Replay.{Replay}
use Rattle.run_meaning.specs.Counts.{row_then}
use Rattle.run_meaning.specs.Run.{Passed, new_run}
use Rattle.run_meaning.specs.Steps.{Step, entries, frame_ended, steps, task_done}
use Rattle.run_meaning.proofs.Counts.{rows_stay}
use Rattle.run_records.specs.declared.record.Noted.{Noted}
use Rattle.run_records.specs.declared.record.Noted.TheVariants as entry
use Rattle.scenario.specs.declared.scenario.Scenario.{Scenario}
use Rattle.sim_inputs.specs.Accepted.{AreAccepted, NodeSource}
use Rattle.sim_inputs.specs.Law.{SayTheSame}
use Rattle.sim_play.specs.Show.{piece, shown}
use Rattle.sim_play.specs.declared.labels.Labels.{Labels}
use Rattle.sim_play.specs.declared.labels.Show.{Show}
use Rattle.sim_play.specs.declared.labels.Show.TheVariants as show
use Rattle.stack_vm.specs.declared.meter.MeterRow.{MeterRow}
use Rattle.task_orders.specs.Values.{frames_in}
use Rattle.task_orders.proofs.SameSteps.{differ}
use Rattle.sim_run.proofs.AnswerLemmas.{AcceptedLaw, OneRunLaw, moved_shown}
use Rattle.sim_run.proofs.LogLemmas.{command_done}
use Rattle.sim_run.specs.Inside.Sources.{first_nodes}
use Rattle.sim_run.specs.Answer.{IsAnswer, IsAnswerOf, IsAnsweredOn, IsShown}
use Rattle.sim_run.specs.Command.{IsCommand, show_of}
use Rattle.sim_run.specs.Orders.{AreAnswered, AreReordered, DifferInPicks}
use Rattle.sim_run.specs.Run.{first_rows, procedures_in, rows_in, labels_of, node_lines, shown_of}
use Rattle.sim_run.specs.declared.command.Command.{Command}
use Rattle.sim_run.specs.declared.command.Command.TheVariants.{Check, Log, Profile, Run, Window}
use Rattle.sim_run.specs.declared.status.Status.TheVariants.{Done}

-- ---- what is shown of steps

-- a log shows no line of a node
no_lines : (labels : Labels) (now node : ℕ) (lines : List (List ℕ)) (rest : List Noted) → shown show.Log labels (line_entries now node lines ++ rest) ≡ shown show.Log labels rest
no_lines labels now node [] rest = refl
no_lines labels now node (line ∷ lines) rest = no_lines labels now node lines rest

-- so it shows the frames of steps alone
frames_shown : (labels : Labels) (list : List Step) → shown show.Log labels (entries list) ≡ shown show.Log labels (entries (frames_in list))
frames_shown labels [] = refl
frames_shown labels (frame_ended now ended ∷ list) =
    ap (λ (l : List ℕ). unwrap_or (piece show.Log labels (entry.Frame now ended.frame)) [] ++ l) (frames_shown labels list)
frames_shown labels (task_done now node task ∷ list) = no_lines labels now node task.lines (entries list) ∙ frames_shown labels list

-- a profile shows no entry
no_entries : (labels : Labels) (list : List Noted) → shown show.Profile labels list ≡ []
no_entries labels [] = refl
no_entries labels (entry.Line now node text ∷ list) = no_entries labels list
no_entries labels (entry.Frame now frame ∷ list) = no_entries labels list

-- what is shown of steps rests on no picks of the scenario
no_picks : (shows : Show) (scenario other : Scenario) (base : List DbcMessage) (sources : List NodeSource) (replay : Replay) (list : List Step)
    → shown_of shows (record scenario { picks = other.picks }) base sources replay list ≡ shown_of shows scenario base sources replay list
no_picks show.Window scenario other base sources replay list = refl
no_picks show.Log scenario other base sources replay list = refl
no_picks show.Both scenario other base sources replay list = refl
no_picks show.Profile scenario other base sources replay list = refl
no_picks show.Summary scenario other base sources replay list = refl

module _ (base : List DbcMessage) (sources : List NodeSource) (rounds : List Passed) (picks others : List ℕ) where
  -- the row of each number is the same
  same_row : row_then (first_rows base 0 sources) (steps rounds picks) ≡ row_then (first_rows base 0 sources) (steps rounds others)
  same_row = (λ i number. rows_stay (first_rows base 0 sources) rounds picks others number i)

  pub same_rows : rows_in base sources (steps rounds picks) ≡ rows_in base sources (steps rounds others)
  same_rows = ap (λ (row : ℕ → MeterRow). map row (range_with_len 0 (sum_by (procedures_in base) sources))) same_row

  module _ (scenario : Scenario) (replay : Replay) where
    pub same_log : shown_of show.Log scenario base sources replay (steps rounds picks) ≡ shown_of show.Log scenario base sources replay (steps rounds others)
    same_log =
        let labels : Labels = labels_of scenario sources replay in
        let differs = differ rounds others picks in
        ap (λ (l : List ℕ). l ++ [])
        (frames_shown labels (steps rounds picks) ∙ ap (λ (list : List Step). shown show.Log labels (entries list)) differs.frames ∙ sym (frames_shown labels (steps rounds others)))

    pub same_profile : shown_of show.Profile scenario base sources replay (steps rounds picks) ≡ shown_of show.Profile scenario base sources replay (steps rounds others)
    same_profile =
        let labels : Labels = labels_of scenario sources replay in
        let last : (ℕ → MeterRow) → List ℕ = λ runs. node_lines base runs 0 scenario.nodes.items sources in
        ap (λ (l : List ℕ). l ++ last (row_then (first_rows base 0 sources) (steps rounds picks))) (no_entries labels (entries (steps rounds picks)))
        ∙ ap last same_row
        ∙ ap (λ (l : List ℕ). l ++ last (row_then (first_rows base 0 sources) (steps rounds others))) (sym (no_entries labels (entries (steps rounds others))))

-- ---- two answers

-- what is answered on accepted inputs
answered_on : AcceptedLaw → (what : Option Show) (contents : Contents) (name bytes : List ℕ) (rows : List MeterRow) (scenario : Scenario) (base : List DbcMessage) (sources : List NodeSource) (replay : Replay)
    → AreAccepted contents name scenario base sources replay → IsAnsweredOn what contents name bytes rows → IsAnswerOf what scenario base sources replay bytes rows
answered_on accepted what contents name bytes rows scenario base sources replay are done =
    let same = accepted contents name done.scenario scenario done.base base done.sources sources done.replay replay done.accepted are in
    let here = by_scenario what same.0 done.answers in
    let by_base = subst (λ (b : List DbcMessage). IsAnswerOf what scenario b done.sources done.replay bytes rows) same.1 here in
    let by_sources = subst (λ (s : List NodeSource). IsAnswerOf what scenario base s done.replay bytes rows) same.2 by_base in
    subst (λ (r : Replay). IsAnswerOf what scenario base sources r bytes rows) same.3 by_sources
  where
    by_scenario : (w : Option Show) → SayTheSame done.scenario scenario → IsAnswerOf w done.scenario done.base done.sources done.replay bytes rows → IsAnswerOf w scenario done.base done.sources done.replay bytes rows
    by_scenario None same is = is
    by_scenario (Some shows) same is = moved_shown shows done.scenario scenario done.base done.sources done.replay bytes rows same is

-- the same rounds are shown twice, under the picks of one scenario and of the other
record ShownTwice (shows : Show) (bytes more : List ℕ) (rows counts : List MeterRow) : Type 0 where
  scenario : Scenario
  base : List DbcMessage
  sources : List NodeSource
  replay : Replay
  rounds : List Passed
  picks : List ℕ
  others : List ℕ
  shown_one : bytes ≡ shown_of shows scenario base sources replay (steps rounds picks)
  shown_other : more ≡ shown_of shows scenario base sources replay (steps rounds others)
  counts_one : rows ≡ rows_in base sources (steps rounds picks)
  counts_other : counts ≡ rows_in base sources (steps rounds others)

twice : OneRunLaw → (shows : Show) (scenario changed : Scenario) (base : List DbcMessage) (sources : List NodeSource) (replay : Replay) (bytes more : List ℕ) (rows counts : List MeterRow) → DifferInPicks scenario changed
    → IsShown shows scenario base sources replay bytes rows → IsShown shows changed base sources replay more counts → ShownTwice shows bytes more rows counts
twice law shows scenario changed base sources replay bytes more rows counts differs one other =
    let also = moved_shown shows changed (record scenario { picks = changed.picks }) base sources replay more counts differs other in
    let first = new_run (first_nodes base scenario.turns sources) (new_bus scenario.bit) scenario.keys.items replay.list in
    let same : also.rounds ≡ one.rounds = (law scenario.until first also.run.end one.run.end also.rounds one.rounds also.run.is one.run.is).0 in
    let list = ap (λ (r : List Passed). steps r changed.picks.items) same in
    record {
      scenario = scenario;
      base = base;
      sources = sources;
      replay = replay;
      rounds = one.rounds;
      picks = scenario.picks.items;
      others = changed.picks.items;
      shown_one = one.shows;
      shown_other = also.shows ∙ no_picks shows scenario changed base sources replay (steps also.rounds changed.picks.items) ∙ ap (shown_of shows scenario base sources replay) list;
      counts_one = one.counts;
      counts_other = also.counts ∙ ap (rows_in base sources) list;
    }

module _ (accepted : AcceptedLaw) (law : OneRunLaw) where
  -- what a command that shows something answers twice
  twice_answered : (command : Command) (shows : Show) → show_of command ≡ Some shows → (bytes more : List ℕ) (rows counts : List MeterRow) → AreAnswered command bytes more rows counts
      → ShownTwice shows bytes more rows counts
  twice_answered command shows is bytes more rows counts are =
      let inputs = are.inputs in
      let one = answered_on accepted (show_of command) are.contents are.name bytes rows inputs.scenario inputs.base inputs.sources inputs.replay inputs.accepted
      (command_done command are.contents are.words are.name bytes rows are.asks are.answer) in
      let other = answered_on accepted (show_of command) are.others are.other more counts inputs.changed inputs.base inputs.sources inputs.replay inputs.accepted_other
      (command_done command are.others are.other_words are.other more counts are.asks_other are.answer_other) in
      twice law shows inputs.scenario inputs.changed inputs.base inputs.sources inputs.replay bytes more rows counts inputs.differ
      (subst (λ (w : Option Show). IsAnswerOf w inputs.scenario inputs.base inputs.sources inputs.replay bytes rows) is one)
      (subst (λ (w : Option Show). IsAnswerOf w inputs.changed inputs.base inputs.sources inputs.replay more counts) is other)

  rows_twice : (shows : Show) (bytes more : List ℕ) (rows counts : List MeterRow) → ShownTwice shows bytes more rows counts → counts ≡ rows
  rows_twice shows bytes more rows counts both = both.counts_other ∙ same_rows both.base both.sources both.rounds both.others both.picks ∙ sym both.counts_one

  reordered : (shows : Show) (bytes more : List ℕ) (rows counts : List MeterRow) → ShownTwice shows bytes more rows counts → AreReordered shows bytes more
  reordered shows bytes more rows counts both = record {
    scenario = both.scenario;
    base = both.base;
    sources = both.sources;
    replay = both.replay;
    steps = steps both.rounds both.picks;
    others = steps both.rounds both.others;
    shows = both.shown_one;
    shows_other = both.shown_other;
    differ = differ both.rounds both.picks both.others;
  }

  -- the log is the same
  pub one_log : (bytes more : List ℕ) (rows counts : List MeterRow) → AreAnswered Log bytes more rows counts → more ≡ bytes
  one_log bytes more rows counts are =
      let both = twice_answered Log show.Log refl bytes more rows counts are in
      both.shown_other ∙ same_log both.base both.sources both.rounds both.others both.picks both.scenario both.replay ∙ sym both.shown_one

  -- so is the profile
  pub one_profile : (bytes more : List ℕ) (rows counts : List MeterRow) → AreAnswered Profile bytes more rows counts → more ≡ bytes
  one_profile bytes more rows counts are =
      let both = twice_answered Profile show.Profile refl bytes more rows counts are in
      both.shown_other ∙ same_profile both.base both.sources both.rounds both.others both.picks both.scenario both.replay ∙ sym both.shown_one

  -- the lines of the window differ in order alone
  pub window_lines : (bytes more : List ℕ) (rows counts : List MeterRow) → AreAnswered Window bytes more rows counts → AreReordered show.Window bytes more
  window_lines bytes more rows counts are = reordered show.Window bytes more rows counts (twice_answered Window show.Window refl bytes more rows counts are)

  -- and those of both
  pub run_lines : (bytes more : List ℕ) (rows counts : List MeterRow) → AreAnswered Run bytes more rows counts → AreReordered show.Both bytes more
  run_lines bytes more rows counts are = reordered show.Both bytes more rows counts (twice_answered Run show.Both refl bytes more rows counts are)

  -- nothing is counted where nothing is run
  none_counted : (contents : Contents) (words : List (List ℕ)) (name bytes : List ℕ) (rows : List MeterRow) → IsCommand words Check name → IsAnswer contents words Done bytes rows → rows ≡ []
  none_counted contents words name bytes rows asks answer = (command_done Check contents words name bytes rows asks answer).answers.1

  -- each procedure ran as often
  pub one_count : (command : Command) (bytes more : List ℕ) (rows counts : List MeterRow) → AreAnswered command bytes more rows counts → counts ≡ rows
  one_count Check bytes more rows counts are =
      none_counted are.others are.other_words are.other more counts are.asks_other are.answer_other ∙ sym (none_counted are.contents are.words are.name bytes rows are.asks are.answer)
  one_count Window bytes more rows counts are = rows_twice show.Window bytes more rows counts (twice_answered Window show.Window refl bytes more rows counts are)
  one_count Log bytes more rows counts are = rows_twice show.Log bytes more rows counts (twice_answered Log show.Log refl bytes more rows counts are)
  one_count Run bytes more rows counts are = rows_twice show.Both bytes more rows counts (twice_answered Run show.Both refl bytes more rows counts are)
  one_count Profile bytes more rows counts are = rows_twice show.Profile bytes more rows counts (twice_answered Profile show.Profile refl bytes more rows counts are)
