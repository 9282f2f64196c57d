-- The summary of a run, by what a tally counted in it.
use Rattle.std.proofs.Common.{◌≡◌, ℕ, ◌+◌, ◌^◌, ◌<◌, ◌==◌, Bool, true, false, List, [], ◌∷◌, Option, None, Some, cond, length, slice_get, get_or, arith, refl, ap, ap₂, sym, ◌∙◌}
use Rattle.std.specs.List.{count_by, sum_by}
use Rattle.std.proofs.lemmas.List.{append-nil, ext_get_or}
use Rattle.std.proofs.lemmas.List.FromFn.{get_or-map-range_with_len, length-map-range_with_len}
use Rattle.std.proofs.lemmas.List.Sums.{sum_by-cons}
use Rattle.std.proofs.lemmas.Option.{slice_get-get_or}
use Rattle.can_bus.specs.Meaning.{BusMeaning}
use Rattle.bytecode.specs.declared.code.Handler.{Handler}
use Rattle.stack_vm.specs.declared.meter.MeterRow.{MeterRow}
use Rattle.run_records.specs.declared.record.Noted.{Noted}
use Rattle.run_records.specs.declared.record.Noted.TheVariants as entry
use Rattle.run_records.specs.Record.{RecordMeaning}
use Rattle.node_rounds.specs.Effects.{TakesEntries}
use Rattle.node_run.specs.Node.{NodeInRound}
use Rattle.run_meaning.specs.Counts.{AddsSteps, row_then}
use Rattle.run_meaning.specs.Steps.{Step, entries, steps}
use Rattle.sim_core.specs.Core.{CoreState, HasRun, IsRunCut, rows_of}
use Rattle.sim_outside.specs.Sink.{GrowsBy, GrowsByPrefix}
use Rattle.sim_text.specs.Lines.{summary_line}
use Rattle.sim_play.specs.Inside.Counted.{handlers_of, row_count}
use Rattle.sim_play.specs.Inside.Shown.{HasShown, IsShownInPart}
use Rattle.sim_play.specs.Inside.Tallied.{count_after}
use Rattle.sim_play.specs.Play.{AreNewRows, HasPlayed, IsPlayedInPart, procedures_of, rows_then, shown_last}
use Rattle.sim_play.specs.Show.{shown, capped, first_lines, is_frame, is_text, summary_of}
use Rattle.sim_play.specs.declared.labels.Labels.{Labels}
use Rattle.sim_play.specs.declared.labels.Show.TheVariants.{Summary}
use Rattle.sim_play.proofs.Grows.{begins_none, grows_none, grows_same}
use Rattle.sim_play.proofs.PlayLemmas.{as_many_nodes, cut_last, cut_run, has_played}
use Rattle.sim_play.proofs.RowLemmas.{counts_then, no_runs, order_ends}

-- ---- what a record counts

one_more : (counted : Bool) (count more : ℕ) → capped (cond counted (capped (count + 1)) count + more) ≡ capped (count + (cond counted 1 0 + more))
one_more true count more = omega arith
one_more false count more = omega arith

in_range : (counted : Bool) (count : ℕ) → count < 2 ^ 64 → cond counted (capped (count + 1)) count < 2 ^ 64
in_range true count below = omega arith
in_range false count below = below

-- a record that counts such entries has counted all of them
pub counts_all : {R : Type 0} (meaning : RecordMeaning R) (count : R → ℕ) (is_counted : Noted → Bool)
    → ((before : R) (noted : Noted) (after : R) → meaning.takes before noted after → count after ≡ count_after is_counted (count before) noted)
    → (before : R) (list : List Noted) (after : R) → TakesEntries meaning before list after → count before < 2 ^ 64 → count after ≡ capped (count before + count_by is_counted list)
counts_all meaning count is_counted each before [] after same below = ap count same ∙ omega arith
counts_all meaning count is_counted each before (noted ∷ list) after took below =
    let one : count took.0 ≡ cond (is_counted noted) (capped (count before + 1)) (count before) = each before noted took.0 took.1.taken in
    let small = in_range (is_counted noted) (count before) below in
    counts_all meaning count is_counted each took.0 list after took.2 (omega (arith, one, small))
    ∙ ap (λ n. capped (n + count_by is_counted list)) one ∙ one_more (is_counted noted) (count before) (count_by is_counted list)
    ∙ ap (λ n. capped (count before + n)) (sym (sum_by-cons (λ (n : Noted). cond (is_counted n) 1 0) noted list))

-- ---- what is shown of a run whose summary is asked for

-- nothing of entries
pub shown_none : (labels : Labels) (list : List Noted) → shown Summary labels list ≡ []
shown_none labels [] = refl
shown_none labels (entry.Line now node text ∷ list) = shown_none labels list
shown_none labels (entry.Frame now frame ∷ list) = shown_none labels list

module _ {B R : Type 0} {bus : BusMeaning B} {meaning : RecordMeaning R} {labels : Labels} {before : CoreState B} {into after : R} {meter meter_after : List MeterRow} where
  -- nothing of the run
  abbrev pub shows_none : {core : CoreState B} (written : Option (List ℕ)) → HasRun bus meaning before into meter core after meter_after → HasShown bus Summary labels before core written written meter meter_after
  shows_none written run = record {
    rounds = run.rounds;
    end = run.end;
    is_run = run.is_run;
    nodes = run.nodes;
    grows = grows_same written written (sym (shown_none labels (entries (steps run.rounds before.picks)))) (grows_none written);
    metered = run.done.metered;
  }

  cut_none : (written : Option (List ℕ)) → IsRunCut bus meaning before into after meter meter_after → IsShownInPart bus Summary labels before written written meter meter_after
  cut_none written run = record {
    rounds = run.rounds;
    end = run.end;
    is_run = run.is_run;
    begins = begins_none written (shown Summary labels (entries (steps run.rounds before.picks)));
    front = run.cut.front;
    rest = run.cut.rest;
    are = run.cut.are;
    more = [];
    whole = grows_same written written (sym (append-nil (shown Summary labels (entries run.cut.front)) ∙ shown_none labels (entries run.cut.front))) (grows_none written);
    metered = run.cut.metered;
  }

  -- nothing of a run that a fault ended
  pub cut_in_run : (written : Option (List ℕ)) → IsRunCut bus meaning before into after meter meter_after → IsPlayedInPart bus Summary labels before written written meter meter_after
  cut_in_run written run = cut_run written written written (grows_none written) (cut_none written run)

-- ---- the rows

procedures_are : (nodes : List NodeInRound) → row_count (handlers_of nodes) ≡ procedures_of nodes
procedures_are [] = refl
procedures_are (node ∷ nodes) =
    let own : List Handler = node.doing.node.memory.code.handlers in
    sum_by-cons length own (handlers_of nodes) ∙ ap (λ n. length own + n) (procedures_are nodes)
    ∙ sym (sum_by-cons (λ (n : NodeInRound). length n.doing.node.memory.code.handlers) node nodes)

row_at : (rows : List MeterRow) (number : ℕ) (row : MeterRow) → slice_get rows number ≡ Some row → number < length rows → get_or rows number no_runs ≡ row
row_at rows number row is within =
    let there : Some (get_or rows number no_runs) ≡ Some row = sym (slice_get-get_or rows number no_runs within) ∙ is in
    cc

-- a new meter has the rows of the steps after them
rows_are : {nodes : List NodeInRound} {list : List Step} {meter meter_after : List MeterRow} → AreNewRows nodes meter → AddsSteps (rows_of nodes) list meter meter_after
    → meter_after ≡ rows_then nodes list
rows_are {nodes} {list} {meter} {meter_after} rows adds =
    let counted : ℕ → MeterRow = row_then (rows_of nodes) list in
    let many : ℕ = procedures_of nodes in
    let ends = order_ends 0 nodes (length meter) rows.in_order in
    let all = procedures_are nodes in
    let same = adds.as_many in
    let long : length meter_after ≡ many = omega (arith, ends, all, same) in
    ext_get_or no_runs meter_after (rows_then nodes list) (long ∙ sym (length-map-range_with_len counted 0 many))
    (λ number within. row_at meter_after number (counted number) (counts_then rows adds number within) within
    ∙ sym (get_or-map-range_with_len counted 0 many number number no_runs (omega (arith, within, long)) (omega arith)))

-- ---- the summary

-- a record counts so the frames and the lines of text that it takes
pub record Counts {R : Type 0} (meaning : RecordMeaning R) (frames lines : R → ℕ) : Type 0 where
  pub counts_frames : (before : R) (noted : Noted) (after : R) → meaning.takes before noted after → frames after ≡ count_after is_frame (frames before) noted
  pub counts_lines : (before : R) (noted : Noted) (after : R) → meaning.takes before noted after → lines after ≡ count_after is_text (lines before) noted

few_first : (labels : Labels) → first_lines labels < 2 ^ 64
few_first labels = few (labels.skipped == 0)
  where
    few : (none : Bool) → cond none 0 1 < 2 ^ 64
    few true = omega arith
    few false = omega arith

module _ {R : Type 0} (meaning : RecordMeaning R) (frames lines : R → ℕ) (counts : Counts meaning frames lines) where
  -- the line by what a record counted
  abbrev pub line_by : List NodeInRound → R → List MeterRow → List ℕ
  line_by nodes after meter = summary_line (length nodes) (frames after) (lines after) (capped (sum_by (λ row. row.turns) meter))

  module _ {B : Type 0} {bus : BusMeaning B} {before core : CoreState B} {into after : R} {meter meter_after : List MeterRow} (rows : AreNewRows before.nodes meter)
      (no_frame : frames into ≡ 0) (run : HasRun bus meaning before into meter core after meter_after) (nodes : List NodeInRound) (are : nodes ≡ core.nodes) where
    -- it is the summary of the steps
    line_is : (labels : Labels) → lines into ≡ first_lines labels → line_by nodes after meter_after ≡ shown_last Summary labels before.nodes (steps run.rounds before.picks)
    line_is labels first =
        let list : List Step = steps run.rounds before.picks in
        let turns : ℕ = capped (sum_by (λ row. row.turns) meter_after) in
        let few = few_first labels in
        let frames_are : frames after ≡ capped (count_by is_frame (entries list)) =
        counts_all meaning frames is_frame counts.counts_frames into (entries list) after run.done.takes (omega (arith, no_frame))
        ∙ ap (λ n. capped (n + count_by is_frame (entries list))) no_frame ∙ omega arith in
        let lines_are : lines after ≡ capped (first_lines labels + count_by is_text (entries list)) =
        counts_all meaning lines is_text counts.counts_lines into (entries list) after run.done.takes (omega (arith, first, few))
        ∙ ap (λ n. capped (n + count_by is_text (entries list))) first in
        ap (λ n. summary_line n (frames after) (lines after) turns) (ap (λ (ns : List NodeInRound). length ns) are ∙ as_many_nodes (shows_none {labels = labels} None run))
        ∙ ap₂ (λ n k. summary_line (length before.nodes) n k turns) frames_are lines_are
        ∙ ap (λ (rs : List MeterRow). summary_of labels (length before.nodes) (entries list) rs) (rows_are rows run.done.metered)

    -- what was written has grown by the summary
    pub summary_played : {labels : Labels} (first : lines into ≡ first_lines labels) (a b : Option (List ℕ)) → GrowsBy a b (line_by nodes after meter_after) → HasPlayed bus Summary labels before a b meter_after
    summary_played {labels} first a b grows = has_played a a a b rows (grows_none a) (shows_none a run) (line_by nodes after meter_after) (line_is labels first) grows

    -- it has grown by a beginning of the summary
    pub summary_cut : {labels : Labels} (first : lines into ≡ first_lines labels) (a b : Option (List ℕ)) → GrowsByPrefix a b (line_by nodes after meter_after) → IsPlayedInPart bus Summary labels before a b meter meter_after
    summary_cut {labels} first a b begins = cut_last a a a b rows (grows_none a) (shows_none a run) (line_by nodes after meter_after) (line_is labels first) begins
