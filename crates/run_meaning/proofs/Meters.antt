-- What steps add to a meter, one after another.
use Rattle.std.specs.Prelude.{◌==◌}
use Rattle.std.specs.Option.{option_map, option_map_or}
use Rattle.std.proofs.Common.{◌≡◌, ◌≢◌, ℕ, ◌+◌, ◌-◌, ◌^◌, ◌≤◌, inl, inr, Bool, true, false, cond, List, [], ◌∷◌, ◌++◌, Option, None, Some, MatchOption, length, slice_get, arith, refl, ap, sym, subst, ◌∙◌}
use Rattle.std.proofs.lemmas.Bool.Decides.{eqb_tells}
use Rattle.can_bus.specs.declared.bus.Ended.{Ended}
use Rattle.stack_vm.specs.declared.meter.MeterRow.{MeterRow}
use Rattle.stack_vm.specs.Meter.{AddsRun, row_after}
use Rattle.node_rounds.specs.Round.{Task}
use Rattle.run_meaning.specs.Counts.{AddsSteps, adds_to, row_with, step_turns}
use Rattle.run_meaning.specs.Done.{AddsAtMost}
use Rattle.run_meaning.specs.Steps.{Step, frame_ended, task_done}

-- a row after steps in two parts
pub row_with_append : (first_rows : List ℕ) (number : ℕ) (row : MeterRow) (xs ys : List Step)
    → row_with first_rows number row (xs ++ ys) ≡ row_with first_rows number (row_with first_rows number row xs) ys
row_with_append first_rows number row [] ys = refl
row_with_append first_rows number row (x ∷ xs) ys = row_with_append first_rows number (cond (adds_to first_rows number x) (row_after (step_turns x) row) row) xs ys

-- no step adds nothing
pub adds_none : (first_rows : List ℕ) (meter : List MeterRow) → AddsSteps first_rows [] meter meter
adds_none first_rows meter = record { as_many = refl; added = λ number row there. there }

-- steps, and then further ones
pub adds_more : {first_rows : List ℕ} {xs ys : List Step} {a b c : List MeterRow} → AddsSteps first_rows xs a b → AddsSteps first_rows ys b c → AddsSteps first_rows (xs ++ ys) a c
adds_more {first_rows} {xs} {ys} first second = record {
  as_many = second.as_many ∙ first.as_many;
  added = λ number row there. second.added number (row_with first_rows number row xs) (first.added number row there) ∙ ap (λ (r : MeterRow). Some r) (sym (row_with_append first_rows number row xs ys));
}

-- the row of a number, after the run of a task was added to that of its procedure
added_by : (first turns number : ℕ) (row : MeterRow) (before after : List MeterRow) (ran : Option ℕ) → MatchOption ran (after ≡ before) (λ handler. AddsRun (first + handler) turns before after)
    → slice_get before number ≡ Some row
    → slice_get after number ≡ Some (cond (option_map_or (λ r. r == number) (option_map_or (λ procedure. option_map (λ f. f + procedure) (Some first)) ran None) false) (row_after turns row) row)
added_by first turns number row before after None same there = ap (λ (m : List MeterRow). slice_get m number) same ∙ there
added_by first turns number row before after (Some handler) adds there = elim (eqb_tells (first + handler) number) [
  | inl own ↦ let at : first + handler ≡ number = own.1 in
      let here : slice_get before (first + handler) ≡ Some row = ap (slice_get before) at ∙ there in
      ap (slice_get after) (sym at) ∙ adds.added row here ∙ ap (λ (b : Bool). Some (cond b (row_after turns row) row)) (sym own.0)
  | inr other ↦ let apart : first + handler ≢ number = other.1 in
      adds.others_stay number (λ same. apart (sym same)) ∙ there ∙ ap (λ (b : Bool). Some (cond b (row_after turns row) row)) (sym other.0)
]

as_many_by : (first turns : ℕ) (before after : List MeterRow) (ran : Option ℕ) → MatchOption ran (after ≡ before) (λ handler. AddsRun (first + handler) turns before after) → length after ≡ length before
as_many_by first turns before after None same = ap (λ (m : List MeterRow). length m) same
as_many_by first turns before after (Some handler) adds = adds.as_many

-- a task of a node, whose rows begin with the one of a number, adds its run
pub adds_task : {first_rows : List ℕ} {node first : ℕ} → slice_get first_rows node ≡ Some first → (now : ℕ) (task : Task) (before after : List MeterRow)
    → MatchOption task.trigger.procedure (after ≡ before) (λ handler. AddsRun (first + handler) task.turns before after) → AddsSteps first_rows (task_done now node task ∷ []) before after
adds_task {first_rows} {node} {first} is_first now task before after metered = record {
  as_many = as_many_by first task.turns before after task.trigger.procedure metered;
  added = λ number row there.
      subst (λ (o : Option ℕ). slice_get after number ≡ Some (cond (option_map_or (λ r. r == number) (option_map_or (λ procedure. option_map (λ f. f + procedure) o) task.trigger.procedure None) false) (row_after task.turns row) row))
      (sym is_first) (added_by first task.turns number row before after task.trigger.procedure metered there);
}

-- a frame that ended adds nothing
pub adds_frame : (first_rows : List ℕ) (now : ℕ) (ended : Ended) (meter : List MeterRow) → AddsSteps first_rows (frame_ended now ended ∷ []) meter meter
adds_frame first_rows now ended meter = record { as_many = refl; added = λ number row there. there }

-- ---- at most

-- the runs of a row do not fall, and stay in their range
rises : (turns : ℕ) (row : MeterRow) → row.runs ≤ 2 ^ 64 - 1 → (row.runs ≤ (row_after turns row).runs) × ((row_after turns row).runs ≤ 2 ^ 64 - 1)
rises turns row in_range = (omega arith, omega arith)

rises_by : (b : Bool) (turns : ℕ) (row : MeterRow) → row.runs ≤ 2 ^ 64 - 1 → (row.runs ≤ (cond b (row_after turns row) row).runs) × ((cond b (row_after turns row) row).runs ≤ 2 ^ 64 - 1)
rises_by true turns row in_range = rises turns row in_range
rises_by false turns row in_range = (omega arith, in_range)

-- steps let no runs fall
pub runs_rise : (first_rows : List ℕ) (number : ℕ) (row : MeterRow) (steps : List Step) → row.runs ≤ 2 ^ 64 - 1
    → (row.runs ≤ (row_with first_rows number row steps).runs) × ((row_with first_rows number row steps).runs ≤ 2 ^ 64 - 1)
runs_rise first_rows number row [] in_range = (omega arith, in_range)
runs_rise first_rows number row (step ∷ steps) in_range =
    let one = rises_by (adds_to first_rows number step) (step_turns step) row in_range in
    let more = runs_rise first_rows number (cond (adds_to first_rows number step) (row_after (step_turns step) row) row) steps one.1 in
    (omega (arith, one.0, more.0), more.1)

-- what steps add is at most what more steps add
pub at_most_more : {first_rows : List ℕ} {xs : List Step} {a b : List MeterRow} → AddsSteps first_rows xs a b → (ys : List Step) → AddsAtMost first_rows (xs ++ ys) a b
at_most_more {first_rows} {xs} adds ys = record {
  as_many = adds.as_many;
  at_most = λ number row there in_range. (
    row_with first_rows number row xs,
    adds.added number row there,
    subst (λ (r : MeterRow). (row_with first_rows number row xs).runs ≤ r.runs) (sym (row_with_append first_rows number row xs ys))
        (runs_rise first_rows number (row_with first_rows number row xs) ys (runs_rise first_rows number row xs in_range).1).0,
  );
}

-- what is at most what steps add is at most what more steps add
pub at_most_longer : {first_rows : List ℕ} {xs : List Step} {a b : List MeterRow} → AddsAtMost first_rows xs a b → (ys : List Step) → AddsAtMost first_rows (xs ++ ys) a b
at_most_longer {first_rows} {xs} adds ys = record {
  as_many = adds.as_many;
  at_most = λ number row there in_range.
      let own = adds.at_most number row there in_range in
      let more = (runs_rise first_rows number (row_with first_rows number row xs) ys (runs_rise first_rows number row xs in_range).1).0 in
      (own.0, own.1, subst (λ (r : MeterRow). own.0.runs ≤ r.runs) (sym (row_with_append first_rows number row xs ys)) (omega (arith, own.2, more)));
}

-- after steps were added, what is at most further ones is at most all
pub at_most_behind : {first_rows : List ℕ} {xs ys : List Step} {a b c : List MeterRow} → AddsSteps first_rows xs a b → AddsAtMost first_rows ys b c → AddsAtMost first_rows (xs ++ ys) a c
at_most_behind {first_rows} {xs} {ys} first second = record {
  as_many = second.as_many ∙ first.as_many;
  at_most = λ number row there in_range.
      let own = second.at_most number (row_with first_rows number row xs) (first.added number row there) (runs_rise first_rows number row xs in_range).1 in
      (own.0, own.1, subst (λ (r : MeterRow). own.0.runs ≤ r.runs) (sym (row_with_append first_rows number row xs ys)) own.2);
}
