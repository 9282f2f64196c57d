-- What steps leave, step by step: all that were done, and those up to one that a fault ended.
use Rattle.std.proofs.Common.{◌≡◌, ℕ, ◌+◌, ◌⊎◌, inl, inr, List, [], ◌∷◌, ◌++◌, MatchOption, Some, slice_get, take, refl, ap, sym, subst, ◌∙◌}
use Rattle.std.proofs.lemmas.Grind.{flat_map-append}
use Rattle.std.proofs.lemmas.List.{append-nil, append_assoc, map-append}
use Rattle.can_bus.specs.declared.bus.Ended.{Ended}
use Rattle.run_records.specs.declared.record.Noted.{Noted}
use Rattle.run_records.specs.declared.record.Noted.TheVariants as entry
use Rattle.run_records.specs.Record.{RecordMeaning, RefusesEntry, TakesEntry}
use Rattle.bytecode.specs.Laws.{BeginsWith}
use Rattle.stack_vm.specs.declared.meter.MeterRow.{MeterRow}
use Rattle.stack_vm.specs.Meter.{AddsRun}
use Rattle.node_rounds.specs.Effects.{TakesEntries, line_entries}
use Rattle.node_rounds.specs.Round.{Task}
use Rattle.run_meaning.specs.Done.{AddsAtMost, AreCut, AreDone}
use Rattle.run_meaning.specs.Steps.{picks_after, Step, entries, frame_ended, picks_left, round_steps, step_entries, steps, task_done}
use Rattle.run_meaning.specs.Run.{Passed}
use Rattle.run_meaning.proofs.Meters.{adds_frame, adds_more, adds_none, adds_task, at_most_behind, at_most_longer, at_most_more}

-- ---- lists

-- the entries of steps in two parts
pub entries_append : (xs ys : List Step) → entries (xs ++ ys) ≡ entries xs ++ entries ys
entries_append xs ys = flat_map-append step_entries xs ys

-- the picks that are left after rounds in two parts
pub picks_left_append : (xs ys : List Passed) (picks : List ℕ) → picks_left (xs ++ ys) picks ≡ picks_left ys (picks_left xs picks)
picks_left_append [] ys picks = refl
picks_left_append (x ∷ xs) ys picks = picks_left_append xs ys (picks_after x.tasks picks)

-- the steps of rounds in two parts
pub steps_append : (xs ys : List Passed) (picks : List ℕ) → steps (xs ++ ys) picks ≡ steps xs picks ++ steps ys (picks_left xs picks)
steps_append [] ys picks = refl
steps_append (x ∷ xs) ys picks =
    ap (λ (zs : List Step). round_steps x picks ++ zs) (steps_append xs ys (picks_after x.tasks picks))
    ∙ sym (append_assoc (round_steps x picks) (steps xs (picks_after x.tasks picks)) (steps ys (picks_left xs (picks_after x.tasks picks))))

-- entries in order, and then further ones
pub takes_more : {R : Type 0} (meaning : RecordMeaning R) (a : R) (xs ys : List Noted) (b c : R) → TakesEntries meaning a xs b → TakesEntries meaning b ys c → TakesEntries meaning a (xs ++ ys) c
takes_more meaning a [] ys b c first second = subst (λ z. TakesEntries meaning z ys c) first second
takes_more meaning a (x ∷ xs) ys b c first second = (first.0, first.1, takes_more meaning first.0 xs ys b c first.2 second)

-- nothing begins each list
pub nothing_begins : {A : Type 0} (xs : List A) → BeginsWith xs []
nothing_begins xs = (xs, refl)

-- what begins nothing is nothing
begins_nothing : {A : Type 0} (xs : List A) → BeginsWith [] xs → xs ≡ []
begins_nothing [] begins = refl
begins_nothing (x ∷ xs) begins = cc begins.1

-- a list with one more at its end is not nothing
none_more : {A : Type 0} (xs : List A) (x : A) → BeginsWith [] (xs ++ x ∷ []) → ⊥
none_more [] x begins = cc begins.1
none_more (y ∷ xs) x begins = cc begins.1

-- ---- all steps

-- no step leaves all as it was
pub done_none : {R : Type 0} {meaning : RecordMeaning R} {first_rows : List ℕ} {into : R} {meter : List MeterRow} → AreDone meaning first_rows [] into into meter meter
done_none {first_rows} {meter} = record { takes = refl; metered = adds_none first_rows meter }

-- steps, and then further ones
pub done_more : {R : Type 0} {meaning : RecordMeaning R} {first_rows : List ℕ} {xs ys : List Step} {into between into_after : R} {meter meter_between meter_after : List MeterRow}
    → AreDone meaning first_rows xs into between meter meter_between → AreDone meaning first_rows ys between into_after meter_between meter_after
    → AreDone meaning first_rows (xs ++ ys) into into_after meter meter_after
done_more {meaning} {xs} {ys} {into} {between} {into_after} first second = record {
  takes = subst (λ (es : List Noted). TakesEntries meaning into es into_after) (sym (entries_append xs ys))
      (takes_more meaning into (entries xs) (entries ys) between into_after first.takes second.takes);
  metered = adds_more first.metered second.metered;
}

-- a frame that ended was told
pub done_frame : {R : Type 0} {meaning : RecordMeaning R} {first_rows : List ℕ} {into into_after : R} (now : ℕ) (ended : Ended) (meter : List MeterRow)
    → TakesEntry meaning into (entry.Frame now ended.frame) into_after → AreDone meaning first_rows (frame_ended now ended ∷ []) into into_after meter meter
done_frame {first_rows} {into_after} now ended meter took = record { takes = (into_after, took, refl); metered = adds_frame first_rows now ended meter }

-- a task of a node, whose rows begin with the one of a number, was done
pub done_task : {R : Type 0} {meaning : RecordMeaning R} {first_rows : List ℕ} {node first : ℕ} → slice_get first_rows node ≡ Some first
    → {into into_after : R} {meter meter_after : List MeterRow} (now : ℕ) (task : Task) → TakesEntries meaning into (line_entries now node task.lines) into_after
    → MatchOption task.trigger.procedure (meter_after ≡ meter) (λ handler. AddsRun (first + handler) task.turns meter meter_after)
    → AreDone meaning first_rows (task_done now node task ∷ []) into into_after meter meter_after
done_task {meaning} {node} is_first {into} {into_after} {meter} {meter_after} now task takes metered = record {
  takes = subst (λ (es : List Noted). TakesEntries meaning into es into_after) (sym (append-nil (line_entries now node task.lines))) takes;
  metered = adds_task is_first now task meter meter_after metered;
}

-- ---- steps up to a fault

-- no step was begun
pub cut_at_none : {R : Type 0} {meaning : RecordMeaning R} {first_rows : List ℕ} {into : R} {meter : List MeterRow} → (steps : List Step) → AreCut meaning first_rows steps into into meter meter
cut_at_none {first_rows} {into} {meter} steps = record {
  front = [];
  rest = steps;
  are = refl;
  taken = [];
  between = into;
  are_first = nothing_begins (entries (take 1 steps));
  takes = refl;
  refusal = inl refl;
  metered = at_most_more (adds_none first_rows meter) (take 1 steps);
}

-- steps that were done, and then further ones up to a fault
pub cut_more : {R : Type 0} {meaning : RecordMeaning R} {first_rows : List ℕ} {xs ys : List Step} {into between into_after : R} {meter meter_between meter_after : List MeterRow}
    → AreDone meaning first_rows xs into between meter meter_between → AreCut meaning first_rows ys between into_after meter_between meter_after
    → AreCut meaning first_rows (xs ++ ys) into into_after meter meter_after
cut_more {meaning} {first_rows} {xs} {ys} {into} {between} {into_after} {meter} {meter_between} {meter_after} done cut = record {
  front = xs ++ cut.front;
  rest = cut.rest;
  are = ap (λ (zs : List Step). xs ++ zs) cut.are ∙ sym (append_assoc xs cut.front cut.rest);
  taken = cut.taken;
  between = cut.between;
  are_first = cut.are_first;
  takes = subst (λ (es : List Noted). TakesEntries meaning into es cut.between)
      (sym (append_assoc (entries xs) (entries cut.front) cut.taken) ∙ ap (λ (es : List Noted). es ++ cut.taken) (sym (entries_append xs cut.front)))
      (takes_more meaning into (entries xs) (entries cut.front ++ cut.taken) between cut.between done.takes cut.takes);
  refusal = cut.refusal;
  metered = subst (λ (zs : List Step). AddsAtMost first_rows zs meter meter_after) (sym (append_assoc xs cut.front (take 1 cut.rest))) (at_most_behind done.metered cut.metered);
}

-- the step behind the first, with further ones behind it
cut_behind : {R : Type 0} (meaning : RecordMeaning R) (first_rows : List ℕ) (xs ys front rest : List Step) (taken : List Noted) (into between into_after : R) (meter meter_after : List MeterRow)
    → xs ≡ front ++ rest → BeginsWith (entries (take 1 rest)) taken → TakesEntries meaning into (entries front ++ taken) between
    → (into_after ≡ between) ⊎ ((noted : Noted) × RefusesEntry meaning between noted into_after × BeginsWith (entries (take 1 rest)) (taken ++ noted ∷ []))
    → AddsAtMost first_rows (front ++ take 1 rest) meter meter_after → AreCut meaning first_rows (xs ++ ys) into into_after meter meter_after
cut_behind meaning first_rows xs ys front [] taken into between into_after meter meter_after are are_first takes refusal metered = record {
  front = front;
  rest = ys;
  are = ap (λ (zs : List Step). zs ++ ys) (are ∙ append-nil front);
  taken = taken;
  between = between;
  are_first = subst (λ (es : List Noted). BeginsWith (entries (take 1 ys)) es) (sym (begins_nothing taken are_first)) (nothing_begins (entries (take 1 ys)));
  takes = takes;
  refusal = elim refusal as (λ _. (into_after ≡ between) ⊎ ((noted : Noted) × RefusesEntry meaning between noted into_after × BeginsWith (entries (take 1 ys)) (taken ++ noted ∷ []))) [
    | inl same ↦ inl same
    | inr refused ↦ absurd (none_more taken refused.0 refused.2)
  ];
  metered = at_most_longer (subst (λ (zs : List Step). AddsAtMost first_rows zs meter meter_after) (append-nil front) metered) (take 1 ys);
}
cut_behind meaning first_rows xs ys front (step ∷ rest) taken into between into_after meter meter_after are are_first takes refusal metered = record {
  front = front;
  rest = step ∷ (rest ++ ys);
  are = ap (λ (zs : List Step). zs ++ ys) are ∙ append_assoc front (step ∷ rest) ys;
  taken = taken;
  between = between;
  are_first = are_first;
  takes = takes;
  refusal = refusal;
  metered = metered;
}

-- further steps behind those up to a fault
pub cut_before : {R : Type 0} {meaning : RecordMeaning R} {first_rows : List ℕ} {xs : List Step} {into into_after : R} {meter meter_after : List MeterRow}
    → AreCut meaning first_rows xs into into_after meter meter_after → (ys : List Step) → AreCut meaning first_rows (xs ++ ys) into into_after meter meter_after
cut_before {meaning} {first_rows} {xs} {into} {into_after} {meter} {meter_after} cut ys =
    cut_behind meaning first_rows xs ys cut.front cut.rest cut.taken into cut.between into_after meter meter_after cut.are cut.are_first cut.takes cut.refusal cut.metered

lines_append : (now node : ℕ) (xs ys : List (List ℕ)) → line_entries now node (xs ++ ys) ≡ line_entries now node xs ++ line_entries now node ys
lines_append now node xs ys = map-append (λ text. entry.Line now node text) xs ys

-- lines that begin those of a task are entries that begin its own
lines_begin : (now node : ℕ) (task : Task) (lines : List (List ℕ)) → BeginsWith task.lines lines → BeginsWith (entries (task_done now node task ∷ [])) (line_entries now node lines)
lines_begin now node task lines begins =
    (line_entries now node begins.0, append-nil (line_entries now node task.lines) ∙ ap (line_entries now node) begins.1 ∙ lines_append now node lines begins.0)

-- A task of a node, whose rows begin with the one of a number, was ended by a fault: the first of its lines were
-- taken, and then one refused or none asked for, and at most its run was added.
pub cut_in_task : {R : Type 0} {meaning : RecordMeaning R} {first_rows : List ℕ} {node first : ℕ} → slice_get first_rows node ≡ Some first
    → {into between into_after : R} {meter meter_after : List MeterRow} (now : ℕ) (task : Task) (lines : List (List ℕ))
    → BeginsWith task.lines lines → TakesEntries meaning into (line_entries now node lines) between
    → (into_after ≡ between) ⊎ ((text : List ℕ) × RefusesEntry meaning between (entry.Line now node text) into_after × BeginsWith task.lines (lines ++ text ∷ []))
    → (meter_after ≡ meter) ⊎ MatchOption task.trigger.procedure (meter_after ≡ meter) (λ handler. AddsRun (first + handler) task.turns meter meter_after)
    → (rest : List Step) → AreCut meaning first_rows (task_done now node task ∷ rest) into into_after meter meter_after
cut_in_task {meaning} {first_rows} {node} {first} is_first {into} {between} {into_after} {meter} {meter_after} now task lines begins takes refusal metered rest = record {
  front = [];
  rest = task_done now node task ∷ rest;
  are = refl;
  taken = line_entries now node lines;
  between = between;
  are_first = lines_begin now node task lines begins;
  takes = takes;
  refusal = elim refusal as (λ _. (into_after ≡ between) ⊎ ((noted : Noted) × RefusesEntry meaning between noted into_after × BeginsWith (entries (task_done now node task ∷ [])) (line_entries now node lines ++ noted ∷ []))) [
    | inl same ↦ inl same
    | inr refused ↦ inr (
      entry.Line now node refused.0,
      refused.1,
      subst (λ (es : List Noted). BeginsWith (entries (task_done now node task ∷ [])) es) (lines_append now node lines (refused.0 ∷ [])) (lines_begin now node task (lines ++ refused.0 ∷ []) refused.2),
    )
  ];
  metered = elim metered as (λ _. AddsAtMost first_rows (task_done now node task ∷ []) meter meter_after) [
    | inl same ↦ subst (λ (m : List MeterRow). AddsAtMost first_rows (task_done now node task ∷ []) meter m) (sym same) (at_most_more (adds_none first_rows meter) (task_done now node task ∷ []))
    | inr adds ↦ at_most_more (adds_task is_first now task meter meter_after adds) []
  ];
}
