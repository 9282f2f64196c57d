-- In whichever order picks put the tasks of rounds, steps leave the rows of a meter the same.
use Rattle.std.proofs.Common.{◌≡◌, ◌⊎◌, inl, inr, ℕ, suc, ◌+◌, ◌-◌, ◌^◌, ◌<◌, min, Bool, true, false, cond, List, [], ◌∷◌, length, Some, slice_get, arith, refl, ap, sym, subst, ◌∙◌}
use Rattle.std.specs.List.{sum_by}
use Rattle.std.proofs.lemmas.List.Sums.{sum_by-cons}
use Rattle.stack_vm.specs.declared.meter.MeterRow.{MeterRow}
use Rattle.stack_vm.specs.Meter.{row_after}
use Rattle.run_meaning.specs.Counts.{AddsSteps, adds_to, row_with, step_turns}
use Rattle.run_meaning.specs.Run.{Passed}
use Rattle.run_meaning.specs.Steps.{Step, steps}
use Rattle.run_meaning.proofs.Counts.{steps_sum}
use Rattle.run_meaning.proofs.Once.{some_same}

module _ (first_rows : List ℕ) (number : ℕ) where
  abbrev runs_in : Step → ℕ
  runs_in step = cond (adds_to first_rows number step) 1 0

  abbrev turns_in : Step → ℕ
  turns_in step = cond (adds_to first_rows number step) (step_turns step) 0

  -- a row with so many more runs and turns
  abbrev added : MeterRow → ℕ → ℕ → MeterRow
  added row runs turns = record { runs = min (row.runs + runs) (2 ^ 64 - 1); turns = min (row.turns + turns) (2 ^ 64 - 1) }

  -- what is known of a row after steps with so many runs and turns: there are none and it stays, or they are added
  abbrev IsSummed : MeterRow → ℕ → ℕ → MeterRow → Type 0
  IsSummed row runs turns after = ((runs ≡ 0) × (turns ≡ 0) × (after ≡ row)) ⊎ ((0 < runs) × (after ≡ added row runs turns))

  added_more : (row : MeterRow) (more runs turns : ℕ) → added (row_after more row) runs turns ≡ added row (1 + runs) (more + turns)
  added_more row more runs turns =
      let a : min (min (row.runs + 1) (2 ^ 64 - 1) + runs) (2 ^ 64 - 1) ≡ min (row.runs + (1 + runs)) (2 ^ 64 - 1) = omega arith in
      let b : min (min (row.turns + more) (2 ^ 64 - 1) + turns) (2 ^ 64 - 1) ≡ min (row.turns + (more + turns)) (2 ^ 64 - 1) = omega arith in
      let by : ℕ → ℕ → MeterRow = λ n t. record { runs = n; turns = t } in
      ap (λ n. by n (min (min (row.turns + more) (2 ^ 64 - 1) + turns) (2 ^ 64 - 1))) a ∙ ap (by (min (row.runs + (1 + runs)) (2 ^ 64 - 1))) b

  one_more : (row : MeterRow) (more runs turns : ℕ) (after : MeterRow) → IsSummed (row_after more row) runs turns after → IsSummed row (1 + runs) (more + turns) after
  one_more row more runs turns after known = elim known [
    | inl none ↦ inr (
      omega arith,
      none.2 ∙ ap (λ n. record { runs = min (row.runs + (1 + n)) (2 ^ 64 - 1); turns = min (row.turns + more) (2 ^ 64 - 1) }) (sym none.0)
          ∙ ap (λ t. record { runs = min (row.runs + (1 + runs)) (2 ^ 64 - 1); turns = min (row.turns + t) (2 ^ 64 - 1) }) (let z = none.1 in let e : more ≡ more + turns = omega (arith, z) in e),
    )
    | inr some ↦ inr (omega arith, some.1 ∙ added_more row more runs turns)
  ]

  by_step : (row : MeterRow) (step : Step) (runs turns : ℕ) (after : MeterRow) (b : Bool) → IsSummed (cond b (row_after (step_turns step) row) row) runs turns after
      → IsSummed row (cond b 1 0 + runs) (cond b (step_turns step) 0 + turns) after
  by_step row step runs turns after true known = one_more row (step_turns step) runs turns after known
  by_step row step runs turns after false known =
      let no_run : runs ≡ 0 + runs = omega arith in
      let no_turn : turns ≡ 0 + turns = omega arith in
      subst (λ n. IsSummed row n (0 + turns) after) no_run (subst (λ t. IsSummed row runs t after) no_turn known)

  -- a row after steps is known by how many runs and turns they add
  summed : (row : MeterRow) (list : List Step) → IsSummed row (sum_by runs_in list) (sum_by turns_in list) (row_with first_rows number row list)
  summed row [] = inl (refl, refl, refl)
  summed row (step ∷ list) =
      let next : MeterRow = cond (adds_to first_rows number step) (row_after (step_turns step) row) row in
      subst (λ t. IsSummed row (sum_by runs_in (step ∷ list)) t (row_with first_rows number next list)) (sym (sum_by-cons turns_in step list))
      (subst (λ n. IsSummed row n (turns_in step + sum_by turns_in list) (row_with first_rows number next list)) (sym (sum_by-cons runs_in step list))
      (by_step row step (sum_by runs_in list) (sum_by turns_in list) (row_with first_rows number next list) (adds_to first_rows number step) (summed next list)))

  one_sum : (row : MeterRow) (runs turns : ℕ) (after other : MeterRow) → IsSummed row runs turns after → IsSummed row runs turns other → after ≡ other
  one_sum row runs turns after other one more = elim one [
    | inl none ↦ elim more [ inl also ↦ none.2 ∙ sym also.2 | inr some ↦ let z = none.0 in let s = some.0 in absurd (omega (arith, z, s)) ]
    | inr some ↦ elim more [ inl none ↦ let z = none.0 in let s = some.0 in absurd (omega (arith, z, s)) | inr also ↦ some.1 ∙ sym also.1 ]
  ]

  -- a row does not depend on the picks
  pub row_stays : (row : MeterRow) (rounds : List Passed) (picks others : List ℕ) → row_with first_rows number row (steps rounds picks) ≡ row_with first_rows number row (steps rounds others)
  row_stays row rounds picks others =
      one_sum row (sum_by runs_in (steps rounds others)) (sum_by turns_in (steps rounds others)) (row_with first_rows number row (steps rounds picks)) (row_with first_rows number row (steps rounds others))
      (subst (λ t. IsSummed row (sum_by runs_in (steps rounds others)) t (row_with first_rows number row (steps rounds picks))) (steps_sum turns_in rounds picks others)
      (subst (λ n. IsSummed row n (sum_by turns_in (steps rounds picks)) (row_with first_rows number row (steps rounds picks))) (steps_sum runs_in rounds picks others) (summed row (steps rounds picks))))
      (summed row (steps rounds others))

-- lists of one length with the same elements at the places of a third are the same
same_rows : (before after end : List MeterRow) → length after ≡ length before → length end ≡ length before
    → ((number : ℕ) (row : MeterRow) → slice_get before number ≡ Some row → slice_get after number ≡ slice_get end number) → after ≡ end
same_rows [] [] [] long same each = refl
same_rows [] [] (row ∷ end) long same each = absurd (omega (arith, same))
same_rows [] (row ∷ after) end long same each = absurd (omega (arith, long))
same_rows (row ∷ before) [] end long same each = absurd (omega (arith, long))
same_rows (row ∷ before) (one ∷ after) [] long same each = absurd (omega (arith, same))
same_rows (row ∷ before) (one ∷ after) (other ∷ end) long same each =
    ap (λ (r : MeterRow). r ∷ after) (some_same (each 0 row refl))
    ∙ ap (λ (l : List MeterRow). other ∷ l) (same_rows before after end (omega (arith, long)) (omega (arith, same)) (λ number row at. each (suc number) row at))

-- nor do the rows of a meter
pub meter_stays : (first_rows : List ℕ) (rounds : List Passed) (picks others : List ℕ) (before after end : List MeterRow) → AddsSteps first_rows (steps rounds picks) before after
    → AddsSteps first_rows (steps rounds others) before end → after ≡ end
meter_stays first_rows rounds picks others before after end one other =
    same_rows before after end one.as_many other.as_many
    (λ number row at. one.added number row at ∙ ap (λ (r : MeterRow). Some r) (row_stays first_rows number row rounds picks others) ∙ sym (other.added number row at))
