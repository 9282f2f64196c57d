-- What steps leave in a record and a meter: all of them, or those up to one that a fault ended.
use Rattle.std.specs.Prelude.{◌≡◌, ◌⊎◌, ℕ, ◌-◌, ◌^◌, ◌≤◌, List, [], ◌∷◌, ◌++◌, length, Some, slice_get, take}
use Rattle.run_records.specs.declared.record.Noted.{Noted}
use Rattle.run_records.specs.Record.{RecordMeaning, RefusesEntry}
use Rattle.bytecode.specs.Laws.{BeginsWith}
use Rattle.stack_vm.specs.declared.meter.MeterRow.{MeterRow}
use Rattle.node_rounds.specs.Effects.{TakesEntries}
use Rattle.run_meaning.specs.Counts.{AddsSteps, row_with}
use Rattle.run_meaning.specs.Steps.{Step, entries}

-- all steps were done: the record took their entries in order, and the meter has their runs
pub record AreDone {R : Type 0} (meaning : RecordMeaning R) (first_rows : List ℕ) (steps : List Step)
    (into into_after : R) (meter meter_after : List MeterRow) : Type 0 where
  pub takes : TakesEntries meaning into (entries steps) into_after
  pub metered : AddsSteps first_rows steps meter meter_after

-- no row of a meter has more runs than after these steps
pub record AddsAtMost (first_rows : List ℕ) (steps : List Step) (before after : List MeterRow) : Type 0 where
  pub as_many : length after ≡ length before
  pub at_most : (number : ℕ) (row : MeterRow) → slice_get before number ≡ Some row → row.runs ≤ 2 ^ 64 - 1 →
      (grown : MeterRow) × (slice_get after number ≡ Some grown)
      × (grown.runs ≤ (row_with first_rows number row steps).runs)

-- The first of some steps were done. The next one, if there is one, was ended by a fault or not begun: of its
-- entries the record took the first so many, in order, and then was not asked, or refused the one behind
-- them. No row has more runs than after the steps that were done and the next one.
pub record AreCut {R : Type 0} (meaning : RecordMeaning R) (first_rows : List ℕ) (steps : List Step)
    (into into_after : R) (meter meter_after : List MeterRow) : Type 0 where
  pub front : List Step
  pub rest : List Step
  pub are : steps ≡ front ++ rest
  pub taken : List Noted
  pub between : R
  pub are_first : BeginsWith (entries (take 1 rest)) taken
  pub takes : TakesEntries meaning into (entries front ++ taken) between
  pub refusal : (into_after ≡ between)
      ⊎ ((noted : Noted) × RefusesEntry meaning between noted into_after
      × BeginsWith (entries (take 1 rest)) (taken ++ noted ∷ []))
  pub metered : AddsAtMost first_rows (front ++ take 1 rest) meter meter_after
