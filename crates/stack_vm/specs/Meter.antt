-- What a run adds to a meter.
use Rattle.std.specs.Prelude.{◌≡◌, ◌≢◌, ℕ, ◌+◌, ◌-◌, ◌^◌, List, length, min, slice_get, Some}
use Rattle.stack_vm.specs.declared.meter.MeterRow.{MeterRow}

-- a sum as it stands in a row: at most 2^64 - 1
abbrev pub sum_in_row : ℕ → ℕ → ℕ
sum_in_row a b = min (a + b) (2 ^ 64 - 1)

-- a row after one more run, which took these turns
abbrev pub row_after : ℕ → MeterRow → MeterRow
row_after turns row = record { runs = sum_in_row row.runs 1; turns = sum_in_row row.turns turns }

-- a run that took these turns was added to a row, and to no other
pub record AddsRun (number turns : ℕ) (before after : List MeterRow) : Type 0 where
  pub as_many : length after ≡ length before
  pub added : (row : MeterRow) → slice_get before number ≡ Some row →
      slice_get after number ≡ Some (row_after turns row)
  pub others_stay : (other : ℕ) → other ≢ number → slice_get after other ≡ slice_get before other
