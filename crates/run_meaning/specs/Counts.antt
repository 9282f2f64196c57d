-- How often each event procedure ran in a run, and how many turns it took.
use Rattle.std.specs.Prelude.{◌≡◌, ℕ, ◌+◌, ◌-◌, ◌^◌, ◌==◌, Bool, false, if◌then◌else◌, List, [], ◌∷◌, length, min, Option, None, Some, slice_get}
use Rattle.std.specs.List.{count_by, filter, sum_by}
use Rattle.std.specs.Option.{option_map, option_map_or}
use Rattle.stack_vm.specs.declared.meter.MeterRow.{MeterRow}
use Rattle.stack_vm.specs.Meter.{row_after}
use Rattle.run_meaning.specs.Steps.{Step, frame_ended, task_done}

-- The row to which a step adds a run: that of the procedure that ran, if one did. The list has the first row
-- of each node.
abbrev pub row_of : List ℕ → Step → Option ℕ
row_of first_rows (frame_ended now ended) = None
row_of first_rows (task_done now node task) =
    option_map_or (λ procedure. option_map (λ first. first + procedure) (slice_get first_rows node))
    task.trigger.procedure None

-- whether a step adds to the row of a number
abbrev pub adds_to : List ℕ → ℕ → Step → Bool
adds_to first_rows number step = option_map_or (λ row. row == number) (row_of first_rows step) false

-- the turns that a step took
abbrev pub step_turns : Step → ℕ
step_turns (frame_ended now ended) = 0
step_turns (task_done now node task) = task.turns

-- the row of a number after steps: how many of them added to it, and the sum of the turns that these took. A
-- number above 2^64 - 1 stands as 2^64 - 1
abbrev pub row_then : List ℕ → List Step → ℕ → MeterRow
row_then first_rows steps number = record {
  runs = min (count_by (adds_to first_rows number) steps) (2 ^ 64 - 1);
  turns = min (sum_by step_turns (filter (adds_to first_rows number) steps)) (2 ^ 64 - 1);
}

-- a row after steps: each step that adds to it adds a run and its turns
abbrev pub row_with : List ℕ → ℕ → MeterRow → List Step → MeterRow
row_with first_rows number row [] = row
row_with first_rows number row (step ∷ steps) =
    row_with first_rows number
    (if adds_to first_rows number step then row_after (step_turns step) row else row) steps

-- the runs of steps were added to the rows of a meter
pub record AddsSteps (first_rows : List ℕ) (steps : List Step) (before after : List MeterRow) : Type 0 where
  pub as_many : length after ≡ length before
  pub added : (number : ℕ) (row : MeterRow) → slice_get before number ≡ Some row →
      slice_get after number ≡ Some (row_with first_rows number row steps)
