-- In which order the tasks of a round are done, and what the steps of a run leave in a record. The picks of
-- the order are this project's own.
use Rattle.std.specs.Prelude.{ℕ, zero, suc, ◌+◌, ◌%◌, List, [], ◌∷◌, ◌++◌, length, map, drop, take, slice_get, slice_set, Option, None, Some}
use Rattle.std.specs.List.{sum_by, flat_map}
use Rattle.std.specs.Option.{unwrap_or}
use Rattle.node_rounds.specs.Round.{Task}
use Rattle.can_bus.specs.declared.bus.Ended.{Ended}
use Rattle.run_records.specs.declared.record.Noted.{Noted}
use Rattle.node_rounds.specs.Effects.{line_entries}
use Rattle.run_meaning.specs.Run.{Passed}
use Rattle.run_records.specs.declared.record.Noted.TheVariants as entry

-- ---- In which order the tasks of a round are done. A run says what each node does; which node comes next is
-- said by picks, one for each task. The picks are this project's own.

-- the pick that comes next: 0 where none is left
abbrev pub next_pick : List ℕ → ℕ
next_pick picks = unwrap_or (slice_get picks 0) 0

-- the member of a list that a pick names: its place is the pick modulo their number
abbrev pub picked : List ℕ → ℕ → ℕ
picked nodes pick = unwrap_or (slice_get nodes (pick % length nodes)) 0

-- the numbers of the nodes that have a task left, from a number on
abbrev pub nodes_with_tasks : ℕ → List (List Task) → List ℕ
nodes_with_tasks number [] = []
nodes_with_tasks number ([] ∷ others) = nodes_with_tasks (number + 1) others
nodes_with_tasks number ((task ∷ tasks) ∷ others) = number ∷ nodes_with_tasks (number + 1) others

-- the tasks of the node of a number
abbrev pub tasks_of : List (List Task) → ℕ → List Task
tasks_of tasks node = unwrap_or (slice_get tasks node) []

-- how many tasks there are
abbrev pub task_count : List (List Task) → ℕ
task_count tasks = sum_by length tasks

-- the first so many tasks, each with the number of its node: of the nodes that have a task left the next pick
-- names the one whose next task comes
abbrev pub first_tasks : ℕ → List (List Task) → List ℕ → List (ℕ × Task)
first_tasks zero tasks picks = []
first_tasks (suc count) tasks picks =
    let node = picked (nodes_with_tasks 0 tasks) (next_pick picks) in
    map (λ task. (node, task)) (take 1 (tasks_of tasks node))
    ++ first_tasks count (slice_set tasks node (drop 1 (tasks_of tasks node))) (drop 1 picks)

-- all tasks of a round in order, each with the number of its node
abbrev pub tasks_in_order : List (List Task) → List ℕ → List (ℕ × Task)
tasks_in_order tasks picks = first_tasks (task_count tasks) tasks picks

-- the picks that are left after a round, each task of which used one
abbrev pub picks_after : List (List Task) → List ℕ → List ℕ
picks_after tasks picks = drop (task_count tasks) picks

-- ---- The steps of a run under picks, in the order in which they happen, and what they leave in a record.

-- one step, at a moment: a frame ended, or the node of a number did a task
pub data Step : Type 0 where
  frame_ended : (moment : ℕ) (ended : Ended) → Step
  task_done : (moment node : ℕ) (task : Task) → Step

-- the step of the frame that ended at a moment, where one did
abbrev pub ended_steps : ℕ → Option Ended → List Step
ended_steps now None = []
ended_steps now (Some ended) = frame_ended now ended ∷ []

-- the steps of the tasks of a round at a moment, in order
abbrev pub task_steps : ℕ → List (List Task) → List ℕ → List Step
task_steps now tasks picks = map (λ one. task_done now one.0 one.1) (tasks_in_order tasks picks)

-- the steps of a round: the frame that ended, and then the tasks
abbrev pub round_steps : Passed → List ℕ → List Step
round_steps passed picks =
    ended_steps passed.moment passed.ended ++ task_steps passed.moment passed.tasks picks

-- the picks that are left after rounds
abbrev pub picks_left : List Passed → List ℕ → List ℕ
picks_left [] picks = picks
picks_left (passed ∷ rounds) picks = picks_left rounds (picks_after passed.tasks picks)

-- the steps of rounds
abbrev pub steps : List Passed → List ℕ → List Step
steps [] picks = []
steps (passed ∷ rounds) picks = round_steps passed picks ++ steps rounds (picks_after passed.tasks picks)

-- what a step leaves in a record: the frame that ended, or the lines of the task
abbrev pub step_entries : Step → List Noted
step_entries (frame_ended now ended) = entry.Frame now ended.frame ∷ []
step_entries (task_done now node task) = line_entries now node task.lines

-- what steps leave in a record, in order
abbrev pub entries : List Step → List Noted
entries list = flat_map step_entries list
