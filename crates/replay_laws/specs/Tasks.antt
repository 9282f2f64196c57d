-- What is asked of the tasks of a run.
use Rattle.std.specs.Prelude.{◌≡◌, false, List, [], All}
use Rattle.log_line.specs.Written.{IsLoggable}
use Rattle.node_rounds.specs.Round.{Task}
use Rattle.run_meaning.specs.Run.{Passed}

-- something holds of each task of each node in rounds
abbrev pub AllTasks : (Task → Type 0) → List Passed → Type 0
AllTasks holds rounds = All (λ passed. All (λ tasks. All holds tasks) passed.tasks) rounds

-- a log line can carry each frame that a task asks for
abbrev pub AsksLoggable : Task → Type 0
AsksLoggable task = All IsLoggable task.requests

-- a task asks for no frame, and not to stop
abbrev pub AsksNothing : Task → Type 0
AsksNothing task = (task.requests ≡ []) × (task.stops ≡ false)
