-- What does not depend on the order in which nodes do their tasks: the frames that ended, each with its
-- moment, the tasks of each node in order, with the lines of each, and how the nodes stand at the end.
use Rattle.std.specs.Prelude.{◌≡◌, ◌==◌, ℕ, Bool, true, false, List, [], ◌∷◌, ◌++◌, map}
use Rattle.std.specs.List.{filter, flat_map}
use Rattle.can_bus.specs.Meaning.{BusMeaning}
use Rattle.node_rounds.specs.Reaction.{Reacts}
use Rattle.run_meaning.specs.Steps.{tasks_of, Step, ended_steps, frame_ended, task_done}
use Rattle.run_meaning.specs.Run.{Passed, RunState}
use Rattle.task_orders.specs.Moves.{DoesTask}
use Rattle.task_orders.specs.World.{World, run_in}

-- ---- among steps

-- whether a frame ended in a step
abbrev pub is_frame : Step → Bool
is_frame (frame_ended now ended) = true
is_frame (task_done now node task) = false

-- whether the node of a number did a task in a step
abbrev pub is_of : ℕ → Step → Bool
is_of number (frame_ended now ended) = false
is_of number (task_done now node task) = node == number

-- the steps in which a frame ended, in order
abbrev pub frames_in : List Step → List Step
frames_in steps = filter is_frame steps

-- the steps of the node of a number, in order
abbrev pub steps_in : ℕ → List Step → List Step
steps_in number steps = filter (is_of number) steps

-- two lists of steps have the same frames in order, and the same steps of each node in order: they differ in
-- the order of steps of different nodes alone
pub record DifferInOrder (steps others : List Step) : Type 0 where
  pub frames : frames_in others ≡ frames_in steps
  pub nodes : (number : ℕ) → steps_in number others ≡ steps_in number steps

-- ---- among rounds

-- the frames that ended in rounds, in order
abbrev pub frames_of : List Passed → List Step
frames_of rounds = flat_map (λ passed. ended_steps passed.moment passed.ended) rounds

-- what the node of a number did in a round, in order
abbrev pub own_steps : ℕ → Passed → List Step
own_steps number passed = map (λ task. task_done passed.moment number task) (tasks_of passed.tasks number)

-- what it did in rounds
abbrev pub steps_of : ℕ → List Passed → List Step
steps_of number rounds = flat_map (λ passed. own_steps number passed) rounds

-- ---- the end of an interleaving

-- A world ends with the values of a run: so its nodes stand, and its bus, its frames are those of the rounds,
-- and each node has done what it did in them, in order.
pub record EndsWith {S B : Type 0} (rounds : List Passed) (after : RunState S B) (end : World S B) :
    Type 0 where
  pub stands : run_in end ≡ after
  pub frames : frames_in end.happened ≡ frames_of rounds
  pub nodes : (number : ℕ) → steps_in number end.happened ≡ steps_of number rounds

-- ---- neighbours

-- From a world two nodes may do their next tasks in the other order: nothing is different then but the order
-- of these two steps.
pub record MayChangePlaces {S B : Type 0} (r : Reacts S) (bus : BusMeaning B) (first second : ℕ)
    (before after : World S B) : Type 0 where
  pub between : World S B
  pub end : World S B
  pub one : Step
  pub other : Step
  pub does_second : DoesTask r bus second before between
  pub does_first : DoesTask r bus first between end
  pub happened : after.happened ≡ before.happened ++ one ∷ other ∷ []
  pub stands : end ≡ record after { happened = before.happened ++ other ∷ one ∷ [] }
