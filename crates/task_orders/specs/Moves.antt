-- The moves of a world: a node does its next task, or the round is closed. An interleaving is a list of them.
use Rattle.std.specs.Prelude.{◌≡◌, ◌⊎◌, ℕ, ◌≤◌, false, List, [], ◌∷◌, Option, None, Some, IsSome, IsSomeAnd, slice_get}
use Rattle.std.specs.List.{AllByRecursion}
use Rattle.can_bus.specs.declared.bus.Ended.{Ended}
use Rattle.can_bus.specs.Meaning.{BusMeaning}
use Rattle.node_rounds.specs.Reaction.{Reacts}
use Rattle.node_rounds.specs.Round.{Doing, DoesNext, IsDone, Task, next_of}
use Rattle.run_meaning.specs.Moments.{keys_at}
use Rattle.run_meaning.specs.Run.{EndsAt, RunState, finished, next_instant, settled}
use Rattle.run_meaning.specs.Steps.{Step}
use Rattle.task_orders.specs.World.{Stage, World, after_task, at_round, first_world, in_first, in_pre_start, in_second, in_start, in_stop, is_last, run_in}

-- a move: the node of a number does its next task, or the round is closed
pub data Move : Type 0 where
  does_task : (node : ℕ) → Move
  closes : Move

-- A move is possible: the node has a task in the round, or no node has one and it is not the round of the
-- stop.
abbrev pub IsPossible : {S B : Type 0} → Reacts S → World S B → Move → Type 0
IsPossible {S} {B} r w (does_task node) =
    IsSomeAnd (slice_get w.nodes node) (λ d. IsSome (next_of r w.moment d))
IsPossible {S} {B} r w closes = AllByRecursion (IsDone r w.moment) w.nodes × (is_last w.stage ≡ false)

-- ---- a task

-- the node of a number does its next task, and no other node changes
pub record DoesTask {S B : Type 0} (r : Reacts S) (bus : BusMeaning B) (number : ℕ)
    (before after : World S B) : Type 0 where
  pub node : Doing S
  pub task : Task
  pub left : Doing S
  pub at : slice_get before.nodes number ≡ Some node
  pub does : DoesNext r before.moment node task left
  pub stands : after ≡ after_task bus before number task left

-- ---- the end of a round

-- a further instant follows: its first round begins, with the frame that ends and the keys of the moment
pub record BeginsInstant {S B : Type 0} (r : Reacts S) (bus : BusMeaning B) (until : ℕ) (s : RunState S B)
    (happened : List Step) (after : World S B) : Type 0 where
  pub moment : ℕ
  pub not_stopped : s.stops ≡ false
  pub is_next : next_instant r bus s ≡ Some moment
  pub in_time : moment ≤ until
  pub stands : after ≡ at_round r in_first (bus.ended s.bus moment) (keys_at moment s.keys)
      (finished bus moment s) happened

-- none follows: the round of the stop begins
pub record BeginsStop {S B : Type 0} (r : Reacts S) (bus : BusMeaning B) (until : ℕ) (s : RunState S B)
    (happened : List Step) (after : World S B) : Type 0 where
  pub moment : ℕ
  pub ends : EndsAt s.stops s.moment (next_instant r bus s) until moment
  pub stands : after ≡ at_round r in_stop None [] (record s { moment = moment }) happened

-- an instant is over, and so the run stands: the next one begins, or the round of the stop
abbrev pub BeginsNext : {S B : Type 0} → Reacts S → BusMeaning B → ℕ → RunState S B → List Step → World S B
    → Type 0
BeginsNext {S} {B} r bus until s happened after =
    BeginsInstant r bus until s happened after ⊎ BeginsStop r bus until s happened after

-- the first round of an instant is over: the second begins, where the bus gave one more frame that ended, and
-- else the instant is over
abbrev pub BeginsSecond : {S B : Type 0} → Reacts S → BusMeaning B → ℕ → Option Ended → RunState S B
    → List Step → World S B → Type 0
BeginsSecond {S} {B} r bus until None s happened after = BeginsNext r bus until (settled bus s) happened after
BeginsSecond {S} {B} r bus until (Some ended) s happened after =
    after ≡ at_round r in_second (Some ended) [] s happened

-- what comes after a round of which no task is left
abbrev pub BeginsAfter : {S B : Type 0} → Reacts S → BusMeaning B → ℕ → Stage → RunState S B → List Step
    → World S B → Type 0
BeginsAfter {S} {B} r bus until in_pre_start s happened after =
    after ≡ at_round r in_start None (keys_at s.moment s.keys) s happened
BeginsAfter {S} {B} r bus until in_start s happened after =
    BeginsNext r bus until (settled bus s) happened after
BeginsAfter {S} {B} r bus until in_first s happened after =
    BeginsSecond r bus until (bus.ended s.bus s.moment) (finished bus s.moment s) happened after
BeginsAfter {S} {B} r bus until in_second s happened after =
    BeginsNext r bus until (settled bus s) happened after
BeginsAfter {S} {B} r bus until in_stop s happened after = ⊥

-- a round is closed: no node has a task left, and the next round begins
pub record Closes {S B : Type 0} (r : Reacts S) (bus : BusMeaning B) (until : ℕ) (before after : World S B) :
    Type 0 where
  pub done : AllByRecursion (IsDone r before.moment) before.nodes
  pub begins : BeginsAfter r bus until before.stage (run_in before) before.happened after

-- ---- moves

-- a move leads from a world to another
abbrev pub Moves : {S B : Type 0} → Reacts S → BusMeaning B → ℕ → World S B → Move → World S B → Type 0
Moves {S} {B} r bus until before (does_task node) after = DoesTask r bus node before after
Moves {S} {B} r bus until before closes after = Closes r bus until before after

-- moves lead from a world to another, each from where the one before it led
abbrev pub MoveAll : {S B : Type 0} → Reacts S → BusMeaning B → ℕ → World S B → List Move → World S B → Type 0
MoveAll {S} {B} r bus until before [] after = after ≡ before
MoveAll {S} {B} r bus until before (move ∷ moves) after =
    (between : World S B) × Moves r bus until before move between × MoveAll r bus until between moves after

-- An interleaving of a run up to an end moment, from how the run stands before all rounds: each move is
-- possible in its turn, and behind the last none is.
pub record IsInterleaving {S B : Type 0} (r : Reacts S) (bus : BusMeaning B) (until : ℕ)
    (before : RunState S B) (moves : List Move) (end : World S B) : Type 0 where
  pub leads : MoveAll r bus until (first_world r before) moves end
  pub is_over : (move : Move) → IsPossible r end move → ⊥
