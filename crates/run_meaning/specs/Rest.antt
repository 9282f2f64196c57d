-- What is left of a run once it has begun, or after an instant.
use Rattle.std.specs.Prelude.{◌≡◌, ℕ, List, ◌++◌}
use Rattle.std.specs.List.{flat_map}
use Rattle.can_bus.specs.Meaning.{BusMeaning}
use Rattle.node_rounds.specs.Reaction.{Reacts}
use Rattle.run_meaning.specs.Run.{AreInstants, IsEnded, IsRun, Passed, RunState}

-- what is left of a run: further instants, and the end
pub record RunsOn {S B : Type 0} (r : Reacts S) (bus : BusMeaning B) (until : ℕ) (before : RunState S B)
    (rounds : List Passed) (after : RunState S B) : Type 0 where
  pub instants : List (List Passed)
  pub last : RunState S B
  pub stop : List Passed
  pub goes : AreInstants r bus until before instants last
  pub ending : IsEnded r bus until last stop after
  pub are : rounds ≡ flat_map (λ instant. instant) instants ++ stop

-- the rounds of a run behind its beginning
abbrev pub rounds_left : {S B : Type 0} → {r : Reacts S} → {bus : BusMeaning B} → {until : ℕ} →
    {before : RunState S B} → {rounds : List Passed} → {after : RunState S B} →
    IsRun r bus until before rounds after → List Passed
rounds_left {S} {B} {r} {bus} {until} {before} {rounds} {after} run =
    flat_map (λ instant. instant) run.instants ++ run.stop
