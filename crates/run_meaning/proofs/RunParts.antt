-- A run and its parts: its beginning, and what is left of it then.
use Rattle.std.proofs.Common.{◌≡◌, ℕ, List, ◌++◌, refl, ap, ◌∙◌}
use Rattle.can_bus.specs.Meaning.{BusMeaning}
use Rattle.node_rounds.specs.Reaction.{Reacts}
use Rattle.run_meaning.specs.Rest.{RunsOn, rounds_left}
use Rattle.run_meaning.specs.Run.{HasBegun, IsRun, Passed, RunState}

module _ {S B : Type 0} {r : Reacts S} {bus : BusMeaning B} {until : ℕ} {before : RunState S B} {rounds : List Passed} {after : RunState S B} where
  -- a run goes on once it has begun
  pub runs_on : (run : IsRun r bus until before rounds after) → RunsOn r bus until run.begun (rounds_left run) after
  runs_on run = record { instants = run.instants; last = run.last; stop = run.stop; goes = run.goes; ending = run.ending; are = refl }

  -- what begins and goes on is a run
  pub run_of_parts : (first more : List Passed) (begun : RunState S B) → HasBegun r bus before first begun → RunsOn r bus until begun more after → rounds ≡ first ++ more → IsRun r bus until before rounds after
  run_of_parts first more begun begins on are = record {
    first = first;
    begun = begun;
    instants = on.instants;
    last = on.last;
    stop = on.stop;
    begins = begins;
    goes = on.goes;
    ending = on.ending;
    are = are ∙ ap (λ (passed : List Passed). first ++ passed) on.are;
  }
