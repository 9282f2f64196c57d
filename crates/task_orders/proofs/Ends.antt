-- Each interleaving of a run ends with its values.
use Rattle.std.proofs.Common.{ℕ, List, ap, ◌∙◌}
use Rattle.can_bus.specs.Laws.{RequestsCommute}
use Rattle.can_bus.specs.Meaning.{BusMeaning}
use Rattle.scenario.specs.declared.scenario.KeyItem.{KeyItem}
use Rattle.replay_node.specs.declared.replay.Request.{Request}
use Rattle.node_rounds.specs.Reaction.{Reacts}
use Rattle.run_meaning.specs.Run.{IsRun, Passed, RunState, new_run}
use Rattle.run_meaning.proofs.Once.{IsOnce}
use Rattle.run_meaning.proofs.OneRun.{run_once}
use Rattle.task_orders.specs.Moves.{IsInterleaving, Move}
use Rattle.task_orders.specs.Values.{EndsWith, frames_in, frames_of, steps_in, steps_of}
use Rattle.task_orders.specs.World.{World, run_in}
use Rattle.task_orders.proofs.FoundPicks.{by_picks}
use Rattle.task_orders.proofs.SameSteps.{same_frames, same_own}

-- where a reaction does one thing by a trigger
pub ends_with : {S B : Type 0} (r : Reacts S) → IsOnce r → (bus : BusMeaning B) (until : ℕ) → RequestsCommute bus → (nodes : List S) (b : B) (keys : List KeyItem) (requests : List Request)
    (rounds : List Passed) (after : RunState S B) (moves : List Move) (end : World S B) → IsRun r bus until (new_run nodes b keys requests) rounds after
    → IsInterleaving r bus until (new_run nodes b keys requests) moves end → EndsWith rounds after end
ends_with {S} {B} r once bus until commute nodes b keys requests rounds after moves end run inter =
    let by = by_picks r bus until commute nodes b keys requests moves end inter in
    let same = run_once r once bus until (new_run nodes b keys requests) (run_in end) after by.rounds rounds by.is_run run in
    record {
      stands = same.1;
      frames = ap frames_in by.happens ∙ same_frames by.rounds by.picks ∙ ap frames_of same.0;
      nodes = λ number. ap (steps_in number) by.happens ∙ same_own number by.rounds by.picks ∙ ap (steps_of number) same.0;
    }
