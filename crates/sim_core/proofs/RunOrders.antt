-- Runs of simulations, under the picks of one and of another.
use Rattle.std.proofs.Common.{◌≡◌, ℕ, ◌<◌, List, All, length, ap, sym, subst, ◌∙◌}
use Rattle.std.proofs.lemmas.List.{length-map}
use Rattle.can_bus.specs.Laws.{RequestsCommute}
use Rattle.can_bus.specs.Meaning.{BusMeaning}
use Rattle.run_records.specs.Record.{RecordMeaning}
use Rattle.stack_vm.specs.declared.meter.MeterRow.{MeterRow}
use Rattle.node_rounds.specs.Effects.{TakesEntries}
use Rattle.node_rounds.specs.Reaction.{NodeState}
use Rattle.node_run.specs.Code.{CodeMemory, code_reaction}
use Rattle.node_run.proofs.EachTask.{code_one_way}
use Rattle.run_meaning.specs.Counts.{AddsSteps}
use Rattle.run_meaning.specs.Run.{IsRun, Passed, RunState, new_run}
use Rattle.run_meaning.specs.Steps.{Step, entries, steps}
use Rattle.run_meaning.proofs.OneRun.{run_once}
use Rattle.task_orders.proofs.ByPicks.{by_run}
use Rattle.task_orders.proofs.Ends.{ends_with}
use Rattle.task_orders.proofs.FoundPicks.{by_picks}
use Rattle.task_orders.proofs.Rows.{meter_stays}
use Rattle.task_orders.proofs.SameSteps.{differ}
use Rattle.task_orders.specs.Moves.{IsInterleaving, Move}
use Rattle.task_orders.specs.Values.{EndsWith}
use Rattle.task_orders.specs.World.{World, run_in}
use Rattle.sim_core.specs.Core.{CoreState, HasRun, rows_of, run_of, states_of}
use Rattle.sim_core.specs.Orders.{AreRunAlike, HasPicks, IsInterleaved}

-- a run of a simulation is the interleaving that its picks give
pub interleaved : {B R : Type 0} (bus : BusMeaning B) → RequestsCommute bus → (meaning : RecordMeaning R) (before after : CoreState B) (into into_after : R) (meter meter_after : List MeterRow)
    → HasRun bus meaning before into meter after into_after meter_after → IsInterleaved bus meaning before into meter after into_after meter_after
interleaved {B} {R} bus commute meaning before after into into_after meter meter_after run =
    let made = by_run code_reaction bus before.until commute (run_of before) run.rounds run.end run.is_run before.picks in
    record {
      moves = made.0;
      end = made.1;
      is_interleaving = made.2;
      nodes = run.nodes ∙ ap (λ (s : RunState (NodeState CodeMemory) B). s.nodes) (sym made.4);
      takes = subst (λ (list : List Step). TakesEntries meaning into (entries list) into_after) (sym made.3) run.done.takes;
      metered = subst (λ (list : List Step). AddsSteps (rows_of before.nodes) list meter meter_after) (sym made.3) run.done.metered;
    }

-- there is one run, whichever the picks are
pub run_alike : {B R : Type 0} (bus : BusMeaning B) (meaning : RecordMeaning R) (before after end : CoreState B) (picks : List ℕ) (into into_after others others_after : R)
    (meter meter_after meter_end : List MeterRow) → HasRun bus meaning before into meter after into_after meter_after
    → HasRun bus meaning (record before { picks = picks }) others meter end others_after meter_end → AreRunAlike meaning after end into into_after others others_after meter_after meter_end
run_alike {B} {R} bus meaning before after end picks into into_after others others_after meter meter_after meter_end run other =
    let same = run_once code_reaction code_one_way bus before.until (run_of before) other.end run.end other.rounds run.rounds other.is_run run.is_run in
    let takes : TakesEntries meaning others (entries (steps run.rounds picks)) others_after =
    subst (λ (rounds : List Passed). TakesEntries meaning others (entries (steps rounds picks)) others_after) same.0 other.done.takes in
    let metered : AddsSteps (rows_of before.nodes) (steps run.rounds picks) meter meter_end =
    subst (λ (rounds : List Passed). AddsSteps (rows_of before.nodes) (steps rounds picks) meter meter_end) same.0 other.done.metered in
    record {
      nodes = other.nodes ∙ ap (λ (s : RunState (NodeState CodeMemory) B). s.nodes) same.1 ∙ sym run.nodes;
      meter = meter_stays (rows_of before.nodes) run.rounds picks before.picks meter meter_end meter_after metered run.done.metered;
      steps = steps run.rounds before.picks;
      other_steps = steps run.rounds picks;
      takes = run.done.takes;
      takes_other = takes;
      differ = differ run.rounds before.picks picks;
    }

module _ {B R : Type 0} (bus : BusMeaning B) (commute : RequestsCommute bus) (meaning : RecordMeaning R) (before after : CoreState B) (into into_after : R) (meter meter_after : List MeterRow)
    (moves : List Move) (end : World (NodeState CodeMemory) B) (run : HasRun bus meaning before into meter after into_after meter_after)
    (inter : IsInterleaving code_reaction bus before.until (run_of before) moves end) where
  abbrev nodes : List (NodeState CodeMemory)
  nodes = states_of before.nodes

  -- it begins as a new run does
  abbrev fresh : RunState (NodeState CodeMemory) B
  fresh = new_run nodes before.bus before.keys before.requests

  is_fresh : run_of before ≡ fresh
  is_fresh = run.is_run.begins.is_new

  from_fresh : IsRun code_reaction bus before.until fresh run.rounds run.end
  from_fresh = subst (λ s. IsRun code_reaction bus before.until s run.rounds run.end) is_fresh run.is_run

  moves_from_fresh : IsInterleaving code_reaction bus before.until fresh moves end
  moves_from_fresh = subst (λ s. IsInterleaving code_reaction bus before.until s moves end) is_fresh inter

  -- an interleaving of a simulation that was run ends with what it came to
  pub ends_alike : EndsWith run.rounds run.end end
  ends_alike = ends_with code_reaction code_one_way bus before.until commute nodes before.bus before.keys before.requests run.rounds run.end moves end from_fresh moves_from_fresh

  -- and is that of some picks
  pub has_picks : HasPicks before.nodes run.rounds end
  has_picks =
      let by = by_picks code_reaction bus before.until commute nodes before.bus before.keys before.requests moves end moves_from_fresh in
      let same = run_once code_reaction code_one_way bus before.until fresh (run_in end) run.end by.rounds run.rounds by.is_run from_fresh in
      record {
        picks = by.picks;
        happened = by.happens ∙ ap (λ (rounds : List Passed). steps rounds by.picks) same.0;
        few = subst (λ count. All (λ pick. pick < count) by.picks) (length-map before.nodes (λ node. node.doing.node)) by.few;
      }
