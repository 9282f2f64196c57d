-- A round of a simulation: what the tasks of its nodes make of it, and how it stands after it.
use Rattle.std.proofs.Common.{◌≡◌, ℕ, Bool, List, Option, All, IfSome, arith, refl, ap, sym, subst, ◌∙◌}
use Rattle.std.specs.Prelude.{◌||◌}
use Rattle.can_bus.specs.declared.bus.Ended.{Ended}
use Rattle.can_bus.specs.Laws.{FramesCome}
use Rattle.can_bus.specs.Meaning.{BusMeaning}
use Rattle.run_records.specs.Record.{RecordMeaning}
use Rattle.stack_vm.specs.declared.meter.MeterRow.{MeterRow}
use Rattle.node_rounds.specs.declared.occurrence.Occurrence.TheVariants.{Key}
use Rattle.node_rounds.specs.declared.round.Round.{Round}
use Rattle.node_rounds.specs.Round.{Task}
use Rattle.node_run.specs.Code.{by_code}
use Rattle.node_run.specs.Node.{NodeInRound}
use Rattle.node_run.specs.Sound.{CanOccur, IsSound}
use Rattle.run_meaning.specs.Run.{after_all_tasks, after_round, ask_stop}
use Rattle.run_meaning.specs.Done.{AreCut, AreDone}
use Rattle.run_meaning.specs.Live.{CanBeSeen}
use Rattle.run_meaning.specs.Steps.{task_steps}
use Rattle.run_meaning.proofs.DoneLemmas.{cut_at_none}
use Rattle.run_meaning.proofs.EachRun.{round_ready, round_there}
use Rattle.sim_core.specs.Core.{CoreState, KeepsNodes, rows_of, run_of, states_of}
use Rattle.sim_core.specs.Inside.Kept.{IsAtRest, IsIdle}
use Rattle.sim_core.specs.Inside.Rounds.{DoesRound, IsRoundCut}
use Rattle.sim_core.specs.Inside.Tasks.{AreLeft, AreTasksCut, DoTasks, begun_nodes, doings_of}
use Rattle.sim_core.proofs.BegunNodes.{begun_keeps, begun_parts}
use Rattle.sim_core.proofs.CodeLives.{code_lives}
use Rattle.sim_core.proofs.NodeLists.{keeps_long}

module _ {B R : Type 0} (bus : BusMeaning B) (meaning : RecordMeaning R) (round : Round) (ended : Option Ended) (keys : List ℕ) (before : CoreState B) where
  -- the nodes of a simulation at the beginning of the round
  abbrev begun : List NodeInRound
  begun = begun_nodes round before.moment ended keys 0 before.nodes

  -- the run after all tasks of the round
  stands_after : (tasks : List (List Task)) (stops : Bool) (nodes : List NodeInRound) (bus_after : B) (picks : List ℕ) → bus_after ≡ after_all_tasks bus.after_request before.bus 0 tasks
      → stops ≡ ask_stop tasks
      → run_of (record before { nodes = nodes; bus = bus_after; picks = picks; stops = before.stops || stops }) ≡ after_round bus (run_of before) tasks (states_of nodes)
  stands_after tasks stops nodes bus_after picks bus_is stops_are =
      ap (λ (b : B). record (run_of before) { nodes = states_of nodes; bus = b; stops = before.stops || stops }) bus_is
      ∙ ap (λ (s : Bool). record (run_of before) { nodes = states_of nodes; bus = after_all_tasks bus.after_request before.bus 0 tasks; stops = before.stops || s }) stops_are

  -- all tasks that the nodes had at its beginning are the round
  pub does_round : {nodes nodes_after shown : List NodeInRound} {into into_after : R} {meter meter_after : List MeterRow} {stops : Bool} {bus_after : B} {picks : List ℕ} → nodes ≡ begun → shown ≡ nodes_after
      → DoTasks bus.after_request meaning before.moment nodes before.bus before.picks into meter stops nodes_after bus_after picks into_after meter_after
      → DoesRound bus meaning round ended keys before into meter (record before { nodes = shown; bus = bus_after; picks = picks; stops = before.stops || stops }) into_after meter_after
  does_round {nodes} {nodes_after} {shown} {into} {into_after} {meter} {meter_after} {stops} {bus_after} {picks} are same did =
      let rows : rows_of nodes ≡ rows_of before.nodes = ap rows_of are ∙ (begun_keeps round before.moment ended keys 0 before.nodes).rows in
      record {
        tasks = did.tasks;
        is_round = record {
          nodes = states_of shown;
          parts = begun_parts round before.moment ended keys 0 before.nodes did.tasks (states_of shown)
              (subst (λ (ns : List NodeInRound). AreLeft before.moment (doings_of begun) did.tasks (states_of ns)) (sym same)
              (subst (λ (ns : List NodeInRound). AreLeft before.moment (doings_of ns) did.tasks (states_of nodes_after)) are did.left));
          stands = stands_after did.tasks stops shown bus_after picks did.bus_is did.stops_are;
        };
        picks = did.picks_are;
        done = subst (λ (first : List ℕ). AreDone meaning first (task_steps before.moment did.tasks before.picks) into into_after meter meter_after) rows did.done;
      }

  -- such tasks that a fault cut are a round that it cut
  pub cut_round : {nodes : List NodeInRound} {into into_after : R} {meter meter_after : List MeterRow} → nodes ≡ begun
      → AreTasksCut meaning before.moment nodes before.picks into into_after meter meter_after → IsRoundCut bus meaning round ended keys before into into_after meter meter_after
  cut_round {nodes} {into} {into_after} {meter} {meter_after} are cut =
      let rows : rows_of nodes ≡ rows_of before.nodes = ap rows_of are ∙ (begun_keeps round before.moment ended keys 0 before.nodes).rows in
      record {
        tasks = cut.tasks;
        after = after_round bus (run_of before) cut.tasks cut.afters;
        is_round = record {
          nodes = cut.afters;
          parts = begun_parts round before.moment ended keys 0 before.nodes cut.tasks cut.afters
              (subst (λ (ns : List NodeInRound). AreLeft before.moment (doings_of ns) cut.tasks cut.afters) are cut.left);
          stands = refl;
        };
        cut = subst (λ (first : List ℕ). AreCut meaning first (task_steps before.moment cut.tasks before.picks) into into_after meter meter_after) rows cut.cut;
      }

  module _ (come : FramesCome bus) (seen : IfSome ended (λ e. CanBeSeen CanOccur e.frame)) (can : All (λ key. CanOccur (Key key)) keys) (rest : IsAtRest bus before.moment before) where
    -- a round of which nothing was done
    pub no_round : {into : R} {meter : List MeterRow} → IsRoundCut bus meaning round ended keys before into into meter meter
    no_round =
        let there = round_there by_code IsSound CanOccur code_lives bus come round ended keys (run_of before) seen can rest.ready in
        record { tasks = there.0; after = there.1; is_round = there.2; cut = cut_at_none (task_steps before.moment there.0 before.picks) }

    -- a simulation is at rest after a round
    pub rests_after : {into into_after : R} {meter meter_after : List MeterRow} (after : CoreState B) → DoesRound bus meaning round ended keys before into meter after into_after meter_after
        → All IsIdle after.nodes → KeepsNodes before.nodes after.nodes → bus.nodes after.bus ≡ bus.nodes before.bus → IsAtRest bus after.moment after
    rests_after after does idle keeps stay =
        let leaves = (round_ready by_code IsSound CanOccur code_lives bus come round ended keys (run_of before) does.tasks (run_of after) seen can rest.ready does.is_round).0 in
        let long = keeps_long before.nodes after.nodes keeps in
        let serves = rest.serves in
        record {
          idle = idle;
          ready = leaves.ready;
          serves = omega (arith, long, stay, serves);
          frames = leaves.frames rest.frames;
        }

-- at rest, as one sees it
pub rests_as : {B : Type 0} {bus : BusMeaning B} {shown before : CoreState B} → shown ≡ before → IsAtRest bus before.moment before → IsAtRest bus shown.moment shown
rests_as {bus} is rest = subst (λ s. IsAtRest bus s.moment s) (sym is) rest

-- a round, as one sees it
pub does_as : {B R : Type 0} {bus : BusMeaning B} {meaning : RecordMeaning R} {round : Round} {ended : Option Ended} {keys : List ℕ} {shown before after : CoreState B} {into into_after : R} {meter meter_after : List MeterRow}
    → shown ≡ before → DoesRound bus meaning round ended keys shown into meter after into_after meter_after → DoesRound bus meaning round ended keys before into meter after into_after meter_after
does_as {bus} {meaning} {round} {ended} {keys} {after} {into} {into_after} {meter} {meter_after} is does =
    subst (λ s. DoesRound bus meaning round ended keys s into meter after into_after meter_after) is does

-- and of a round that was cut
pub cut_as : {B R : Type 0} {bus : BusMeaning B} {meaning : RecordMeaning R} {round : Round} {ended : Option Ended} {keys : List ℕ} {shown before : CoreState B} {into into_after : R} {meter meter_after : List MeterRow}
    → shown ≡ before → IsRoundCut bus meaning round ended keys shown into into_after meter meter_after → IsRoundCut bus meaning round ended keys before into into_after meter meter_after
cut_as {bus} {meaning} {round} {ended} {keys} {into} {into_after} {meter} {meter_after} is cut =
    subst (λ s. IsRoundCut bus meaning round ended keys s into into_after meter meter_after) is cut
