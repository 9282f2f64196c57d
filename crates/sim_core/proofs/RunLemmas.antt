-- A run, instant by instant, up to the round of the stop.
use Rattle.std.proofs.Common.{◌≡◌, ℕ, ◌<◌, ◌≤◌, inl, inr, List, [], ◌∷◌, ◌++◌, length, None, refl, ap, sym, subst, ◌∙◌, append_assoc, arith}
use Rattle.can_bus.specs.Laws.{DueLater, DueLaterFromNothing, FramesCome, SoundStays}
use Rattle.can_bus.specs.Meaning.{BusMeaning}
use Rattle.run_records.specs.Record.{RecordMeaning}
use Rattle.stack_vm.specs.declared.meter.MeterRow.{MeterRow}
use Rattle.node_rounds.specs.declared.round.Round.TheVariants as round
use Rattle.node_rounds.specs.Reaction.{NodeState}
use Rattle.node_rounds.specs.Round.{Task}
use Rattle.node_run.specs.Code.{CodeMemory, by_code, code_reaction}
use Rattle.node_run.specs.Sound.{CanOccur, IsSound}
use Rattle.run_meaning.specs.Done.{AreCut, AreDone}
use Rattle.run_meaning.specs.Live.{Stands}
use Rattle.run_meaning.specs.Rest.{RunsOn}
use Rattle.run_meaning.specs.Run.{EndsAt, HasBegun, IsEnded, IsInstant, IsRound, IsRun, Passed, RunState, next_instant, quiet_round}
use Rattle.run_meaning.specs.Steps.{picks_left, steps}
use Rattle.run_meaning.proofs.DoneLemmas.{cut_before, cut_more, done_more, picks_left_append, steps_append}
use Rattle.run_meaning.proofs.EachRun.{goes_on_there, instant_first, instant_stands, ready_at_end, stop_first}
use Rattle.run_meaning.proofs.RunParts.{run_of_parts}
use Rattle.sim_core.specs.Core.{CoreState, DoesInstant, HasRun, HaveRows, IsInstantCut, IsNextInstant, IsRunCut, KeepsCore, rows_of, run_of}
use Rattle.sim_core.specs.declared.simulation.Phase.TheVariants.{Going, New, Over}
use Rattle.sim_core.specs.Inside.Kept.{IsAtRest, IsCore}
use Rattle.sim_core.specs.Inside.Rounds.{AreRoundsCut, DoesRound, HasStopped, IsRoundCut}
use Rattle.sim_core.proofs.CodeLives.{code_lives}
use Rattle.sim_core.proofs.InstantLemmas.{cut_as, done_as, going_not_over, keeps_both, quiet_steps, stands_begun}
use Rattle.sim_core.proofs.NodeLists.{rows_stay}

-- ---- the round of the stop

-- a simulation at the moment of the stop
abbrev pub at_end : {B : Type 0} → ℕ → CoreState B → CoreState B
at_end {B} end core = record core { moment = end; phase = Over }

-- it is at rest
pub end_rest : {B : Type 0} (bus : BusMeaning B) → FramesCome bus → (core : CoreState B) (end : ℕ) → IsCore bus core → core.phase ≡ Going
    → EndsAt core.stops core.moment (next_instant code_reaction bus (run_of core)) core.until end → IsAtRest bus end (at_end end core)
end_rest bus come core end is is_going ends =
    let stands = is.stands is_going in
    record {
      idle = is.idle (going_not_over core.phase is_going);
      ready = ready_at_end by_code IsSound CanOccur code_lives bus come core.until end (run_of core) stands ends;
      serves = is.serves (going_not_over core.phase is_going);
      frames = stands.frames;
    }

module _ {B : Type 0} (bus : BusMeaning B) (core : CoreState B) (end : ℕ) (ends : EndsAt core.stops core.moment (next_instant code_reaction bus (run_of core)) core.until end) where
  -- its round is the end of the run
  pub end_by : (tasks : List (List Task)) (after : RunState (NodeState CodeMemory) B) → (is : IsRound code_reaction bus round.Stop None [] (run_of (at_end end core)) tasks after)
      → IsEnded code_reaction bus core.until (run_of core) (quiet_round end tasks ∷ []) (record (run_of core) { moment = end; nodes = is.nodes })
  end_by tasks after is = record { moment = end; tasks = tasks; nodes = is.nodes; ends = ends; parts = is.parts; stands = refl; are = refl }

  module _ {R : Type 0} (meaning : RecordMeaning R) (into into_after : R) (meter meter_after : List MeterRow) where
    -- it was cut
    pub stop_cut : IsRoundCut bus meaning round.Stop None [] (at_end end core) into into_after meter meter_after
        → AreRoundsCut meaning (IsEnded code_reaction bus core.until (run_of core)) core into into_after meter meter_after
    stop_cut cut = record {
      rounds = quiet_round end cut.tasks ∷ [];
      after = record (run_of core) { moment = end; nodes = cut.is_round.nodes };
      is = end_by cut.tasks cut.after cut.is_round;
      cut = cut_as refl (quiet_steps end cut.tasks core.picks) cut.cut;
    }

    -- it was done
    pub stop_done : (after : CoreState B) → DoesRound bus meaning round.Stop None [] (at_end end core) into meter after into_after meter_after
        → HasStopped bus meaning core into meter after into_after meter_after
    stop_done after does = record {
      rounds = quiet_round end does.tasks ∷ [];
      end = record (run_of core) { moment = end; nodes = does.is_round.nodes };
      is_end = end_by does.tasks (run_of after) does.is_round;
      nodes = ap (λ (s : RunState (NodeState CodeMemory) B). s.nodes) does.is_round.stands;
      done = done_as refl (quiet_steps end does.tasks core.picks) does.done;
    }

-- ---- the next instant, by how far a simulation has come

-- the next instant of a new simulation is that of moment 0
pub is_begun : {B : Type 0} (bus : BusMeaning B) (core : CoreState B) (passed : List Passed) (after : RunState (NodeState CodeMemory) B) → core.phase ≡ New
    → IsNextInstant bus core passed after → HasBegun code_reaction bus (run_of core) passed after
is_begun bus core passed after is_new next = elim next as (λ _. HasBegun code_reaction bus (run_of core) passed after) [
  | inl first ↦ first.1
  | inr further ↦ absurd (let f : New ≡ Going = sym is_new ∙ further.0 in cc)
]

-- of one that goes on it is a further one
pub is_instant : {B : Type 0} (bus : BusMeaning B) (core : CoreState B) (passed : List Passed) (after : RunState (NodeState CodeMemory) B) → core.phase ≡ Going
    → IsNextInstant bus core passed after → IsInstant code_reaction bus core.until (run_of core) passed after
is_instant bus core passed after is_going next = elim next as (λ _. IsInstant code_reaction bus core.until (run_of core) passed after) [
  | inl first ↦ absurd (let f : New ≡ Going = sym first.0 ∙ is_going in cc)
  | inr further ↦ further.1
]

-- how the run of a simulation stands after its next instant
pub next_stands : {B : Type 0} (bus : BusMeaning B) → FramesCome bus → SoundStays bus → DueLater bus → DueLaterFromNothing bus → (core : CoreState B) → IsCore bus core → (passed : List Passed)
    (after : RunState (NodeState CodeMemory) B) → IsNextInstant bus core passed after → Stands IsSound CanOccur bus after
next_stands bus come stays goes_on from_nothing core is passed after next = elim next as (λ _. Stands IsSound CanOccur bus after) [
  | inl first ↦ stands_begun bus come core stays goes_on from_nothing is first.0 passed after first.1
  | inr further ↦
      (instant_stands by_code IsSound CanOccur code_lives bus come stays goes_on from_nothing core.until (run_of core) passed after (is.stands further.0) further.1).0
]

-- ---- what has been done of a run

-- A run has come so far: what is left of it, from here, completes it, and all steps so far were done.
pub record HasGone {B R : Type 0} (bus : BusMeaning B) (meaning : RecordMeaning R) (before : CoreState B) (into : R) (meter : List MeterRow) (now : CoreState B) (into_now : R)
    (meter_now : List MeterRow) : Type 0 where
  pub rounds : List Passed
  pub leads : (rest : List Passed) (after : RunState (NodeState CodeMemory) B) → RunsOn code_reaction bus before.until (run_of now) rest after
      → IsRun code_reaction bus before.until (run_of before) (rounds ++ rest) after
  pub done : AreDone meaning (rows_of before.nodes) (steps rounds before.picks) into into_now meter meter_now
  pub picks : now.picks ≡ picks_left rounds before.picks
  pub goes : now.phase ≡ Going
  pub keeps : KeepsCore before now
  pub rows : HaveRows meter_now now.nodes
  pub faults : meaning.faults into ≤ meaning.faults into_now

module _ {B R : Type 0} (bus : BusMeaning B) (meaning : RecordMeaning R) (before : CoreState B) (into : R) (meter : List MeterRow) where
  -- the instant at moment 0 was done
  pub gone_first : (now : CoreState B) (into_now : R) (meter_now : List MeterRow) → before.phase ≡ New → DoesInstant bus meaning before into meter now into_now meter_now → HaveRows meter before.nodes
      → length meter_now ≡ length meter → meaning.faults into ≤ meaning.faults into_now → HasGone bus meaning before into meter now into_now meter_now
  gone_first now into_now meter_now is_new does rows long faults = record {
    rounds = does.rounds;
    leads = λ rest after goes. run_of_parts does.rounds rest (run_of now) (is_begun bus before does.rounds (run_of now) is_new does.is_next) goes refl;
    done = does.done;
    picks = does.picks;
    goes = does.goes;
    keeps = does.keeps;
    rows = rows_stay before.nodes now.nodes meter meter_now does.keeps.nodes long rows;
    faults = faults;
  }

  module _ (now : CoreState B) (into_now : R) (meter_now : List MeterRow) (gone : HasGone bus meaning before into meter now into_now meter_now) where
    -- an instant up to the end moment of a simulation is one up to that at its beginning
    same_until : (passed : List Passed) (after : RunState (NodeState CodeMemory) B) → IsInstant code_reaction bus now.until (run_of now) passed after
        → IsInstant code_reaction bus before.until (run_of now) passed after
    same_until passed after is = subst (λ until. IsInstant code_reaction bus until (run_of now) passed after) gone.keeps.until is

    -- further steps were done
    more_done : (passed : List Passed) (into_after : R) (meter_after : List MeterRow) → AreDone meaning (rows_of now.nodes) (steps passed now.picks) into_now into_after meter_now meter_after
        → AreDone meaning (rows_of before.nodes) (steps (gone.rounds ++ passed) before.picks) into into_after meter meter_after
    more_done passed into_after meter_after done =
        done_as refl (sym (steps_append gone.rounds passed before.picks))
        (done_more gone.done (done_as gone.keeps.nodes.rows (ap (λ (picks : List ℕ). steps passed picks) gone.picks) done))

    -- further steps were cut
    more_cut : (passed : List Passed) (into_after : R) (meter_after : List MeterRow)
        → AreCut meaning (rows_of before.nodes) (steps passed (picks_left gone.rounds before.picks)) into_now into_after meter_now meter_after
        → AreCut meaning (rows_of before.nodes) (steps (gone.rounds ++ passed) before.picks) into into_after meter meter_after
    more_cut passed into_after meter_after cut = cut_as refl (sym (steps_append gone.rounds passed before.picks)) (cut_more gone.done cut)

    as_before : (passed : List Passed) (into_after : R) (meter_after : List MeterRow) → AreCut meaning (rows_of now.nodes) (steps passed now.picks) into_now into_after meter_now meter_after
        → AreCut meaning (rows_of before.nodes) (steps passed (picks_left gone.rounds before.picks)) into_now into_after meter_now meter_after
    as_before passed into_after meter_after cut = cut_as gone.keeps.nodes.rows (ap (λ (picks : List ℕ). steps passed picks) gone.picks) cut

    module _ (come : FramesCome bus) where
      ends_here : (passed : List Passed) (after : RunState (NodeState CodeMemory) B) → IsEnded code_reaction bus now.until (run_of now) passed after
          → IsRun code_reaction bus before.until (run_of before) (gone.rounds ++ passed) after
      ends_here passed after is =
          gone.leads passed after
          (stop_first by_code IsSound CanOccur code_lives bus come before.until (run_of now) passed after
          (subst (λ until. IsEnded code_reaction bus until (run_of now) passed after) gone.keeps.until is))

      -- the round of the stop was cut
      pub gone_stop_cut : (into_after : R) (meter_after : List MeterRow)
          → AreRoundsCut meaning (IsEnded code_reaction bus now.until (run_of now)) now into_now into_after meter_now meter_after
          → IsRunCut bus meaning before into into_after meter meter_after
      gone_stop_cut into_after meter_after cut = record {
        rounds = gone.rounds ++ cut.rounds;
        end = cut.after;
        is_run = ends_here cut.rounds cut.after cut.is;
        cut = more_cut cut.rounds into_after meter_after (as_before cut.rounds into_after meter_after cut.cut);
      }

      -- it was done
      pub gone_stopped : (after : CoreState B) (into_after : R) (meter_after : List MeterRow) → HasStopped bus meaning now into_now meter_now after into_after meter_after
          → HasRun bus meaning before into meter after into_after meter_after
      gone_stopped after into_after meter_after stop = record {
        rounds = gone.rounds ++ stop.rounds;
        end = stop.end;
        is_run = ends_here stop.rounds stop.end stop.is_end;
        nodes = stop.nodes;
        done = more_done stop.rounds into_after meter_after stop.done;
      }

      -- a further instant was done
      pub gone_more : (after : CoreState B) (into_after : R) (meter_after : List MeterRow) → DoesInstant bus meaning now into_now meter_now after into_after meter_after
          → length meter_after ≡ length meter_now → meaning.faults into_now ≤ meaning.faults into_after → HasGone bus meaning before into meter after into_after meter_after
      gone_more after into_after meter_after does long faults =
          let instant = same_until does.rounds (run_of after) (is_instant bus now does.rounds (run_of after) gone.goes does.is_next) in
          let earlier = gone.faults in
          record {
            rounds = gone.rounds ++ does.rounds;
            leads = λ rest end goes.
                subst (λ (rounds : List Passed). IsRun code_reaction bus before.until (run_of before) rounds end) (sym (append_assoc gone.rounds does.rounds rest))
                (gone.leads (does.rounds ++ rest) end
                (instant_first by_code IsSound CanOccur code_lives bus come before.until (run_of now) does.rounds (run_of after) rest end instant goes));
            done = more_done does.rounds into_after meter_after does.done;
            picks = does.picks ∙ ap (picks_left does.rounds) gone.picks ∙ sym (picks_left_append gone.rounds does.rounds before.picks);
            goes = does.goes;
            keeps = record {
              nodes = keeps_both before.nodes now.nodes after.nodes gone.keeps.nodes does.keeps.nodes;
              until = does.keeps.until ∙ gone.keeps.until;
            };
            rows = rows_stay now.nodes after.nodes meter_now meter_after does.keeps.nodes long gone.rows;
            faults = omega (arith, earlier, faults);
          }

      module _ (stays : SoundStays bus) (goes_on : DueLater bus) (from_nothing : DueLaterFromNothing bus) where
        -- a further instant was cut: the run goes on behind it
        pub gone_cut : (into_after : R) (meter_after : List MeterRow) → Stands IsSound CanOccur bus (run_of now)
            → IsInstantCut bus meaning now into_now into_after meter_now meter_after → IsRunCut bus meaning before into into_after meter meter_after
        gone_cut into_after meter_after stands cut =
            let instant = same_until cut.rounds cut.after (is_instant bus now cut.rounds cut.after gone.goes cut.is_next) in
            let known = instant_stands by_code IsSound CanOccur code_lives bus come stays goes_on from_nothing before.until (run_of now) cut.rounds cut.after stands instant in
            let rest = goes_on_there by_code IsSound CanOccur code_lives bus come stays goes_on from_nothing before.until cut.after known.0 in
            let picks : List ℕ = picks_left gone.rounds before.picks in
            record {
              rounds = gone.rounds ++ (cut.rounds ++ rest.0);
              end = rest.1;
              is_run = gone.leads (cut.rounds ++ rest.0) rest.1
                  (instant_first by_code IsSound CanOccur code_lives bus come before.until (run_of now) cut.rounds cut.after rest.0 rest.1 instant rest.2);
              cut = more_cut (cut.rounds ++ rest.0) into_after meter_after
                  (cut_as refl (sym (steps_append cut.rounds rest.0 picks))
                  (cut_before (as_before cut.rounds into_after meter_after cut.cut) (steps rest.0 (picks_left cut.rounds picks))));
            }

        -- a further instant comes later, and in time
        pub gone_less : (after : CoreState B) (into_after : R) (meter_after : List MeterRow) → Stands IsSound CanOccur bus (run_of now)
            → DoesInstant bus meaning now into_now meter_now after into_after meter_after → (now.moment < after.moment) × (after.moment ≤ before.until)
        gone_less after into_after meter_after stands does =
            let instant = same_until does.rounds (run_of after) (is_instant bus now does.rounds (run_of after) gone.goes does.is_next) in
            let known = instant_stands by_code IsSound CanOccur code_lives bus come stays goes_on from_nothing before.until (run_of now) does.rounds (run_of after) stands instant in
            (known.1, known.2)

  -- the instant at moment 0 was cut: the run goes on behind it
  pub first_cut : FramesCome bus → SoundStays bus → DueLater bus → DueLaterFromNothing bus → (into_after : R) (meter_after : List MeterRow) → before.phase ≡ New
      → ((passed : List Passed) (after : RunState (NodeState CodeMemory) B) → HasBegun code_reaction bus (run_of before) passed after → Stands IsSound CanOccur bus after)
      → IsInstantCut bus meaning before into into_after meter meter_after → IsRunCut bus meaning before into into_after meter meter_after
  first_cut come stays goes_on from_nothing into_after meter_after is_new stands cut =
      let begun = is_begun bus before cut.rounds cut.after is_new cut.is_next in
      let rest = goes_on_there by_code IsSound CanOccur code_lives bus come stays goes_on from_nothing before.until cut.after (stands cut.rounds cut.after begun) in
      record {
        rounds = cut.rounds ++ rest.0;
        end = rest.1;
        is_run = run_of_parts cut.rounds rest.0 cut.after begun rest.2 refl;
        cut = cut_as refl (sym (steps_append cut.rounds rest.0 before.picks)) (cut_before cut.cut (steps rest.0 (picks_left cut.rounds before.picks)));
      }
