-- Instants: what their rounds, and what comes after them, make of a simulation and leave in a record and a meter.
use Rattle.std.proofs.Common.{◌≡◌, ◌≢◌, ℕ, ◌<◌, ◌≤◌, ◌^◌, inl, inr, false, List, [], ◌∷◌, length, None, Some, All, refl, ap, sym, subst, ◌∙◌, arith}
use Rattle.std.specs.List.{AllByRecursion}
use Rattle.std.proofs.lemmas.List.{append-nil}
use Rattle.std.proofs.lemmas.List.Elements.{All-nil}
use Rattle.can_bus.specs.Laws.{DueLater, DueLaterFromNothing, FramesCome, SoundStays}
use Rattle.can_bus.specs.Meaning.{BusMeaning}
use Rattle.run_records.specs.Record.{RecordMeaning}
use Rattle.stack_vm.specs.declared.meter.MeterRow.{MeterRow}
use Rattle.node_rounds.specs.declared.occurrence.Occurrence.TheVariants as happens
use Rattle.node_rounds.specs.declared.round.Round.TheVariants as round
use Rattle.node_rounds.specs.Reaction.{NodeState}
use Rattle.node_rounds.specs.Round.{Task}
use Rattle.node_run.specs.Code.{CodeMemory, by_code, code_reaction}
use Rattle.node_run.specs.Node.{NodeInRound}
use Rattle.node_run.specs.Sound.{CanOccur, IsSound}
use Rattle.run_meaning.specs.Done.{AreCut, AreDone}
use Rattle.run_meaning.specs.Live.{IsReady, Stands}
use Rattle.run_meaning.specs.Moments.{keys_at}
use Rattle.run_meaning.specs.Steps.{picks_after, Step, steps, task_steps}
use Rattle.run_meaning.specs.Run.{AreRounds, HasBegun, IsInstant, IsRound, Passed, RunState, new_run, next_instant, quiet_round, settled}
use Rattle.run_meaning.proofs.DoneLemmas.{cut_at_none, cut_before, cut_more, done_more}
use Rattle.run_meaning.proofs.EachRun.{begun_stands, begun_there, instant_stands, ready_at, round_ready, round_there}
use Rattle.run_meaning.proofs.Occurring.{keys_at_can}
use Rattle.sim_core.specs.Core.{CoreState, DoesInstant, IsInstantCut, KeepsCore, KeepsNodes, rows_of, run_of, states_of}
use Rattle.sim_core.specs.declared.simulation.Phase.{Phase}
use Rattle.sim_core.specs.declared.simulation.Phase.TheVariants.{Going, New, Over}
use Rattle.sim_core.specs.Inside.Kept.{IsAtRest, IsCore, IsFresh, IsIdle}
use Rattle.sim_core.specs.Inside.Rounds.{AreRoundsCut, DoesRound, DoesRounds, IsRoundCut, StaysInRound}
use Rattle.sim_core.proofs.CodeLives.{code_lives}

-- ---- steps

-- equal steps, of nodes with equal rows, were done
pub done_as : {R : Type 0} {meaning : RecordMeaning R} {rows others : List ℕ} {xs ys : List Step} {into into_after : R} {meter meter_after : List MeterRow} → rows ≡ others → xs ≡ ys
    → AreDone meaning rows xs into into_after meter meter_after → AreDone meaning others ys into into_after meter meter_after
done_as {meaning} {others} {xs} {into} {into_after} {meter} {meter_after} same are done =
    subst (λ (zs : List Step). AreDone meaning others zs into into_after meter meter_after) are
    (subst (λ (rs : List ℕ). AreDone meaning rs xs into into_after meter meter_after) same done)

-- equal steps, of nodes with equal rows, were cut
pub cut_as : {R : Type 0} {meaning : RecordMeaning R} {rows others : List ℕ} {xs ys : List Step} {into into_after : R} {meter meter_after : List MeterRow} → rows ≡ others → xs ≡ ys
    → AreCut meaning rows xs into into_after meter meter_after → AreCut meaning others ys into into_after meter meter_after
cut_as {meaning} {others} {xs} {into} {into_after} {meter} {meter_after} same are cut =
    subst (λ (zs : List Step). AreCut meaning others zs into into_after meter meter_after) are
    (subst (λ (rs : List ℕ). AreCut meaning rs xs into into_after meter meter_after) same cut)

-- a fault behind all steps
pub cut_at_end : {R : Type 0} {meaning : RecordMeaning R} {rows : List ℕ} {xs : List Step} {into into_after : R} {meter meter_after : List MeterRow}
    → AreDone meaning rows xs into into_after meter meter_after → AreCut meaning rows xs into into_after meter meter_after
cut_at_end {meaning} {rows} {xs} {into} {into_after} {meter} {meter_after} done =
    subst (λ (zs : List Step). AreCut meaning rows zs into into_after meter meter_after) (append-nil xs) (cut_more done (cut_at_none []))

-- the steps of a round with no frame that ended are those of its tasks
pub quiet_steps : (now : ℕ) (tasks : List (List Task)) (picks : List ℕ) → task_steps now tasks picks ≡ steps (quiet_round now tasks ∷ []) picks
quiet_steps now tasks picks = sym (append-nil (task_steps now tasks picks))

-- ---- phases

-- a simulation to which a fault may come at any time
abbrev pub over : {B : Type 0} → CoreState B → CoreState B
over {B} core = record core { phase = Over }

-- a simulation that goes on to further instants
abbrev pub going : {B : Type 0} → CoreState B → CoreState B
going {B} core = record core { phase = Going }

-- a simulation that goes on is not over
pub going_not_over : (phase : Phase) → phase ≡ Going → phase ≢ Over
going_not_over phase is_going is_over = absurd (let f : Going ≡ Over = sym is_going ∙ is_over in cc)

-- nor is a new one
pub new_not_over : (phase : Phase) → phase ≡ New → phase ≢ Over
new_not_over phase is_new is_over = absurd (let f : New ≡ Over = sym is_new ∙ is_over in cc)

-- what a simulation keeps that stands between two instants
pub stands_core : {B : Type 0} (bus : BusMeaning B) (core : CoreState B) → All IsIdle core.nodes → length core.nodes < bus.nodes core.bus → length core.nodes < 2 ^ 32 → core.until ≤ 2 ^ 63
    → core.moment ≤ core.until → Stands IsSound CanOccur bus (run_of core) → IsCore bus (going core)
stands_core bus core idle serves few in_time not_past stands = record {
  idle = λ _. idle;
  serves = λ _. serves;
  fresh = λ is_new. absurd (let f : Going ≡ New = is_new in cc);
  stands = λ _. stands;
  few = few;
  in_time = in_time;
  not_past = not_past;
}

-- nodes that a round kept, and that stay, are kept
pub keeps_same : {B : Type 0} (before between after : CoreState B) → KeepsCore before between → after.nodes ≡ between.nodes → after.until ≡ between.until → KeepsCore before after
keeps_same before between after keeps nodes until =
    record { nodes = subst (KeepsNodes before.nodes) (sym nodes) keeps.nodes; until = until ∙ keeps.until }

-- ---- a further instant

module _ {B : Type 0} (bus : BusMeaning B) where
  -- the rounds at the next moment, and what comes after them, are an instant
  pub instant_by : (before : CoreState B) (now : ℕ) (passed : List Passed) (end : RunState (NodeState CodeMemory) B) → before.stops ≡ false
      → next_instant code_reaction bus (run_of before) ≡ Some now → now ≤ before.until → AreRounds code_reaction bus now (run_of before) passed end
      → IsInstant code_reaction bus before.until (run_of before) passed (settled bus end)
  instant_by before now passed end alive next in_time are =
      record { moment = now; end = end; not_stopped = alive; is_next = next; in_time = in_time; are_rounds = are; stands = refl }

  module _ {R : Type 0} (meaning : RecordMeaning R) (before : CoreState B) (now : ℕ) (into : R) (meter : List MeterRow) (is_going : before.phase ≡ Going) (alive : before.stops ≡ false)
      (next : next_instant code_reaction bus (run_of before) ≡ Some now) (in_time : now ≤ before.until) where
    -- its rounds were cut
    pub instant_cut : (into_after : R) (meter_after : List MeterRow) → AreRoundsCut meaning (AreRounds code_reaction bus now (run_of before)) (over before) into into_after meter meter_after
        → IsInstantCut bus meaning before into into_after meter meter_after
    instant_cut into_after meter_after cut = record {
      rounds = cut.rounds;
      after = settled bus cut.after;
      is_next = inr (is_going, instant_by before now cut.rounds cut.after alive next in_time cut.is);
      cut = cut.cut;
    }

    module _ (between : CoreState B) (into_after : R) (meter_after : List MeterRow)
        (rounds : DoesRounds meaning (AreRounds code_reaction bus now (run_of before)) (over before) into meter between into_after meter_after) where
      -- a fault came after its rounds
      pub instant_cut_after : IsInstantCut bus meaning before into into_after meter meter_after
      instant_cut_after = record {
        rounds = rounds.rounds;
        after = settled bus (run_of between);
        is_next = inr (is_going, instant_by before now rounds.rounds (run_of between) alive next in_time rounds.is);
        cut = cut_at_end rounds.done;
      }

      -- so the run stands once all is settled
      pub instant_is : (after : CoreState B) → run_of after ≡ settled bus (run_of between) → IsInstant code_reaction bus before.until (run_of before) rounds.rounds (run_of after)
      instant_is after settles =
          subst (IsInstant code_reaction bus before.until (run_of before) rounds.rounds) (sym settles) (instant_by before now rounds.rounds (run_of between) alive next in_time rounds.is)

      -- it was done
      pub instant_done : (after : CoreState B) → run_of after ≡ settled bus (run_of between) → after.nodes ≡ between.nodes → after.picks ≡ between.picks → after.until ≡ between.until
          → KeepsCore (over before) between → DoesInstant bus meaning before into meter (going after) into_after meter_after
      instant_done after settles nodes picks until keeps =
          let kept = keeps_same (over before) between after keeps nodes until in
          record {
            rounds = rounds.rounds;
            is_next = inr (is_going, instant_is after settles);
            done = rounds.done;
            picks = picks ∙ rounds.picks;
            goes = refl;
            keeps = record { nodes = kept.nodes; until = kept.until };
          }

module _ {B : Type 0} (bus : BusMeaning B) (come : FramesCome bus) where
  -- a simulation is at rest at the next moment of its run
  pub next_rest : (core : CoreState B) (now : ℕ) → IsCore bus core → core.phase ≡ Going → next_instant code_reaction bus (run_of core) ≡ Some now → IsAtRest bus now (over core)
  next_rest core now is is_going next =
      let stands = is.stands is_going in
      record {
        idle = is.idle (going_not_over core.phase is_going);
        ready = (ready_at by_code IsSound CanOccur code_lives bus come (run_of core) now stands next).0;
        serves = is.serves (going_not_over core.phase is_going);
        frames = stands.frames;
      }

  -- what a simulation keeps after an instant
  pub instant_core : SoundStays bus → DueLater bus → DueLaterFromNothing bus → (before after : CoreState B) (passed : List Passed) → IsCore bus before → before.phase ≡ Going
      → IsInstant code_reaction bus before.until (run_of before) passed (run_of after) → All IsIdle after.nodes → length after.nodes < bus.nodes after.bus → length after.nodes < 2 ^ 32
      → after.until ≡ before.until → IsCore bus (going after)
  instant_core stays goes_on begins before after passed is is_going instant idle serves few until =
      let known = instant_stands by_code IsSound CanOccur code_lives bus come stays goes_on begins before.until (run_of before) passed (run_of after) (is.stands is_going) instant in
      let in_time = known.2 in
      let bound = is.in_time in
      stands_core bus after idle serves few (omega (arith, until, bound)) (omega (arith, until, in_time)) known.0

-- ---- the instant at moment 0

-- how the run of a simulation stands of which nothing has happened yet
pub fresh_is_new : {B : Type 0} (bus : BusMeaning B) (core : CoreState B) → IsFresh bus core → run_of core ≡ new_run (states_of core.nodes) core.bus core.keys core.requests
fresh_is_new bus core fresh =
    ap (λ now. record { nodes = states_of core.nodes; bus = core.bus; keys = core.keys; requests = core.requests; moment = now; stops = core.stops }) fresh.at_zero
    ∙ ap (λ stops. record { nodes = states_of core.nodes; bus = core.bus; keys = core.keys; requests = core.requests; moment = 0; stops = stops }) fresh.not_stopped

-- nodes that two rounds kept
pub keeps_both : (before between after : List NodeInRound) → KeepsNodes before between → KeepsNodes between after → KeepsNodes before after
keeps_both before between after first second = record { rows = second.rows ∙ first.rows; codes = second.codes ∙ first.codes }

module _ {B : Type 0} (bus : BusMeaning B) (come : FramesCome bus) (core : CoreState B) where
  -- it is at rest
  pub fresh_rest : IsCore bus core → core.phase ≡ New → IsAtRest bus core.moment (over core)
  fresh_rest is is_new =
      let fresh = is.fresh is_new in
      record {
        idle = is.idle (new_not_over core.phase is_new);
        ready = subst (λ now. AllByRecursion (IsReady IsSound now) (states_of core.nodes)) (sym fresh.at_zero) fresh.ready;
        serves = is.serves (new_not_over core.phase is_new);
        frames = fresh.frames;
      }

  module _ (fresh : IsFresh bus core) where
    -- two rounds, and what comes after them, are its beginning
    pub begun_by : (before_start : List (List Task)) (between : RunState (NodeState CodeMemory) B) (start : List (List Task)) (end : RunState (NodeState CodeMemory) B)
        → IsRound code_reaction bus round.PreStart None [] (run_of core) before_start between → IsRound code_reaction bus round.Start None (keys_at 0 core.keys) between start end
        → HasBegun code_reaction bus (run_of core) (quiet_round 0 before_start ∷ quiet_round 0 start ∷ []) (settled bus end)
    begun_by before_start between start end first second = record {
      is_new = fresh_is_new bus core fresh;
      before_start = before_start;
      between = between;
      start = start;
      end = end;
      pre_starts = first;
      starts = second;
      stands = refl;
      are = refl;
    }

    -- it has a beginning
    pub begins : (passed : List Passed) × (after : RunState (NodeState CodeMemory) B) × HasBegun code_reaction bus (run_of core) passed after
    begins =
        subst (λ s. (passed : List Passed) × (after : RunState (NodeState CodeMemory) B) × HasBegun code_reaction bus s passed after) (sym (fresh_is_new bus core fresh))
        (begun_there by_code IsSound CanOccur code_lives bus come (states_of core.nodes) core.bus core.keys core.requests fresh.keys_can fresh.ready)

    -- and so it stands after it
    pub fresh_stands : SoundStays bus → DueLater bus → DueLaterFromNothing bus → (passed : List Passed) (after : RunState (NodeState CodeMemory) B)
        → HasBegun code_reaction bus (run_of core) passed after → Stands IsSound CanOccur bus after × (after.moment ≡ 0)
    fresh_stands stays goes_on from_nothing passed after is =
        begun_stands by_code IsSound CanOccur code_lives bus come stays goes_on from_nothing (states_of core.nodes) core.bus core.keys core.requests passed after
        fresh.ready fresh.later fresh.sound_bus fresh.new_bus fresh.keys_can fresh.requests_can fresh.frames
        (subst (λ s. HasBegun code_reaction bus s passed after) (fresh_is_new bus core fresh) is)

    -- the keys of its first moment can be pressed
    pub first_keys_can : All (λ key. CanOccur (happens.Key key)) (keys_at 0 core.keys)
    first_keys_can = keys_at_can CanOccur 0 core.keys fresh.keys_can

    module _ {R : Type 0} (meaning : RecordMeaning R) (is_new : core.phase ≡ New) (into : R) (meter : List MeterRow) where
      -- no round was begun
      pub begin_cut_first : IsInstantCut bus meaning core into into meter meter
      begin_cut_first = record {
        rounds = begins.0;
        after = begins.1;
        is_next = inl (is_new, begins.2);
        cut = cut_at_none (steps begins.0 core.picks);
      }

      -- the round before the start was cut
      pub begin_cut : (into_after : R) (meter_after : List MeterRow) → IsRoundCut bus meaning round.PreStart None [] (over core) into into_after meter meter_after
          → IsInstantCut bus meaning core into into_after meter meter_after
      begin_cut into_after meter_after cut =
          let none_can = All-nil (λ key. CanOccur (happens.Key key)) in
          let ready = subst (λ now. AllByRecursion (IsReady IsSound now) (states_of core.nodes)) (sym fresh.at_zero) fresh.ready in
          let leaves = (round_ready by_code IsSound CanOccur code_lives bus come round.PreStart None [] (run_of core) cut.tasks cut.after tt none_can ready cut.is_round).0 in
          let start = round_there by_code IsSound CanOccur code_lives bus come round.Start None (keys_at 0 core.keys) cut.after tt first_keys_can leaves.ready in
          record {
            rounds = quiet_round 0 cut.tasks ∷ quiet_round 0 start.0 ∷ [];
            after = settled bus start.1;
            is_next = inl (is_new, begun_by cut.tasks cut.after start.0 start.1 cut.is_round start.2);
            cut = cut_before (cut_as refl (ap (λ now. task_steps now cut.tasks core.picks) fresh.at_zero) cut.cut)
                (steps (quiet_round 0 start.0 ∷ []) (picks_after cut.tasks core.picks));
          }

      module _ (between : CoreState B) (into_between : R) (meter_between : List MeterRow) (first : DoesRound bus meaning round.PreStart None [] (over core) into meter between into_between meter_between)
          (stays : StaysInRound (over core) between) where
        -- the steps of the second round, behind those of the first
        second_steps : (start : List (List Task)) → task_steps between.moment start between.picks ≡ steps (quiet_round 0 start ∷ []) (picks_after first.tasks core.picks)
        second_steps start =
            ap (λ now. task_steps now start between.picks) (stays.moment ∙ fresh.at_zero) ∙ ap (λ (picks : List ℕ). task_steps 0 start picks) first.picks
            ∙ quiet_steps 0 start (picks_after first.tasks core.picks)

        first_done : AreDone meaning (rows_of core.nodes) (task_steps 0 first.tasks core.picks) into into_between meter meter_between
        first_done = done_as refl (ap (λ now. task_steps now first.tasks core.picks) fresh.at_zero) first.done

        -- the round of the start was cut
        pub start_cut : (into_after : R) (meter_after : List MeterRow) → IsRoundCut bus meaning round.Start None (keys_at 0 core.keys) between into_between into_after meter_between meter_after
            → IsInstantCut bus meaning core into into_after meter meter_after
        start_cut into_after meter_after cut = record {
          rounds = quiet_round 0 first.tasks ∷ quiet_round 0 cut.tasks ∷ [];
          after = settled bus cut.after;
          is_next = inl (is_new, begun_by first.tasks (run_of between) cut.tasks cut.after first.is_round cut.is_round);
          cut = cut_more first_done (cut_as stays.nodes.rows (second_steps cut.tasks) cut.cut);
        }

        module _ (end : CoreState B) (into_after : R) (meter_after : List MeterRow)
            (second : DoesRound bus meaning round.Start None (keys_at 0 core.keys) between into_between meter_between end into_after meter_after) where
          both_done : AreDone meaning (rows_of core.nodes) (steps (quiet_round 0 first.tasks ∷ quiet_round 0 second.tasks ∷ []) core.picks) into into_after meter meter_after
          both_done = done_more first_done (done_as stays.nodes.rows (second_steps second.tasks) second.done)

          begun_at_end : HasBegun code_reaction bus (run_of core) (quiet_round 0 first.tasks ∷ quiet_round 0 second.tasks ∷ []) (settled bus (run_of end))
          begun_at_end = begun_by first.tasks (run_of between) second.tasks (run_of end) first.is_round second.is_round

          -- a fault came after both rounds
          pub begin_cut_after : IsInstantCut bus meaning core into into_after meter meter_after
          begin_cut_after = record {
            rounds = quiet_round 0 first.tasks ∷ quiet_round 0 second.tasks ∷ [];
            after = settled bus (run_of end);
            is_next = inl (is_new, begun_at_end);
            cut = cut_at_end both_done;
          }

          -- so the run stands once all is settled
          pub begun_is : (after : CoreState B) → run_of after ≡ settled bus (run_of end)
              → HasBegun code_reaction bus (run_of core) (quiet_round 0 first.tasks ∷ quiet_round 0 second.tasks ∷ []) (run_of after)
          begun_is after settles = subst (HasBegun code_reaction bus (run_of core) (quiet_round 0 first.tasks ∷ quiet_round 0 second.tasks ∷ [])) (sym settles) begun_at_end

          -- the beginning was done
          pub begin_done : StaysInRound between end → (after : CoreState B) → run_of after ≡ settled bus (run_of end) → after.nodes ≡ end.nodes → after.picks ≡ end.picks
              → after.until ≡ end.until → DoesInstant bus meaning core into meter (going after) into_after meter_after
          begin_done stays_too after settles nodes picks until = record {
            rounds = quiet_round 0 first.tasks ∷ quiet_round 0 second.tasks ∷ [];
            is_next = inl (is_new, begun_is after settles);
            done = both_done;
            picks = picks ∙ second.picks ∙ ap (picks_after second.tasks) first.picks;
            goes = refl;
            keeps = record {
              nodes = subst (KeepsNodes core.nodes) (sym nodes) (keeps_both core.nodes between.nodes end.nodes stays.nodes stays_too.nodes);
              until = until ∙ stays_too.until ∙ stays.until;
            };
          }

  -- however a simulation begins of which nothing has happened yet, its run stands so afterwards
  pub stands_begun : SoundStays bus → DueLater bus → DueLaterFromNothing bus → IsCore bus core → core.phase ≡ New → (passed : List Passed) (after : RunState (NodeState CodeMemory) B)
      → HasBegun code_reaction bus (run_of core) passed after → Stands IsSound CanOccur bus after
  stands_begun stays goes_on from_nothing is is_new passed after begun = (fresh_stands (is.fresh is_new) stays goes_on from_nothing passed after begun).0

  -- what a simulation keeps after its beginning
  pub begun_core : SoundStays bus → DueLater bus → DueLaterFromNothing bus → IsCore bus core → core.phase ≡ New → (after : CoreState B) (passed : List Passed)
      → HasBegun code_reaction bus (run_of core) passed (run_of after) → All IsIdle after.nodes → length after.nodes < bus.nodes after.bus → length after.nodes < 2 ^ 32 → after.until ≤ 2 ^ 63
      → IsCore bus (going after)
  begun_core stays goes_on from_nothing is is_new after passed begun idle serves few in_time =
      let known = fresh_stands (is.fresh is_new) stays goes_on from_nothing passed (run_of after) begun in
      let at_zero = known.1 in stands_core bus after idle serves few in_time (omega (arith, at_zero)) known.0
