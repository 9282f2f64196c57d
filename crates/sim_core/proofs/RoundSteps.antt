-- The steps of a round with the frame that ended, and of the rounds of a moment.
use Rattle.std.proofs.Common.{◌≡◌, inr, ℕ, false, true, List, [], ◌∷◌, ◌++◌, Option, None, Some, All, IfSome, arith, refl, ap, sym, subst, ◌∙◌}
use Rattle.std.specs.Prelude.{IsSome}
use Rattle.std.specs.List.{AllByRecursion}
use Rattle.can_bus.specs.declared.bus.Ended.{Ended}
use Rattle.can_bus.specs.Laws.{FramesCome, NodesStay}
use Rattle.can_bus.specs.Meaning.{BusMeaning}
use Rattle.run_records.specs.declared.record.Noted.{Noted}
use Rattle.run_records.specs.Record.{RecordMeaning, RefusesEntry}
use Rattle.stack_vm.specs.declared.meter.MeterRow.{MeterRow}
use Rattle.node_rounds.specs.declared.occurrence.Occurrence.TheVariants.{Key}
use Rattle.node_rounds.specs.declared.round.Round.TheVariants.{Moment}
use Rattle.node_rounds.specs.Effects.{TakesEntries}
use Rattle.node_rounds.specs.Reaction.{NodeState}
use Rattle.node_rounds.specs.Round.{Task}
use Rattle.node_run.specs.Code.{CodeMemory, by_code, code_reaction}
use Rattle.node_run.specs.Sound.{CanOccur, IsSound}
use Rattle.run_meaning.specs.Done.{AreCut, AreDone}
use Rattle.run_meaning.specs.Live.{CanBeSeen, IsReady}
use Rattle.run_meaning.specs.Moments.{keys_at}
use Rattle.run_meaning.specs.Run.{AreRounds, IsSecond, Passed, RunState, finished}
use Rattle.run_meaning.specs.Steps.{Step, ended_steps, entries, frame_ended, picks_left, steps, task_steps}
use Rattle.run_meaning.proofs.DoneLemmas.{cut_at_none, cut_before, cut_more, done_more, done_none, nothing_begins, picks_left_append, steps_append}
use Rattle.run_meaning.proofs.EachRun.{round_ready, round_there, rounds_there, second_there}
use Rattle.run_meaning.proofs.Meters.{adds_frame, adds_none, at_most_more}
use Rattle.run_meaning.proofs.Occurring.{CarriesSeen, ended_seen, finish_seen, keys_at_can}
use Rattle.sim_core.specs.Core.{CoreState, KeepsNodes, rows_of, run_of}
use Rattle.sim_core.specs.Inside.Kept.{IsAtRest}
use Rattle.sim_core.specs.Inside.Rounds.{AreRoundsCut, DoesRound, DoesRounds, IsOneRound, IsRoundCut}
use Rattle.sim_core.proofs.CodeLives.{code_lives}

-- ---- the frame that ended

-- it was told, where one ended
done_ended : {R : Type 0} {meaning : RecordMeaning R} {first_rows : List ℕ} {into into_after : R} (now : ℕ) (ended : Option Ended) (meter : List MeterRow)
    → TakesEntries meaning into (entries (ended_steps now ended)) into_after → AreDone meaning first_rows (ended_steps now ended) into into_after meter meter
done_ended {first_rows} now None meter takes = record { takes = takes; metered = adds_none first_rows meter }
done_ended {first_rows} now (Some e) meter takes = record { takes = takes; metered = adds_frame first_rows now e meter }

-- it was refused
cut_at_ended : {R : Type 0} {meaning : RecordMeaning R} {first_rows : List ℕ} {into into_after : R} (now : ℕ) (ended : Option Ended) (meter : List MeterRow) (noted : Noted)
    → entries (ended_steps now ended) ≡ noted ∷ [] → RefusesEntry meaning into noted into_after → AreCut meaning first_rows (ended_steps now ended) into into_after meter meter
cut_at_ended now None meter noted are refused = absurd (let f : [] ≡ noted ∷ [] = are in cc)
cut_at_ended {first_rows} {into} now (Some e) meter noted are refused = record {
  front = [];
  rest = frame_ended now e ∷ [];
  are = refl;
  taken = [];
  between = into;
  are_first = nothing_begins (entries (frame_ended now e ∷ []));
  takes = refl;
  refusal = inr (noted, refused, ([], are));
  metered = at_most_more (adds_none first_rows meter) (frame_ended now e ∷ []);
}

-- ---- one round of a moment

module _ {B R : Type 0} (bus : BusMeaning B) (meaning : RecordMeaning R) (ended : Option Ended) (keys : List ℕ) (before : CoreState B) where
  -- the round in which these tasks were done
  abbrev passed : List (List Task) → Passed
  passed tasks = record { moment = before.moment; ended = ended; tasks = tasks }

  -- the frame was told at the moment, and the round done
  pub one_done : {now : ℕ} {into between into_after : R} {meter meter_after : List MeterRow} {after : CoreState B} → now ≡ before.moment → TakesEntries meaning into (entries (ended_steps now ended)) between
      → DoesRound bus meaning Moment ended keys before between meter after into_after meter_after
      → DoesRounds meaning (IsOneRound bus ended keys (run_of before)) before into meter after into_after meter_after
  one_done {into} {between} {meter} is takes does = record {
    rounds = passed does.tasks ∷ [];
    is = record { tasks = does.tasks; is_round = does.is_round; are = refl };
    picks = does.picks;
    done = done_more (done_more (done_ended before.moment ended meter (subst (λ m. TakesEntries meaning into (entries (ended_steps m ended)) between) is takes)) does.done) done_none;
  }

  -- the frame was told, and the round cut
  pub one_cut : {now : ℕ} {into between into_after : R} {meter meter_after : List MeterRow} → now ≡ before.moment → TakesEntries meaning into (entries (ended_steps now ended)) between
      → IsRoundCut bus meaning Moment ended keys before between into_after meter meter_after
      → AreRoundsCut meaning (IsOneRound bus ended keys (run_of before)) before into into_after meter meter_after
  one_cut {into} {between} {meter} is takes cut = record {
    rounds = passed cut.tasks ∷ [];
    after = cut.after;
    is = record { tasks = cut.tasks; is_round = cut.is_round; are = refl };
    cut = cut_before (cut_more (done_ended before.moment ended meter (subst (λ m. TakesEntries meaning into (entries (ended_steps m ended)) between) is takes)) cut.cut) [];
  }

  -- the frame was refused
  pub one_refused : FramesCome bus → IfSome ended (λ e. CanBeSeen CanOccur e.frame) → All (λ key. CanOccur (Key key)) keys → IsAtRest bus before.moment before → {now : ℕ} {into into_after : R} {meter : List MeterRow}
      → now ≡ before.moment → ((noted : Noted) × (entries (ended_steps now ended) ≡ noted ∷ []) × RefusesEntry meaning into noted into_after)
      → AreRoundsCut meaning (IsOneRound bus ended keys (run_of before)) before into into_after meter meter
  one_refused come seen can rest {into} {into_after} {meter} is refused =
      let there = round_there by_code IsSound CanOccur code_lives bus come Moment ended keys (run_of before) seen can rest.ready in
      record {
        rounds = passed there.0 ∷ [];
        after = there.1;
        is = record { tasks = there.0; is_round = there.2; are = refl };
        cut = cut_before (cut_before (cut_at_ended before.moment ended meter refused.0 (subst (λ m. entries (ended_steps m ended) ≡ refused.0 ∷ []) is refused.1) refused.2) (task_steps before.moment there.0 before.picks)) [];
      }

-- ---- a simulation that has asked the bus for a frame that ends

-- it is at rest still
pub asked_rests : {B : Type 0} (bus : BusMeaning B) (come : FramesCome bus) (stay : NodesStay bus) (now : ℕ) (core : CoreState B) {b : B} → b ≡ bus.after_finish core.bus now → IsAtRest bus now core
    → IsAtRest bus now (record core { bus = b; moment = now })
asked_rests bus come stay now core {b} is rest =
    let same = ap (λ x. bus.nodes x) is ∙ stay.finish core.bus now in
    let serves = rest.serves in
    record {
      idle = rest.idle;
      ready = rest.ready;
      serves = omega (arith, same, serves);
      frames = subst (CarriesSeen CanOccur bus) (sym is) (finish_seen CanOccur bus come core.bus now rest.frames);
    }

-- the second round of a moment, at that of a simulation which has done the first
abbrev pub SecondOf : {B : Type 0} → BusMeaning B → CoreState B → List Passed → RunState (NodeState CodeMemory) B → Type 0
SecondOf {B} bus core = IsSecond code_reaction bus (bus.ended core.bus core.moment) (finished bus core.moment (run_of core))

-- and the first round of a moment
abbrev pub FirstOf : {B : Type 0} → BusMeaning B → ℕ → CoreState B → List Passed → RunState (NodeState CodeMemory) B → Type 0
FirstOf {B} bus now core = IsOneRound bus (bus.ended core.bus now) (keys_at now core.keys) (finished bus now (run_of core))

-- a round with a frame that ended is a second round with it
one_second : {B : Type 0} (bus : BusMeaning B) (ended : Option Ended) (before : RunState (NodeState CodeMemory) B) (rounds : List Passed) (after : RunState (NodeState CodeMemory) B) → IsSome ended
    → IsOneRound bus ended [] before rounds after → IsSecond code_reaction bus ended before rounds after
one_second bus None before rounds after some one = absurd (let f : false ≡ true = some in cc)
one_second bus (Some e) before rounds after some one = (one.tasks, one.is_round, one.are)

module _ {B : Type 0} (bus : BusMeaning B) (before : CoreState B) {ended : Option Ended} {b : B} where
  second_by : ended ≡ bus.ended before.bus before.moment → b ≡ bus.after_finish before.bus before.moment → IsSome ended → (rounds : List Passed) (after : RunState (NodeState CodeMemory) B)
      → IsOneRound bus ended [] (run_of (record before { bus = b })) rounds after → SecondOf bus before rounds after
  second_by frame state some rounds after one =
      subst (λ (e : Option Ended). IsSecond code_reaction bus e (finished bus before.moment (run_of before)) rounds after) frame
      (one_second bus ended (finished bus before.moment (run_of before)) rounds after some
      (subst (λ (x : B). IsOneRound bus ended [] (run_of (record before { bus = x })) rounds after) state one))

  -- a round with the frame that ended and the keys of a moment is its first round
  first_by : {keys : List ℕ} (now : ℕ) → ended ≡ bus.ended before.bus now → b ≡ bus.after_finish before.bus now → keys ≡ keys_at now before.keys
      → (rounds : List Passed) (after : RunState (NodeState CodeMemory) B) → IsOneRound bus ended keys (run_of (record before { bus = b; moment = now })) rounds after
      → FirstOf bus now before rounds after
  first_by {keys} now frame state pressed rounds after one =
      subst (λ (e : Option Ended). IsOneRound bus e (keys_at now before.keys) (finished bus now (run_of before)) rounds after) frame
      (subst (λ (ks : List ℕ). IsOneRound bus ended ks (finished bus now (run_of before)) rounds after) pressed
      (subst (λ (x : B). IsOneRound bus ended keys (run_of (record before { bus = x; moment = now })) rounds after) state one))

module _ {B R : Type 0} (bus : BusMeaning B) (meaning : RecordMeaning R) (before : CoreState B) where
  -- what a simulation does once it has asked the bus are rounds of its own
  does_asked : {one other : List Passed → RunState (NodeState CodeMemory) B → Type 0} {now : ℕ} {b : B} {after : CoreState B} {into into_after : R} {meter meter_after : List MeterRow}
      → ((rounds : List Passed) (after : RunState (NodeState CodeMemory) B) → one rounds after → other rounds after)
      → DoesRounds meaning one (record before { bus = b; moment = now }) into meter after into_after meter_after → DoesRounds meaning other before into meter after into_after meter_after
  does_asked {after} each does = record { rounds = does.rounds; is = each does.rounds (run_of after) does.is; picks = does.picks; done = does.done }

  -- and so are rounds that a fault cut
  cut_asked : {one other : List Passed → RunState (NodeState CodeMemory) B → Type 0} {now : ℕ} {b : B} {into into_after : R} {meter meter_after : List MeterRow}
      → ((rounds : List Passed) (after : RunState (NodeState CodeMemory) B) → one rounds after → other rounds after)
      → AreRoundsCut meaning one (record before { bus = b; moment = now }) into into_after meter meter_after → AreRoundsCut meaning other before into into_after meter meter_after
  cut_asked each cut = record { rounds = cut.rounds; after = cut.after; is = each cut.rounds cut.after cut.is; cut = cut.cut }

  -- without a frame that ended there is no second round
  pub no_second : {more : Option Ended} {b : B} {into : R} {meter : List MeterRow} → more ≡ bus.ended before.bus before.moment → b ≡ bus.after_finish before.bus before.moment → more ≡ None
      → DoesRounds meaning (SecondOf bus before) before into meter (record before { bus = b }) into meter
  no_second {b} {into} {meter} frame state none = record {
    rounds = [];
    is = subst (λ (e : Option Ended). IsSecond code_reaction bus e (finished bus before.moment (run_of before)) [] (run_of (record before { bus = b }))) (sym none ∙ frame)
        (refl, ap (λ (x : B). record (run_of before) { bus = x }) state);
    picks = refl;
    done = done_none;
  }

  module _ {ended : Option Ended} {b : B} {into into_after : R} {meter meter_after : List MeterRow} where
    -- a round that was cut is the second round
    pub cut_second : ended ≡ bus.ended before.bus before.moment → b ≡ bus.after_finish before.bus before.moment → IsSome ended
        → AreRoundsCut meaning (IsOneRound bus ended [] (run_of (record before { bus = b }))) (record before { bus = b }) into into_after meter meter_after
        → AreRoundsCut meaning (SecondOf bus before) before into into_after meter meter_after
    cut_second frame state some cut = cut_asked (second_by bus before frame state some) cut

    module _ {keys : List ℕ} (now : ℕ) (frame : ended ≡ bus.ended before.bus now) (state : b ≡ bus.after_finish before.bus now) (pressed : keys ≡ keys_at now before.keys) where
      -- a round is the first of the moment
      pub does_first : {after : CoreState B}
          → DoesRounds meaning (IsOneRound bus ended keys (run_of (record before { bus = b; moment = now }))) (record before { bus = b; moment = now }) into meter after into_after meter_after
          → DoesRounds meaning (FirstOf bus now before) before into meter after into_after meter_after
      does_first does = does_asked (first_by bus before now frame state pressed) does

      pub cut_first : AreRoundsCut meaning (IsOneRound bus ended keys (run_of (record before { bus = b; moment = now }))) (record before { bus = b; moment = now }) into into_after meter meter_after
          → AreRoundsCut meaning (FirstOf bus now before) before into into_after meter meter_after
      cut_first cut = cut_asked (first_by bus before now frame state pressed) cut

-- rounds of a simulation, as one sees it
pub does_seen : {B R : Type 0} {meaning : RecordMeaning R} (are : CoreState B → List Passed → RunState (NodeState CodeMemory) B → Type 0) {shown before after : CoreState B} {into into_after : R}
    {meter meter_after : List MeterRow} → shown ≡ before → DoesRounds meaning (are shown) shown into meter after into_after meter_after
    → DoesRounds meaning (are before) before into meter after into_after meter_after
does_seen {meaning} are {after} {into} {into_after} {meter} {meter_after} is does = subst (λ s. DoesRounds meaning (are s) s into meter after into_after meter_after) is does

-- and of rounds that were cut
pub cut_seen : {B R : Type 0} {meaning : RecordMeaning R} (are : CoreState B → List Passed → RunState (NodeState CodeMemory) B → Type 0) {shown before : CoreState B} {into into_after : R}
    {meter meter_after : List MeterRow} → shown ≡ before → AreRoundsCut meaning (are shown) shown into into_after meter meter_after
    → AreRoundsCut meaning (are before) before into into_after meter meter_after
cut_seen {meaning} are {into} {into_after} {meter} {meter_after} is cut = subst (λ s. AreRoundsCut meaning (are s) s into into_after meter meter_after) is cut

-- ---- the rounds of a moment

module _ {B R : Type 0} (bus : BusMeaning B) (meaning : RecordMeaning R) (now : ℕ) (before : CoreState B) where
  -- the second round of the moment
  abbrev Second : RunState (NodeState CodeMemory) B → List Passed → RunState (NodeState CodeMemory) B → Type 0
  Second between = IsSecond code_reaction bus (bus.ended between.bus now) (finished bus now between)

  -- both are the rounds of the moment
  both : (first more : List Passed) (between after : RunState (NodeState CodeMemory) B) → FirstOf bus now before first between → Second between more after → AreRounds code_reaction bus now (run_of before) (first ++ more) after
  both first more between after one two =
      record { tasks = one.tasks; between = between; more = more; first = one.is_round; second = two; are = ap (λ (rounds : List Passed). rounds ++ more) one.are }

  -- the second is at the moment
  at_moment : (between : CoreState B) → between.moment ≡ now → (more : List Passed) (after : RunState (NodeState CodeMemory) B) → SecondOf bus between more after → Second (run_of between) more after
  at_moment between is more after two = subst (λ m. IsSecond code_reaction bus (bus.ended between.bus m) (finished bus m (run_of between)) more after) is two

  module _ {into into_between into_after : R} {meter meter_between meter_after : List MeterRow} (between : CoreState B) where
    -- both were done
    pub both_done : {after : CoreState B} → KeepsNodes before.nodes between.nodes → between.moment ≡ now → DoesRounds meaning (FirstOf bus now before) before into meter between into_between meter_between
        → DoesRounds meaning (SecondOf bus between) between into_between meter_between after into_after meter_after
        → DoesRounds meaning (AreRounds code_reaction bus now (run_of before)) before into meter after into_after meter_after
    both_done {after} keeps moment one two = record {
      rounds = one.rounds ++ two.rounds;
      is = both one.rounds two.rounds (run_of between) (run_of after) one.is (at_moment between moment two.rounds (run_of after) two.is);
      picks = two.picks ∙ ap (picks_left two.rounds) one.picks ∙ sym (picks_left_append one.rounds two.rounds before.picks);
      done = subst (λ (list : List Step). AreDone meaning (rows_of before.nodes) list into into_after meter meter_after) (sym (steps_append one.rounds two.rounds before.picks))
          (done_more one.done
          (subst (λ (first : List ℕ). AreDone meaning first (steps two.rounds (picks_left one.rounds before.picks)) into_between into_after meter_between meter_after) keeps.rows
          (subst (λ (picks : List ℕ). AreDone meaning (rows_of between.nodes) (steps two.rounds picks) into_between into_after meter_between meter_after) one.picks two.done)));
    }

    -- the second was cut
    pub second_cut : KeepsNodes before.nodes between.nodes → between.moment ≡ now → DoesRounds meaning (FirstOf bus now before) before into meter between into_between meter_between
        → AreRoundsCut meaning (SecondOf bus between) between into_between into_after meter_between meter_after
        → AreRoundsCut meaning (AreRounds code_reaction bus now (run_of before)) before into into_after meter meter_after
    second_cut keeps moment one two = record {
      rounds = one.rounds ++ two.rounds;
      after = two.after;
      is = both one.rounds two.rounds (run_of between) two.after one.is (at_moment between moment two.rounds two.after two.is);
      cut = subst (λ (list : List Step). AreCut meaning (rows_of before.nodes) list into into_after meter meter_after) (sym (steps_append one.rounds two.rounds before.picks))
          (cut_more one.done
          (subst (λ (first : List ℕ). AreCut meaning first (steps two.rounds (picks_left one.rounds before.picks)) into_between into_after meter_between meter_after) keeps.rows
          (subst (λ (picks : List ℕ). AreCut meaning (rows_of between.nodes) (steps two.rounds picks) into_between into_after meter_between meter_after) one.picks two.cut)));
    }

  module _ (come : FramesCome bus) (can : All (λ key. CanOccur (Key key.key)) before.keys) (rest : IsAtRest bus now before) where
    -- nothing was done
    pub none_done : {into : R} {meter : List MeterRow} → AreRoundsCut meaning (AreRounds code_reaction bus now (run_of before)) before into into meter meter
    none_done =
        let there = rounds_there by_code IsSound CanOccur code_lives bus come now (run_of before) rest.frames can rest.ready in
        record { rounds = there.0; after = there.1; is = there.2; cut = cut_at_none (steps there.0 before.picks) }

    -- the first was cut
    pub first_cut : {into into_after : R} {meter meter_after : List MeterRow} → AreRoundsCut meaning (FirstOf bus now before) before into into_after meter meter_after
        → AreRoundsCut meaning (AreRounds code_reaction bus now (run_of before)) before into into_after meter meter_after
    first_cut {into} {into_after} {meter} {meter_after} one =
        let start : RunState (NodeState CodeMemory) B = finished bus now (run_of before) in
        let leaves = (round_ready by_code IsSound CanOccur code_lives bus come Moment (bus.ended before.bus now) (keys_at now before.keys) start one.is.tasks one.after
        (ended_seen CanOccur bus come before.bus now rest.frames) (keys_at_can CanOccur now before.keys can) rest.ready one.is.is_round).0 in
        let more_can = ended_seen CanOccur bus come one.after.bus now (leaves.frames (finish_seen CanOccur bus come before.bus now rest.frames)) in
        let ready = subst (λ m. AllByRecursion (IsReady IsSound m) one.after.nodes) leaves.moment leaves.ready in
        let there = second_there by_code IsSound CanOccur code_lives bus come (bus.ended one.after.bus now) (finished bus now one.after) more_can ready in
        record {
          rounds = one.rounds ++ there.0;
          after = there.1;
          is = both one.rounds there.0 one.after there.1 one.is there.2;
          cut = subst (λ (list : List Step). AreCut meaning (rows_of before.nodes) list into into_after meter meter_after) (sym (steps_append one.rounds there.0 before.picks))
              (cut_before one.cut (steps there.0 (picks_left one.rounds before.picks)));
        }
