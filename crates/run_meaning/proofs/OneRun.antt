-- Where a reaction does one thing by a trigger, a run goes in one way.
use Rattle.std.proofs.Common.{◌≡◌, ℕ, ◌≤◌, Bool, true, false, List, [], ◌∷◌, ◌++◌, Option, None, Some, refl, ap, sym, subst, ◌∙◌, arith}
use Rattle.std.specs.List.{flat_map}
use Rattle.can_bus.specs.declared.bus.Ended.{Ended}
use Rattle.can_bus.specs.Meaning.{BusMeaning}
use Rattle.node_rounds.specs.declared.round.Round.TheVariants as round_of
use Rattle.node_rounds.specs.Reaction.{Reacts}
use Rattle.node_rounds.specs.Round.{Task}
use Rattle.run_meaning.specs.Moments.{keys_at}
use Rattle.run_meaning.specs.Rest.{RunsOn, rounds_left}
use Rattle.run_meaning.specs.Run.{AreInstants, AreParts, AreRounds, EndsAt, HasBegun, IsEnded, IsInstant, IsRound, IsRun, IsSecond, Passed, RunState, finished, next_instant, quiet_round, settled}
use Rattle.run_meaning.proofs.Once.{IsOnce, parts_once, round_once, some_same}
use Rattle.run_meaning.proofs.RunParts.{runs_on}

-- ---- instants

-- the second round of an instant goes in one way
pub second_once : {S B : Type 0} (r : Reacts S) → IsOnce r → (bus : BusMeaning B) (ended : Option Ended) (before : RunState S B) (ps qs : List Passed) (after end : RunState S B)
    → IsSecond r bus ended before ps after → IsSecond r bus ended before qs end → (ps ≡ qs) × (after ≡ end)
second_once r once bus None before ps qs after end x y = (x.0 ∙ sym y.0, x.1 ∙ sym y.1)
second_once r once bus (Some ended) before ps qs after end x y =
    let one = round_once r once bus round_of.Moment (Some ended) [] before x.0 y.0 after end x.1 y.1 in
    let by : List (List Task) → List Passed = λ tasks. record { moment = before.moment; ended = Some ended; tasks = tasks } ∷ [] in
    (x.2 ∙ ap by one.0 ∙ sym y.2, one.1)

-- the rounds of an instant at a moment go in one way
pub rounds_once : {S B : Type 0} (r : Reacts S) → IsOnce r → (bus : BusMeaning B) (now : ℕ) (before : RunState S B) (ps qs : List Passed) (after end : RunState S B)
    → AreRounds r bus now before ps after → AreRounds r bus now before qs end → (ps ≡ qs) × (after ≡ end)
rounds_once {S} {B} r once bus now before ps qs after end x y =
    let one = round_once r once bus round_of.Moment (bus.ended before.bus now) (keys_at now before.keys) (finished bus now before) x.tasks y.tasks x.between y.between x.first y.first in
    let two = second_once r once bus (bus.ended y.between.bus now) (finished bus now y.between) x.more y.more after end
    (subst (λ (s : RunState S B). IsSecond r bus (bus.ended s.bus now) (finished bus now s) x.more after) one.1 x.second) y.second in
    let by : List (List Task) → List Passed → List Passed = λ tasks more. record { moment = now; ended = bus.ended before.bus now; tasks = tasks } ∷ more in
    (x.are ∙ ap (λ tasks. by tasks x.more) one.0 ∙ ap (by y.tasks) two.0 ∙ sym y.are, two.1)

-- an instant goes in one way
pub instant_once : {S B : Type 0} (r : Reacts S) → IsOnce r → (bus : BusMeaning B) (until : ℕ) (before : RunState S B) (ps qs : List Passed) (after end : RunState S B)
    → IsInstant r bus until before ps after → IsInstant r bus until before qs end → (ps ≡ qs) × (after ≡ end)
instant_once {S} {B} r once bus until before ps qs after end x y =
    let moment : x.moment ≡ y.moment = some_same (sym x.is_next ∙ y.is_next) in
    let one = rounds_once r once bus y.moment before ps qs x.end y.end (subst (λ (m : ℕ). AreRounds r bus m before ps x.end) moment x.are_rounds) y.are_rounds in
    (one.0, x.stands ∙ ap (λ (s : RunState S B). settled bus s) one.1 ∙ sym y.stands)

-- a run may end as it stands here
abbrev pub IsLast : {S B : Type 0} → Reacts S → BusMeaning B → ℕ → RunState S B → Type 0
IsLast {S} {B} r bus until s = (end : ℕ) × EndsAt s.stops s.moment (next_instant r bus s) until end

late : (stops : Bool) (next : Option ℕ) (present until moment end : ℕ) → stops ≡ false → next ≡ Some moment → moment ≤ until → EndsAt stops present next until end → ⊥
late true next present until moment end goes is in_time ends = let e : true ≡ false = goes in cc
late false None present until moment end goes is in_time ends = let e : None ≡ Some moment = is in cc
late false (Some other) present until moment end goes is in_time ends =
    let e : Some other ≡ Some moment = is in let same : other ≡ moment = cc in omega (arith, same, in_time, ends.0)

-- no instant follows where a run may end
pub no_more : {S B : Type 0} (r : Reacts S) (bus : BusMeaning B) (until : ℕ) (s after : RunState S B) (rounds : List Passed) → IsLast r bus until s → IsInstant r bus until s rounds after → ⊥
no_more r bus until s after rounds last more = late s.stops (next_instant r bus s) s.moment until more.moment last.0 more.not_stopped more.is_next more.in_time last.1

-- the instants of a run up to its end go in one way
pub instants_once : {S B : Type 0} (r : Reacts S) → IsOnce r → (bus : BusMeaning B) (until : ℕ) (before : RunState S B) (ps qs : List (List Passed)) (after end : RunState S B)
    → AreInstants r bus until before ps after → AreInstants r bus until before qs end → IsLast r bus until after → IsLast r bus until end → (ps ≡ qs) × (after ≡ end)
instants_once r once bus until before [] [] after end a b last other = (refl, a ∙ sym b)
instants_once r once bus until before [] (q ∷ qs) after end a b last other = absurd (no_more r bus until before b.0 q (subst (IsLast r bus until) a last) b.1)
instants_once r once bus until before (p ∷ ps) [] after end a b last other = absurd (no_more r bus until before a.0 p (subst (IsLast r bus until) b other) a.1)
instants_once {S} {B} r once bus until before (p ∷ ps) (q ∷ qs) after end a b last other =
    let one = instant_once r once bus until before p q a.0 b.0 a.1 b.1 in
    let more = instants_once r once bus until b.0 ps qs after end (subst (λ (s : RunState S B). AreInstants r bus until s ps after) one.1 a.2) b.2 last other in
    (ap (λ (x : List Passed). x ∷ ps) one.0 ∙ ap (λ (xs : List (List Passed)). q ∷ xs) more.0, more.1)

-- ---- runs

-- moment 0 goes in one way
pub begun_once : {S B : Type 0} (r : Reacts S) → IsOnce r → (bus : BusMeaning B) (before : RunState S B) (ps qs : List Passed) (after end : RunState S B)
    → HasBegun r bus before ps after → HasBegun r bus before qs end → (ps ≡ qs) × (after ≡ end)
begun_once {S} {B} r once bus before ps qs after end x y =
    let one = round_once r once bus round_of.PreStart None [] before x.before_start y.before_start x.between y.between x.pre_starts y.pre_starts in
    let two = round_once r once bus round_of.Start None (keys_at 0 before.keys) y.between x.start y.start x.end y.end
    (subst (λ (s : RunState S B). IsRound r bus round_of.Start None (keys_at 0 before.keys) s x.start x.end) one.1 x.starts) y.starts in
    let by : List (List Task) → List (List Task) → List Passed = λ p q. quiet_round 0 p ∷ quiet_round 0 q ∷ [] in (
      x.are ∙ ap (λ p. by p x.start) one.0 ∙ ap (by y.before_start) two.0 ∙ sym y.are,
      x.stands ∙ ap (λ (s : RunState S B). settled bus s) two.1 ∙ sym y.stands,
    )

ends_at_once : (stops : Bool) (present : ℕ) (next : Option ℕ) (until end other : ℕ) → EndsAt stops present next until end → EndsAt stops present next until other → end ≡ other
ends_at_once true present next until end other a b = a ∙ sym b
ends_at_once false present next until end other a b = a.1 ∙ sym b.1

-- the end of a run goes in one way
pub ended_once : {S B : Type 0} (r : Reacts S) → IsOnce r → (bus : BusMeaning B) (until : ℕ) (before : RunState S B) (ps qs : List Passed) (after end : RunState S B)
    → IsEnded r bus until before ps after → IsEnded r bus until before qs end → (ps ≡ qs) × (after ≡ end)
ended_once {S} {B} r once bus until before ps qs after end x y =
    let at : x.moment ≡ y.moment = ends_at_once before.stops before.moment (next_instant r bus before) until x.moment y.moment x.ends y.ends in
    let one = parts_once r once round_of.Stop y.moment None [] 0 before.nodes x.tasks y.tasks x.nodes y.nodes
    (subst (λ (n : ℕ). AreParts r round_of.Stop n None [] 0 before.nodes x.tasks x.nodes) at x.parts) y.parts in
    let by : ℕ → List (List Task) → List Passed = λ n tasks. quiet_round n tasks ∷ [] in
    let stands : ℕ → List S → RunState S B = λ n nodes. record before { moment = n; nodes = nodes } in (
      x.are ∙ ap (λ n. by n x.tasks) at ∙ ap (by y.moment) one.0 ∙ sym y.are,
      x.stands ∙ ap (λ n. stands n x.nodes) at ∙ ap (stands y.moment) one.1 ∙ sym y.stands,
    )

-- what is left of a run after an instant goes in one way
pub goes_on_once : {S B : Type 0} (r : Reacts S) → IsOnce r → (bus : BusMeaning B) (until : ℕ) (before : RunState S B) (ps qs : List Passed) (after end : RunState S B)
    → RunsOn r bus until before ps after → RunsOn r bus until before qs end → (ps ≡ qs) × (after ≡ end)
goes_on_once {S} {B} r once bus until before ps qs after end x y =
    let one = instants_once r once bus until before x.instants y.instants x.last y.last x.goes y.goes (x.ending.moment, x.ending.ends) (y.ending.moment, y.ending.ends) in
    let two = ended_once r once bus until y.last x.stop y.stop after end (subst (λ (s : RunState S B). IsEnded r bus until s x.stop after) one.1 x.ending) y.ending in
    let by : List (List Passed) → List Passed → List Passed = λ instants stop. flat_map (λ instant. instant) instants ++ stop in
    (x.are ∙ ap (λ instants. by instants x.stop) one.0 ∙ ap (by y.instants) two.0 ∙ sym y.are, two.1)

-- a run goes in one way
pub run_once : {S B : Type 0} (r : Reacts S) → IsOnce r → (bus : BusMeaning B) (until : ℕ) (before after end : RunState S B) (rounds others : List Passed)
    → IsRun r bus until before rounds after → IsRun r bus until before others end → (rounds ≡ others) × (after ≡ end)
run_once {S} {B} r once bus until before after end rounds others x y =
    let one = begun_once r once bus before x.first y.first x.begun y.begun x.begins y.begins in
    let two = goes_on_once r once bus until y.begun (rounds_left x) (rounds_left y) after end (subst (λ (s : RunState S B). RunsOn r bus until s (rounds_left x) after) one.1 (runs_on x)) (runs_on y) in
    let by : List Passed → List Passed → List Passed = λ first more. first ++ more in
    (x.are ∙ ap (λ first. by first (rounds_left x)) one.0 ∙ ap (by y.first) two.0 ∙ sym y.are, two.1)
