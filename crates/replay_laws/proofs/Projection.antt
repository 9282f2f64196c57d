-- A run of nodes on a bus of one channel, as its bus has it.
use Rattle.std.proofs.Common.{◌≡◌, ℕ, ◌+◌, Bool, false, cond, eqb, List, [], ◌∷◌, ◌++◌, length, refl, sym, ap, subst, ◌∙◌, inl, inr, append-nil}
use Rattle.std.specs.Prelude.{Option, None, Some, ◌||◌, is_some}
use Rattle.std.specs.List.{flat_map}
use Rattle.std.proofs.lemmas.Bool.Decides.{eqb_tells}
use Rattle.std.proofs.lemmas.List.Concat.{flat_map-append}
use Rattle.can_frame.specs.Frame.{FrameFields}
use Rattle.can_bus.specs.declared.bus.Ended.{Ended}
use Rattle.can_bus.specs.declared.transmission.Transmission.{Transmission}
use Rattle.can_bus.specs.Bus.{BusState, after_arbitration, after_finish, after_request, ended, ended_on, one_channel}
use Rattle.replay_node.specs.declared.replay.Request.{Request}
use Rattle.node_rounds.specs.Effects.{after_requests}
use Rattle.node_rounds.specs.Reaction.{Reacts}
use Rattle.node_rounds.specs.Round.{Task}
use Rattle.run_meaning.specs.Run.{after_all_tasks, after_tasks, HasBegun, IsInstant, IsSecond, Passed, RunState, ask_stop, finished, quiet_round}
use Rattle.run_meaning.specs.Moments.{requests_at, requests_after}
use Rattle.replay_laws.proofs.Instants.{Logged, Ask, with_asks, after_instant, logged_at}
use Rattle.replay_laws.proofs.Replaying.{asks_of}
use Rattle.replay_laws.proofs.Spacing.{Timing, carried, timing-with_asks}

-- ---- what tasks ask for, as one list

-- the requests of a node's tasks
abbrev pub asks_by : ℕ → List Task → List Ask
asks_by node [] = []
asks_by node (task ∷ tasks) = asks_of node task.requests ++ asks_by node tasks

-- those of the tasks of all nodes from a number on
abbrev pub asks_by_all : ℕ → List (List Task) → List Ask
asks_by_all node [] = []
asks_by_all node (tasks ∷ others) = asks_by node tasks ++ asks_by_all (node + 1) others

with_asks-append : (s : BusState) (front back : List Ask) → with_asks s (front ++ back) ≡ with_asks (with_asks s front) back
with_asks-append s [] back = refl
with_asks-append s (a ∷ front) back = with_asks-append (after_request s a.node a.frame) front back

frames_asked : (s : BusState) (node : ℕ) (frames : List FrameFields) → after_requests after_request s node frames ≡ with_asks s (asks_of node frames)
frames_asked s node [] = refl
frames_asked s node (frame ∷ frames) = frames_asked (after_request s node frame) node frames

tasks_asked : (s : BusState) (node : ℕ) (tasks : List Task) → after_tasks after_request s node tasks ≡ with_asks s (asks_by node tasks)
tasks_asked s node [] = refl
tasks_asked s node (task ∷ tasks) =
    ap (λ b. after_tasks after_request b node tasks) (frames_asked s node task.requests) ∙ tasks_asked (with_asks s (asks_of node task.requests)) node tasks
    ∙ sym (with_asks-append s (asks_of node task.requests) (asks_by node tasks))

all_asked : (s : BusState) (node : ℕ) (tasks : List (List Task)) → after_all_tasks after_request s node tasks ≡ with_asks s (asks_by_all node tasks)
all_asked s node [] = refl
all_asked s node (tasks ∷ others) =
    ap (λ b. after_all_tasks after_request b (node + 1) others) (tasks_asked s node tasks) ∙ all_asked (with_asks s (asks_by node tasks)) (node + 1) others
    ∙ sym (with_asks-append s (asks_by node tasks) (asks_by_all (node + 1) others))

-- ---- one frame ends at a moment, and no other

abbrev has_ended : Option Logged → ℕ → Bool
has_ended None now = false
has_ended (Some l) now = eqb l.moment now

none_ended : (wire : Option Transmission) (now : ℕ) → has_ended (carried wire) now ≡ false → ended_on wire now ≡ None
none_ended None now none = refl
none_ended (Some t) now none = ap (λ b. cond b (Some (record { node = t.request.node; frame = t.request.frame })) None) none

off_now : (s : BusState) (wire : Option Transmission) (now : ℕ) → has_ended (carried (cond (is_some (ended_on wire now)) (record s { wire = None }) (record s { wire = wire })).wire) now ≡ false
off_now s None now = refl
off_now s (Some t) now =
    let sent : Ended = record { node = t.request.node; frame = t.request.frame } in
    let P : Bool → Type 0 = λ b. has_ended (carried (cond (is_some (cond b (Some sent) None)) (record s { wire = None }) (record s { wire = Some t })).wire) now ≡ false in
    elim (eqb_tells t.end now) [ inl ends ↦ subst P (sym ends.0) refl | inr later ↦ subst P (sym later.0) later.0 ]

-- after requests nothing more ends at a moment at which what ends has left the wire
none_more : (s : BusState) (now : ℕ) (asks : List Ask) → ended (with_asks (after_finish s now) asks) now ≡ None
none_more s now asks =
    none_ended (with_asks (after_finish s now) asks).wire now
    (ap (λ (t : Timing). has_ended t.carries now) (timing-with_asks (after_finish s now) asks) ∙ off_now s s.wire now)

-- where nothing ends, the bus stays as it is
stays : (s : BusState) (now : ℕ) → ended s now ≡ None → after_finish s now ≡ s
stays s now none = ap (λ (o : Option Ended). cond (is_some o) (record s { wire = None }) s) none

-- ---- one instant

-- How a run stands after an instant, from how it stood before, as the bus has it: the frame that ended and
-- the tasks make one round, and the frames of the tasks and of the replay are asked for.
pub record IsOne {S : Type 0} (now : ℕ) (before : RunState S BusState) (rounds : List Passed) (after : RunState S BusState) : Type 0 where
  pub tasks : List (List Task)
  pub node : ℕ
  pub are : rounds ≡ record { moment = now; ended = ended before.bus now; tasks = tasks } ∷ []
  pub bus : after.bus ≡ after_instant before.bus (record { moment = now; asks = asks_by_all 0 tasks ++ asks_of node (requests_at now before.requests) })
  pub requests : after.requests ≡ requests_after now before.requests
  pub stops : after.stops ≡ before.stops || ask_stop tasks

-- no second round
no_second : {S : Type 0} (r : Reacts S) (o : Option Ended) (before : RunState S BusState) (rounds : List Passed) (after : RunState S BusState) → o ≡ None → IsSecond r one_channel o before rounds after
    → (rounds ≡ []) × (after ≡ before)
no_second r None before rounds after none is = is
no_second r (Some e) before rounds after none is = absurd (cc)

-- an instant is one, over a bus of one channel
pub one_instant : {S : Type 0} (r : Reacts S) (until : ℕ) (before : RunState S BusState) (rounds : List Passed) (after : RunState S BusState) (is : IsInstant r one_channel until before rounds after)
    → IsOne is.moment before rounds after
one_instant {S} r until before rounds after is =
    let now = is.moment in
    let of = is.are_rounds in
    let s = before.bus in
    let tasks = of.tasks in
    let asks = asks_by_all 0 tasks in
    let between : (of.between).bus ≡ with_asks (after_finish s now) asks = ap (λ (x : RunState S BusState). x.bus) (of.first).stands ∙ all_asked (after_finish s now) 0 tasks in
    let none : ended (of.between).bus now ≡ None = ap (λ b. ended b now) between ∙ none_more s now asks in
    let second = no_second r (ended (of.between).bus now) (finished one_channel now of.between) of.more is.end none of.second in
    let end : (is.end).bus ≡ with_asks (after_finish s now) asks = ap (λ (x : RunState S BusState). x.bus) second.1 ∙ stays (of.between).bus now none ∙ between in
    let requests : (is.end).requests ≡ before.requests = ap (λ (x : RunState S BusState). x.requests) second.1 ∙ ap (λ (x : RunState S BusState). x.requests) (of.first).stands in
    let moment : (is.end).moment ≡ now = ap (λ (x : RunState S BusState). x.moment) second.1 in
    let stops : (is.end).stops ≡ before.stops || ask_stop tasks = ap (λ (x : RunState S BusState). x.stops) second.1 ∙ ap (λ (x : RunState S BusState). x.stops) (of.first).stands in
    let node = length (is.end).nodes in
    let Bus : BusState → ℕ → List Request → BusState = λ b m rs. after_arbitration (after_requests after_request b node (requests_at m rs)) m in
    let frames = requests_at now before.requests in
    record {
      tasks = tasks;
      node = node;
      are = of.are ∙ ap (λ more. record { moment = now; ended = ended s now; tasks = tasks } ∷ more) second.0;
      bus = ap (λ (x : RunState S BusState). x.bus) is.stands ∙ (λ i. Bus (end i) (moment i) (requests i))
          ∙ ap (λ b. after_arbitration b now) (frames_asked (with_asks (after_finish s now) asks) node frames ∙ sym (with_asks-append (after_finish s now) asks (asks_of node frames)));
      requests = ap (λ (x : RunState S BusState). x.requests) is.stands ∙ (λ i. requests_after (moment i) (requests i));
      stops = ap (λ (x : RunState S BusState). x.stops) is.stands ∙ stops;
    }

-- How a run stands after its moment 0, as the bus has it.
pub record IsFirst {S : Type 0} (before : RunState S BusState) (rounds : List Passed) (after : RunState S BusState) : Type 0 where
  pub pre_start : List (List Task)
  pub start : List (List Task)
  pub node : ℕ
  pub are : rounds ≡ quiet_round 0 pre_start ∷ quiet_round 0 start ∷ []
  pub bus : after.bus ≡ after_arbitration (with_asks before.bus (asks_by_all 0 pre_start ++ asks_by_all 0 start ++ asks_of node (requests_at 0 before.requests))) 0
  pub requests : after.requests ≡ requests_after 0 before.requests
  pub stops : after.stops ≡ (before.stops || ask_stop pre_start) || ask_stop start

-- the beginning of a run is that
pub first_instant : {S : Type 0} (r : Reacts S) (before : RunState S BusState) (rounds : List Passed) (after : RunState S BusState) → before.moment ≡ 0 → HasBegun r one_channel before rounds after
    → IsFirst before rounds after
first_instant {S} r before rounds after zero is =
    let s = before.bus in
    let one = asks_by_all 0 is.before_start in
    let two = asks_by_all 0 is.start in
    let between : (is.between).bus ≡ with_asks s one = ap (λ (x : RunState S BusState). x.bus) (is.pre_starts).stands ∙ all_asked s 0 is.before_start in
    let end : (is.end).bus ≡ with_asks (with_asks s one) two = ap (λ (x : RunState S BusState). x.bus) (is.starts).stands ∙ all_asked (is.between).bus 0 is.start ∙ ap (λ b. with_asks b two) between in
    let requests : (is.end).requests ≡ before.requests = ap (λ (x : RunState S BusState). x.requests) (is.starts).stands ∙ ap (λ (x : RunState S BusState). x.requests) (is.pre_starts).stands in
    let moment : (is.end).moment ≡ 0 = ap (λ (x : RunState S BusState). x.moment) (is.starts).stands ∙ ap (λ (x : RunState S BusState). x.moment) (is.pre_starts).stands ∙ zero in
    let node = length (is.end).nodes in
    let frames = requests_at 0 before.requests in
    let source = asks_of node frames in
    let Bus : BusState → ℕ → List Request → BusState = λ b m rs. after_arbitration (after_requests after_request b node (requests_at m rs)) m in
    record {
      pre_start = is.before_start;
      start = is.start;
      node = node;
      are = is.are;
      bus = ap (λ (x : RunState S BusState). x.bus) is.stands ∙ (λ i. Bus (end i) (moment i) (requests i))
          ∙ ap (λ b. after_arbitration b 0)
          (frames_asked (with_asks (with_asks s one) two) node frames ∙ ap (λ b. with_asks b source) (sym (with_asks-append s one two)) ∙ sym (with_asks-append s (one ++ two) source));
      requests = ap (λ (x : RunState S BusState). x.requests) is.stands ∙ (λ i. requests_after (moment i) (requests i));
      stops = ap (λ (x : RunState S BusState). x.stops) is.stands ∙ ap (λ (x : RunState S BusState). x.stops) (is.starts).stands
          ∙ ap (λ (x : RunState S BusState). x.stops || ask_stop is.start) (is.pre_starts).stands;
    }

-- ---- the frames of rounds

-- the frame that ended in a round, if one did
abbrev pub frame_in : Passed → List Logged
frame_in passed = logged_at passed.moment passed.ended

-- the frames that ended in rounds, in order
abbrev pub frames_in : List Passed → List Logged
frames_in rounds = flat_map frame_in rounds

-- the rounds of instants
abbrev pub rounds_of : List (List Passed) → List Passed
rounds_of instants = flat_map (λ instant. instant) instants

-- those of a run are those of its instants behind moment 0
pub frames_of_run : (first more stop rounds : List Passed) (instants : List (List Passed)) → frames_in first ≡ [] → frames_in stop ≡ [] → more ≡ rounds_of instants ++ stop → rounds ≡ first ++ more
    → frames_in rounds ≡ frames_in (rounds_of instants)
frames_of_run first more stop rounds instants none nothing goes are =
    ap frames_in are ∙ flat_map-append frame_in first more ∙ ap (λ l. l ++ frames_in more) none ∙ ap frames_in goes ∙ flat_map-append frame_in (rounds_of instants) stop
    ∙ ap (λ l. frames_in (rounds_of instants) ++ l) nothing ∙ append-nil (frames_in (rounds_of instants))
