-- A run whose nodes ask for nothing, as its bus has it: nothing comes to the bus but the requests of the replay.
use Rattle.std.proofs.Common.{◌≡◌, ℕ, ◌+◌, ◌<◌, ◌≤◌, false, List, [], ◌∷◌, ◌++◌, min, refl, sym, ap, subst, ◌∙◌, arith}
use Rattle.std.specs.Prelude.{Option, None, Some, All, IfSome, ◌||◌}
use Rattle.std.specs.List.{list_any}
use Rattle.std.proofs.lemmas.List.Elements.{All-head, All-tail}
use Rattle.can_bus.specs.Bus.{BusState, new_bus, ended, one_channel}
use Rattle.can_bus.specs.Bus as bus_of
use Rattle.scenario.specs.declared.scenario.KeyItem.{KeyItem}
use Rattle.replay_node.specs.declared.replay.Request.{Request}
use Rattle.node_rounds.specs.Reaction.{Reacts}
use Rattle.node_rounds.specs.Round.{Task}
use Rattle.run_meaning.specs.Live.{next_key, next_request}
use Rattle.run_meaning.specs.Moments.{least, next_timer, requests_at, requests_after}
use Rattle.run_meaning.specs.Run.{AreInstants, EndsAt, IsRun, Passed, RunState, ask_stop, new_run, next_instant, quiet_round}
use Rattle.replay_laws.specs.Tasks.{AllTasks, AsksNothing}
use Rattle.replay_laws.proofs.Instants.{Logged, Instant, logged_at, logged}
use Rattle.replay_laws.proofs.Replaying.{AreReplays, asks_of}
use Rattle.replay_laws.proofs.Projection.{asks_by, asks_by_all, one_instant, first_instant, frames_in, rounds_of, frames_of_run}
use Rattle.replay_laws.proofs.Seen.{tasks_first, tasks_more}

-- ---- tasks that ask for nothing

own_nothing : (node : ℕ) (tasks : List Task) → All AsksNothing tasks → asks_by node tasks ≡ []
own_nothing node [] all = refl
own_nothing node (task ∷ tasks) all =
    ap (λ frames. asks_of node frames ++ asks_by node tasks) (All-head AsksNothing task tasks all).0 ∙ own_nothing node tasks (All-tail AsksNothing task tasks all)

all_nothing : (node : ℕ) (tasks : List (List Task)) → All (λ own. All AsksNothing own) tasks → asks_by_all node tasks ≡ []
all_nothing node [] all = refl
all_nothing node (own ∷ tasks) all =
    ap (λ l. l ++ asks_by_all (node + 1) tasks) (own_nothing node own (All-head (λ o. All AsksNothing o) own tasks all))
    ∙ all_nothing (node + 1) tasks (All-tail (λ o. All AsksNothing o) own tasks all)

own_no_stop : (tasks : List Task) → All AsksNothing tasks → list_any (λ task. task.stops) tasks ≡ false
own_no_stop [] all = refl
own_no_stop (task ∷ tasks) all =
    ap (λ b. b || list_any (λ (one : Task). one.stops) tasks) (All-head AsksNothing task tasks all).1 ∙ own_no_stop tasks (All-tail AsksNothing task tasks all)

no_stop : (tasks : List (List Task)) → All (λ own. All AsksNothing own) tasks → ask_stop tasks ≡ false
no_stop [] all = refl
no_stop (own ∷ tasks) all =
    ap (λ b. b || ask_stop tasks) (own_no_stop own (All-head (λ o. All AsksNothing o) own tasks all)) ∙ no_stop tasks (All-tail (λ o. All AsksNothing o) own tasks all)

-- ---- what comes next

-- what holds of the least of two moments, and of each that is not less, holds of both
both_of_least : (P : ℕ → Type 0) → ((m n : ℕ) → m ≤ n → P m → P n) → (a b : Option ℕ) → IfSome (least a b) P → IfSome a P × IfSome b P
both_of_least P rises None b h = (tt, h)
both_of_least P rises (Some m) None h = (h, tt)
both_of_least P rises (Some m) (Some n) h = (rises (min m n) m (omega arith) h, rises (min m n) n (omega arith) h)

-- so of what is next of all, at the bus and of the replay
both_next : {S : Type 0} (r : Reacts S) (s : RunState S BusState) (P : ℕ → Type 0) → ((m n : ℕ) → m ≤ n → P m → P n) → IfSome (next_instant r one_channel s) P
    → IfSome (bus_of.next_moment s.bus) P × IfSome (next_request s.requests) P
both_next r s P rises h =
    let timers = next_timer r s.nodes in
    let keys = next_key s.keys in
    let requests = next_request s.requests in
    let one = both_of_least P rises (bus_of.next_moment s.bus) (least timers (least keys requests)) h in
    let two = both_of_least P rises timers (least keys requests) one.1 in
    (one.0, (both_of_least P rises keys requests two.1).1)

-- at a moment that is the next one
next_at : {S : Type 0} (r : Reacts S) (s : RunState S BusState) (now : ℕ) → next_instant r one_channel s ≡ Some now
    → IfSome (bus_of.next_moment s.bus) (λ due. now ≤ due) × IfSome (next_request s.requests) (λ due. now ≤ due)
next_at r s now is = both_next r s (λ due. now ≤ due) (λ m n rises low. omega (arith, rises, low)) (subst (λ o. IfSome o (λ due. now ≤ due)) (sym is) (let low : now ≤ now = omega arith in low))

-- at the end of a run
next_late : {S : Type 0} (r : Reacts S) (s : RunState S BusState) (until end : ℕ) → s.stops ≡ false → EndsAt s.stops s.moment (next_instant r one_channel s) until end
    → IfSome (bus_of.next_moment s.bus) (λ due. until < due) × IfSome (next_request s.requests) (λ due. until < due)
next_late r s until end goes ends =
    let late : EndsAt false s.moment (next_instant r one_channel s) until end = subst (λ b. EndsAt b s.moment (next_instant r one_channel s) until end) goes ends in
    both_next r s (λ due. until < due) (λ m n rises low. omega (arith, rises, low)) late.0

-- ---- runs

-- A bus logs these frames at instants at which the requests of a replay are made, and nothing else.
pub record IsReplayed (last : ℕ) (s : BusState) (requests : List Request) (frames : List Logged) : Type 0 where
  pub instants : List Instant
  pub replays : AreReplays last s requests instants
  pub are : logged s instants ≡ frames

instants_replayed : {S : Type 0} (r : Reacts S) (until end : ℕ) (before : RunState S BusState) (rounds : List (List Passed)) (after : RunState S BusState) → AreInstants r one_channel until before rounds after
    → AllTasks AsksNothing (rounds_of rounds) → before.stops ≡ false → EndsAt after.stops after.moment (next_instant r one_channel after) until end
    → IsReplayed until before.bus before.requests (frames_in (rounds_of rounds))
instants_replayed {S} r until end before [] after is tasks goes ends = record {
  instants = [];
  replays = next_late r before until end goes (subst (λ (s : RunState S BusState). EndsAt s.stops s.moment (next_instant r one_channel s) until end) is ends);
  are = refl;
}
instants_replayed {S} r until end before (p ∷ ps) after is tasks goes ends =
    let between = is.0 in
    let now = (is.1).moment in
    let one = one_instant r until before p between is.1 in
    let passed : Passed = record { moment = now; ended = ended before.bus now; tasks = one.tasks } in
    let Holds : Passed → Type 0 = λ q. All (λ own. All AsksNothing own) q.tasks in
    let all : AllTasks AsksNothing (passed ∷ rounds_of ps) = subst (λ q. AllTasks AsksNothing (q ++ rounds_of ps)) one.are tasks in
    let own = All-head Holds passed (rounds_of ps) all in
    let stops : between.stops ≡ false = one.stops ∙ ap (λ b. b || ask_stop one.tasks) goes ∙ no_stop one.tasks own in
    let rest = instants_replayed r until end between ps after is.2 (All-tail Holds passed (rounds_of ps) all) stops ends in
    let source = asks_of one.node (requests_at now before.requests) in
    let i : Instant = record { moment = now; asks = asks_by_all 0 one.tasks ++ source } in
    let next = next_at r before now (is.1).is_next in
    record {
      instants = i ∷ rest.instants;
      replays = (
        next.0,
        next.1,
        (is.1).in_time,
        (one.node, ap (λ l. l ++ source) (all_nothing 0 one.tasks own)),
        subst (λ b. AreReplays until b (requests_after now before.requests) rest.instants) one.bus (subst (λ rs. AreReplays until between.bus rs rest.instants) one.requests rest.replays),
      );
      are = ap (λ l. logged_at now (ended before.bus now) ++ l) (ap (λ b. logged b rest.instants) (sym one.bus) ∙ rest.are) ∙ ap (λ q. frames_in (q ++ rounds_of ps)) (sym one.are);
    }

zero_next : (o : Option ℕ) → IfSome o (λ due. 0 ≤ due)
zero_next None = tt
zero_next (Some m) = omega arith

-- a run is replayed so
pub run_replayed : {S : Type 0} (r : Reacts S) (until bit : ℕ) (nodes : List S) (keys : List KeyItem) (requests : List Request) (rounds : List Passed) (after : RunState S BusState)
    → IsRun r one_channel until (new_run nodes (new_bus bit) keys requests) rounds after → AllTasks AsksNothing rounds → IsReplayed until (new_bus bit) requests (frames_in rounds)
run_replayed {S} r until bit nodes keys requests rounds after is tasks =
    let before : RunState S BusState = new_run nodes (new_bus bit) keys requests in
    let first = first_instant r before is.first is.begun refl is.begins in
    let Holds : Passed → Type 0 = λ q. All (λ own. All AsksNothing own) q.tasks in
    let own : AllTasks AsksNothing (is.first ++ (rounds_of is.instants ++ is.stop)) = subst (AllTasks AsksNothing) is.are tasks in
    let begun : AllTasks AsksNothing (quiet_round 0 first.pre_start ∷ quiet_round 0 first.start ∷ []) = subst (AllTasks AsksNothing) first.are (tasks_first AsksNothing is.first (rounds_of is.instants ++ is.stop) own) in
    let more : AllTasks AsksNothing (rounds_of is.instants ++ is.stop) = tasks_more AsksNothing is.first (rounds_of is.instants ++ is.stop) own in
    let pre_all = All-head Holds (quiet_round 0 first.pre_start) (quiet_round 0 first.start ∷ []) begun in
    let start_all = All-head Holds (quiet_round 0 first.start) [] (All-tail Holds (quiet_round 0 first.pre_start) (quiet_round 0 first.start ∷ []) begun) in
    let stops : (is.begun).stops ≡ false = first.stops ∙ ap (λ b. b || ask_stop first.start) (no_stop first.pre_start pre_all) ∙ no_stop first.start start_all in
    let rest = instants_replayed r until (is.ending).moment is.begun is.instants is.last is.goes (tasks_first AsksNothing (rounds_of is.instants) is.stop more) stops (is.ending).ends in
    let pre = asks_by_all 0 first.pre_start in
    let start = asks_by_all 0 first.start in
    let source = asks_of first.node (requests_at 0 requests) in
    let i : Instant = record { moment = 0; asks = pre ++ start ++ source } in
    record {
      instants = i ∷ rest.instants;
      replays = (
        zero_next (bus_of.next_moment (new_bus bit)),
        zero_next (next_request requests),
        (let low : 0 ≤ until = omega arith in low),
        (first.node, ap (λ l. l ++ start ++ source) (all_nothing 0 first.pre_start pre_all) ∙ ap (λ l. l ++ source) (all_nothing 0 first.start start_all)),
        subst (λ b. AreReplays until b (requests_after 0 requests) rest.instants) first.bus (subst (λ rs. AreReplays until (is.begun).bus rs rest.instants) first.requests rest.replays),
      );
      are = ap (λ b. logged b rest.instants) (sym first.bus) ∙ rest.are ∙ sym (frames_of_run is.first (rounds_of is.instants ++ is.stop) is.stop rounds is.instants (ap frames_in first.are) (ap frames_in (is.ending).are) refl is.are);
    }
