-- What a run logs, as its bus has it: whatever the nodes do, its frames leave the wire at instants up to the end
-- moment, and each was asked for.
use Rattle.std.proofs.Common.{◌≡◌, ℕ, ◌+◌, ◌≤◌, List, [], ◌∷◌, ◌++◌, refl, sym, ap, subst, ◌∙◌, arith}
use Rattle.std.specs.Prelude.{All, nat_le, take}
use Rattle.std.specs.List.{prefix_len}
use Rattle.std.proofs.lemmas.List.Elements.{All-nil, All-cons, All-head, All-tail, All-append, All-map, All-take, All-drop}
use Rattle.can_frame.specs.Frame.{FrameFields}
use Rattle.can_bus.specs.Bus.{BusState, new_bus, ended, one_channel}
use Rattle.scenario.specs.declared.scenario.KeyItem.{KeyItem}
use Rattle.replay_node.specs.declared.replay.Request.{Request}
use Rattle.node_rounds.specs.Reaction.{Reacts}
use Rattle.node_rounds.specs.Round.{Task}
use Rattle.run_meaning.specs.Moments.{requests_at, requests_after}
use Rattle.run_meaning.specs.Run.{AreInstants, IsRun, Passed, RunState, new_run, quiet_round}
use Rattle.replay_laws.specs.Tasks.{AllTasks}
use Rattle.replay_laws.proofs.Instants.{Logged, Ask, Instant, logged_at, logged}
use Rattle.replay_laws.proofs.Replaying.{asks_of}
use Rattle.replay_laws.proofs.Projection.{asks_by, asks_by_all, one_instant, first_instant, frames_in, rounds_of, frames_of_run}

-- ---- tasks of some of the rounds

-- what holds of the tasks of rounds holds of those of the first ones
pub tasks_first : (X : Task → Type 0) (first more : List Passed) → AllTasks X (first ++ more) → AllTasks X first
tasks_first X [] more all = All-nil _
tasks_first X (p ∷ first) more all =
    let Holds : Passed → Type 0 = λ passed. All (λ tasks. All X tasks) passed.tasks in
    All-cons Holds p first (All-head Holds p (first ++ more) all) (tasks_first X first more (All-tail Holds p (first ++ more) all))

-- and of those behind them
pub tasks_more : (X : Task → Type 0) (first more : List Passed) → AllTasks X (first ++ more) → AllTasks X more
tasks_more X [] more all = all
tasks_more X (p ∷ first) more all = tasks_more X first more (All-tail (λ (passed : Passed). All (λ tasks. All X tasks) passed.tasks) p (first ++ more) all)

-- ---- what holds of each frame that is asked for
module _ (P : FrameFields → Type 0) where
  abbrev AskP : Ask → Type 0
  AskP ask = P ask.frame

  abbrev RequestP : Request → Type 0
  RequestP request = P request.frame

  abbrev TaskP : Task → Type 0
  TaskP task = All P task.requests

  frames_hold : (node : ℕ) (frames : List FrameFields) → All P frames → All AskP (asks_of node frames)
  frames_hold node frames all = All-map AskP (λ (frame : FrameFields). record { node = node; frame = frame }) frames all

  own_hold : (node : ℕ) (tasks : List Task) → All TaskP tasks → All AskP (asks_by node tasks)
  own_hold node [] all = All-nil _
  own_hold node (task ∷ tasks) all =
      All-append AskP (asks_of node task.requests) (asks_by node tasks) (frames_hold node task.requests (All-head TaskP task tasks all)) (own_hold node tasks (All-tail TaskP task tasks all))

  all_hold : (node : ℕ) (tasks : List (List Task)) → All (λ own. All TaskP own) tasks → All AskP (asks_by_all node tasks)
  all_hold node [] all = All-nil _
  all_hold node (own ∷ tasks) all =
      All-append AskP (asks_by node own) (asks_by_all (node + 1) tasks) (own_hold node own (All-head (λ o. All TaskP o) own tasks all))
      (all_hold (node + 1) tasks (All-tail (λ o. All TaskP o) own tasks all))

  at_hold : (now : ℕ) (rs : List Request) → All RequestP rs → All P (requests_at now rs)
  at_hold now rs all =
      let up_to : ℕ = prefix_len (λ (r : Request). nat_le r.at now) rs in All-map P (λ (r : Request). r.frame) (take up_to rs) (All-take RequestP up_to rs all)

  after_hold : (now : ℕ) (rs : List Request) → All RequestP rs → All RequestP (requests_after now rs)
  after_hold now rs all = All-drop RequestP (prefix_len (λ (r : Request). nat_le r.at now) rs) rs all

  instant_hold : (node now : ℕ) (tasks : List (List Task)) (rs : List Request) → All (λ own. All TaskP own) tasks → All RequestP rs → All AskP (asks_by_all 0 tasks ++ asks_of node (requests_at now rs))
  instant_hold node now tasks rs all requests =
      All-append AskP (asks_by_all 0 tasks) (asks_of node (requests_at now rs)) (all_hold 0 tasks all) (frames_hold node (requests_at now rs) (at_hold now rs requests))

  -- A bus logs these frames at instants up to a last moment, at which such frames are asked for.
  pub record IsSeen (last : ℕ) (s : BusState) (frames : List Logged) : Type 0 where
    pub instants : List Instant
    pub in_time : All (λ i. i.moment ≤ last) instants
    pub asks : All (λ i. All AskP i.asks) instants
    pub are : logged s instants ≡ frames

  instants_seen : {S : Type 0} (r : Reacts S) (until : ℕ) (before : RunState S BusState) (rounds : List (List Passed)) (after : RunState S BusState) → AreInstants r one_channel until before rounds after
      → AllTasks TaskP (rounds_of rounds) → All RequestP before.requests → IsSeen until before.bus (frames_in (rounds_of rounds))
  instants_seen r until before [] after is tasks requests = record { instants = []; in_time = All-nil _; asks = All-nil _; are = refl }
  instants_seen {S} r until before (p ∷ ps) after is tasks requests =
      let between = is.0 in
      let now = (is.1).moment in
      let one = one_instant r until before p between is.1 in
      let passed : Passed = record { moment = now; ended = ended before.bus now; tasks = one.tasks } in
      let Holds : Passed → Type 0 = λ q. All (λ own. All TaskP own) q.tasks in
      let all : AllTasks TaskP (passed ∷ rounds_of ps) = subst (λ q. AllTasks TaskP (q ++ rounds_of ps)) one.are tasks in
      let rest = instants_seen r until between ps after is.2 (All-tail Holds passed (rounds_of ps) all) (subst (λ rs. All RequestP rs) (sym one.requests) (after_hold now before.requests requests)) in
      let i : Instant = record { moment = now; asks = asks_by_all 0 one.tasks ++ asks_of one.node (requests_at now before.requests) } in
      record {
        instants = i ∷ rest.instants;
        in_time = All-cons (λ j. j.moment ≤ until) i rest.instants (is.1).in_time rest.in_time;
        asks = All-cons (λ j. All AskP j.asks) i rest.instants (instant_hold one.node now one.tasks before.requests (All-head Holds passed (rounds_of ps) all) requests) rest.asks;
        are = ap (λ l. logged_at now (ended before.bus now) ++ l) (ap (λ b. logged b rest.instants) (sym one.bus) ∙ rest.are) ∙ ap (λ q. frames_in (q ++ rounds_of ps)) (sym one.are);
      }

  -- a run is seen so
  pub run_seen : {S : Type 0} (r : Reacts S) (until bit : ℕ) (nodes : List S) (keys : List KeyItem) (requests : List Request) (rounds : List Passed) (after : RunState S BusState)
      → IsRun r one_channel until (new_run nodes (new_bus bit) keys requests) rounds after → AllTasks TaskP rounds → All RequestP requests → IsSeen until (new_bus bit) (frames_in rounds)
  run_seen {S} r until bit nodes keys requests rounds after is tasks all =
      let before : RunState S BusState = new_run nodes (new_bus bit) keys requests in
      let first = first_instant r before is.first is.begun refl is.begins in
      let Holds : Passed → Type 0 = λ q. All (λ own. All TaskP own) q.tasks in
      let own : AllTasks TaskP (is.first ++ (rounds_of is.instants ++ is.stop)) = subst (AllTasks TaskP) is.are tasks in
      let begun : AllTasks TaskP (quiet_round 0 first.pre_start ∷ quiet_round 0 first.start ∷ []) = subst (AllTasks TaskP) first.are (tasks_first TaskP is.first (rounds_of is.instants ++ is.stop) own) in
      let more : AllTasks TaskP (rounds_of is.instants ++ is.stop) = tasks_more TaskP is.first (rounds_of is.instants ++ is.stop) own in
      let rest = instants_seen r until is.begun is.instants is.last is.goes (tasks_first TaskP (rounds_of is.instants) is.stop more)
      (subst (λ rs. All RequestP rs) (sym first.requests) (after_hold 0 requests all)) in
      let pre = asks_by_all 0 first.pre_start in
      let start = asks_by_all 0 first.start in
      let source = asks_of first.node (requests_at 0 requests) in
      let i : Instant = record { moment = 0; asks = pre ++ start ++ source } in
      let pre_all = All-head Holds (quiet_round 0 first.pre_start) (quiet_round 0 first.start ∷ []) begun in
      let start_all = All-head Holds (quiet_round 0 first.start) [] (All-tail Holds (quiet_round 0 first.pre_start) (quiet_round 0 first.start ∷ []) begun) in
      record {
        instants = i ∷ rest.instants;
        in_time = All-cons (λ j. j.moment ≤ until) i rest.instants (omega arith) rest.in_time;
        asks = All-cons (λ j. All AskP j.asks) i rest.instants
            (All-append AskP (pre ++ start) source (All-append AskP pre start (all_hold 0 first.pre_start pre_all) (all_hold 0 first.start start_all))
            (frames_hold first.node (requests_at 0 requests) (at_hold 0 requests all)))
            rest.asks;
        are = ap (λ b. logged b rest.instants) (sym first.bus) ∙ rest.are ∙ sym (frames_of_run is.first (rounds_of is.instants ++ is.stop) is.stop rounds is.instants (ap frames_in first.are) (ap frames_in (is.ending).are) refl is.are);
      }
