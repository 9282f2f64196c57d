-- A run of nodes on one bus, from the round before the start to the round of the stop. The order of what
-- happens in an instant, and when a wish to stop counts, are this project's own; the bus is that of
-- ISO 11898-1, or any other.
use Rattle.std.specs.Prelude.{ℕ, List, [], ◌∷◌, fold, ◌+◌, ◌≡◌, ◌<◌, ◌≤◌, ◌==◌, Bool, true, false, ◌||◌, ◌++◌, length, Option, None, Some, IfSome, ⊤}
use Rattle.can_frame.specs.Frame.{FrameFields}
use Rattle.node_rounds.specs.Effects.{after_requests}
use Rattle.node_rounds.specs.Round.{Task, IsPart}
use Rattle.std.specs.List.{flat_map, list_any}
use Rattle.std.specs.Option.{option_map}
use Rattle.can_bus.specs.declared.bus.Ended.{Ended}
use Rattle.can_bus.specs.Meaning.{BusMeaning}
use Rattle.scenario.specs.declared.scenario.KeyItem.{KeyItem}
use Rattle.replay_node.specs.declared.replay.Request.{Request}
use Rattle.node_rounds.specs.declared.round.Round.{Round}
use Rattle.node_rounds.specs.declared.round.Seen.{Seen}
use Rattle.node_rounds.specs.Reaction.{Reacts}
use Rattle.run_meaning.specs.Moments.{keys_after, keys_at, next_of_all, requests_after, requests_at}
use Rattle.node_rounds.specs.declared.round.Round.TheVariants as round

-- ---- The bus after the tasks of nodes.

-- the bus after the requests of a node's tasks, in order
abbrev pub after_tasks : {B : Type 0} → (B → ℕ → FrameFields → B) → B → ℕ → List Task → B
after_tasks {B} after_request b node tasks =
    fold (λ before task. after_requests after_request before node task.requests) b tasks

-- the bus after the requests of the tasks of all nodes from a number on, node by node
abbrev pub after_all_tasks : {B : Type 0} → (B → ℕ → FrameFields → B) → B → ℕ → List (List Task) → B
after_all_tasks {B} after_request b node [] = b
after_all_tasks {B} after_request b node (tasks ∷ others) =
    after_all_tasks after_request (after_tasks after_request b node tasks) (node + 1) others

-- ---- The run.

-- a round that has passed: its moment, the frame that ended at it, where one did, and the tasks of each node
-- in order
pub record Passed : Type 0 where
  pub moment : ℕ
  pub ended : Option Ended
  pub tasks : List (List Task)

-- How a run stands: the nodes, the bus, the keys and the requests of the replay that are still to come, the
-- moment, and whether a node asked to stop.
pub record RunState (S B : Type 0) : Type 0 where
  pub nodes : List S
  pub bus : B
  pub keys : List KeyItem
  pub requests : List Request
  pub moment : ℕ
  pub stops : Bool

-- how a run stands, with these nodes in place of its own
abbrev pub with_nodes : {S T B : Type 0} → RunState S B → List T → RunState T B
with_nodes {S} {T} {B} s nodes = record {
  nodes = nodes;
  bus = s.bus;
  keys = s.keys;
  requests = s.requests;
  moment = s.moment;
  stops = s.stops;
}

-- ---- a round of all nodes

-- the frame that ended, as the node of a number sees it: it is sent by its own node, and received by others
abbrev pub seen_by : ℕ → Option Ended → Option Seen
seen_by node ended = option_map (λ e. record { frame = e.frame; sent = e.node == node }) ended

-- each node's part of a round, from a number on: these are the tasks of each, and so they stand afterwards
abbrev pub AreParts : {S : Type 0} → Reacts S → Round → ℕ → Option Ended → List ℕ → ℕ → List S
    → List (List Task) → List S → Type 0
AreParts {S} r round now ended keys number [] [] [] = ⊤
AreParts {S} r round now ended keys number (node ∷ nodes) (tasks ∷ others) (after ∷ afters) =
    IsPart r round now (seen_by number ended) keys node tasks after
    × AreParts r round now ended keys (number + 1) nodes others afters
AreParts {S} r round now ended keys number _ _ _ = ⊥

-- whether a task of a round asked to stop
abbrev pub ask_stop : List (List Task) → Bool
ask_stop tasks = list_any (λ own. list_any (λ task. task.stops) own) tasks

-- how a run stands after these tasks of a round, which leave the nodes so: their requests have come to the
-- bus, and a wish to stop stays
abbrev pub after_round : {S B : Type 0} → BusMeaning B → RunState S B → List (List Task) → List S
    → RunState S B
after_round {S} {B} bus s tasks nodes = record s {
  nodes = nodes;
  bus = after_all_tasks bus.after_request s.bus 0 tasks;
  stops = s.stops || ask_stop tasks;
}

-- A round of all nodes at the moment of a run, with a frame that ended and keys that are pressed: these are
-- the tasks of each node, and so the run stands afterwards.
pub record IsRound {S B : Type 0} (r : Reacts S) (bus : BusMeaning B) (round : Round) (ended : Option Ended)
    (keys : List ℕ) (before : RunState S B) (tasks : List (List Task)) (after : RunState S B) : Type 0 where
  pub nodes : List S
  pub parts : AreParts r round before.moment ended keys 0 before.nodes tasks nodes
  pub stands : after ≡ after_round bus before tasks nodes

-- ---- instants

-- how a run stands once it has asked the bus, at a moment, for a frame that ends
abbrev pub finished : {S B : Type 0} → BusMeaning B → ℕ → RunState S B → RunState S B
finished {S} {B} bus now s = record s { bus = bus.after_finish s.bus now; moment = now }

-- How a run stands after the rounds of an instant and what comes then: the requests of the replay, whose
-- number is the one behind those of the nodes, and arbitration. The keys and the requests up to the moment
-- are used up.
abbrev pub settled : {S B : Type 0} → BusMeaning B → RunState S B → RunState S B
settled {S} {B} bus s = record s {
  bus = bus.after_arbitration
      (after_requests bus.after_request s.bus (length s.nodes) (requests_at s.moment s.requests)) s.moment;
  keys = keys_after s.moment s.keys;
  requests = requests_after s.moment s.requests;
}

-- the second round of an instant, without keys, where the bus gave one more frame that ended; else none
abbrev pub IsSecond : {S B : Type 0} → Reacts S → BusMeaning B → Option Ended → RunState S B → List Passed
    → RunState S B → Type 0
IsSecond {S} {B} r bus None before rounds after = (rounds ≡ []) × (after ≡ before)
IsSecond {S} {B} r bus (Some ended) before rounds after =
    (tasks : List (List Task)) × IsRound r bus round.Moment (Some ended) [] before tasks after
    × (rounds ≡ record { moment = before.moment; ended = Some ended; tasks = tasks } ∷ [])

-- The rounds of an instant at a moment: that of the frame that ends, if one does, and of the keys of the
-- moment, and then that of one more frame, where the bus gives one.
pub record AreRounds {S B : Type 0} (r : Reacts S) (bus : BusMeaning B) (now : ℕ) (before : RunState S B)
    (rounds : List Passed) (after : RunState S B) : Type 0 where
  pub tasks : List (List Task)
  pub between : RunState S B
  pub more : List Passed
  pub first : IsRound r bus round.Moment (bus.ended before.bus now) (keys_at now before.keys)
      (finished bus now before) tasks between
  pub second : IsSecond r bus (bus.ended between.bus now) (finished bus now between) more after
  pub are : rounds ≡ record { moment = now; ended = bus.ended before.bus now; tasks = tasks } ∷ more

-- the next moment of a run
abbrev pub next_instant : {S B : Type 0} → Reacts S → BusMeaning B → RunState S B → Option ℕ
next_instant {S} {B} r bus s = next_of_all r bus s.nodes s.bus s.keys s.requests

-- One instant, at the next moment, where no node asked to stop and it is in time: its rounds, and what comes
-- after them.
pub record IsInstant {S B : Type 0} (r : Reacts S) (bus : BusMeaning B) (until : ℕ) (before : RunState S B)
    (rounds : List Passed) (after : RunState S B) : Type 0 where
  pub moment : ℕ
  pub end : RunState S B
  pub not_stopped : before.stops ≡ false
  pub is_next : next_instant r bus before ≡ Some moment
  pub in_time : moment ≤ until
  pub are_rounds : AreRounds r bus moment before rounds end
  pub stands : after ≡ settled bus end

-- instants, one after another
abbrev pub AreInstants : {S B : Type 0} → Reacts S → BusMeaning B → ℕ → RunState S B → List (List Passed)
    → RunState S B → Type 0
AreInstants {S} {B} r bus until before [] after = after ≡ before
AreInstants {S} {B} r bus until before (rounds ∷ instants) after =
    (between : RunState S B) × IsInstant r bus until before rounds between
    × AreInstants r bus until between instants after

-- ---- runs

-- how a run stands before all rounds
abbrev pub new_run : {S B : Type 0} → List S → B → List KeyItem → List Request → RunState S B
new_run {S} {B} nodes b keys requests =
    record { nodes = nodes; bus = b; keys = keys; requests = requests; moment = 0; stops = false }

-- a round with no frame that ended
abbrev pub quiet_round : ℕ → List (List Task) → Passed
quiet_round now tasks = record { moment = now; ended = None; tasks = tasks }

-- The instant at moment 0 of a new run: the round before the start, the round of the start with the keys of
-- the moment, and what comes after them.
pub record HasBegun {S B : Type 0} (r : Reacts S) (bus : BusMeaning B) (before : RunState S B)
    (rounds : List Passed) (after : RunState S B) : Type 0 where
  pub is_new : before ≡ new_run before.nodes before.bus before.keys before.requests
  pub before_start : List (List Task)
  pub between : RunState S B
  pub start : List (List Task)
  pub end : RunState S B
  pub pre_starts : IsRound r bus round.PreStart None [] before before_start between
  pub starts : IsRound r bus round.Start None (keys_at 0 before.keys) between start end
  pub stands : after ≡ settled bus end
  pub are : rounds ≡ quiet_round 0 before_start ∷ quiet_round 0 start ∷ []

-- The run ends at this moment: the present one, where a node asked to stop, and else the end moment, where
-- no further instant is in time. The arguments are whether a node asked to stop, the present moment, the
-- next one, and the end moment.
abbrev pub EndsAt : Bool → ℕ → Option ℕ → ℕ → ℕ → Type 0
EndsAt true present next until end = end ≡ present
EndsAt false present next until end = IfSome next (λ moment. until < moment) × (end ≡ until)

-- The end of a run after its instants: the round of the stop, at the moment at which the run ends. What its
-- tasks ask for comes to no bus.
pub record IsEnded {S B : Type 0} (r : Reacts S) (bus : BusMeaning B) (until : ℕ) (before : RunState S B)
    (rounds : List Passed) (after : RunState S B) : Type 0 where
  pub moment : ℕ
  pub tasks : List (List Task)
  pub nodes : List S
  pub ends : EndsAt before.stops before.moment (next_instant r bus before) until moment
  pub parts : AreParts r round.Stop moment None [] 0 before.nodes tasks nodes
  pub stands : after ≡ record before { moment = moment; nodes = nodes }
  pub are : rounds ≡ quiet_round moment tasks ∷ []

-- A run up to an end moment, from how it stands before all rounds: it begins, instants follow, and it ends.
-- These are its rounds, and so it stands at the end.
pub record IsRun {S B : Type 0} (r : Reacts S) (bus : BusMeaning B) (until : ℕ) (before : RunState S B)
    (rounds : List Passed) (after : RunState S B) : Type 0 where
  pub first : List Passed
  pub begun : RunState S B
  pub instants : List (List Passed)
  pub last : RunState S B
  pub stop : List Passed
  pub begins : HasBegun r bus before first begun
  pub goes : AreInstants r bus until begun instants last
  pub ending : IsEnded r bus until last stop after
  pub are : rounds ≡ first ++ (flat_map (λ instant. instant) instants ++ stop)
