-- Nodes that do each task have a run, on each bus that keeps the laws of buses.
use Rattle.std.proofs.Common.{◌≡◌, ℕ, zero, suc, ◌+◌, ◌<◌, ◌≤◌, inl, inr, min, Bool, true, false, List, [], ◌∷◌, ◌++◌, length, Option, Some, None, All, IfSome, refl, ap, sym, subst, ◌∙◌, append_assoc, arith}
use Rattle.std.specs.Prelude.{if◌then◌else◌}
use Rattle.std.specs.List.{AllByRecursion, flat_map}
use Rattle.std.specs.Option.{option_map_or}
use Rattle.std.proofs.lemmas.Bool.{cases_lt}
use Rattle.std.proofs.lemmas.List.Elements.{All-cons, All-head, All-nil, All-tail}
use Rattle.can_frame.specs.Frame.{FrameFields}
use Rattle.can_bus.specs.declared.bus.Ended.{Ended}
use Rattle.can_bus.specs.Laws.{DueLater, DueLaterFromNothing, Follows, FramesCome, SoundStays, finish, nothing, request}
use Rattle.can_bus.specs.Meaning.{BusMeaning}
use Rattle.scenario.specs.declared.scenario.KeyItem.{KeyItem}
use Rattle.replay_node.specs.declared.replay.Request.{Request}
use Rattle.timer_queue.specs.declared.setting.Setting.{Setting}
use Rattle.timer_queue.specs.Timers.{least_due}
use Rattle.node_rounds.specs.declared.occurrence.Occurrence.{Occurrence}
use Rattle.node_rounds.specs.declared.occurrence.Occurrence.TheVariants as happens
use Rattle.node_rounds.specs.declared.round.Round.{Round}
use Rattle.node_rounds.specs.declared.round.Round.TheVariants as rounds
use Rattle.node_rounds.specs.Effects.{after_requests}
use Rattle.node_rounds.specs.Reaction.{NodeState, NoneOverdue, Reacts, Runner, next_due, reaction_of}
use Rattle.node_rounds.specs.Round.{Task}
use Rattle.run_meaning.specs.Run.{after_all_tasks, after_tasks, AreRounds, EndsAt, HasBegun, IsEnded, IsInstant, IsRound, IsRun, IsSecond, Passed, RunState, after_round, finished, new_run, next_instant, quiet_round, settled}
use Rattle.run_meaning.specs.Live.{CanBeSeen, IsLater, IsLive, IsReady, Stands, next_key, next_request}
use Rattle.run_meaning.specs.Moments.{keys_after, keys_at, least, next_timer, requests_after, requests_at}
use Rattle.run_meaning.specs.Rest.{RunsOn}
use Rattle.run_meaning.proofs.EachPart.{parts_ready, parts_there}
use Rattle.run_meaning.proofs.Occurring.{CarriesSeen, KeysCan, ReplayCan, all_tasks_seen, arbitrate_seen, ended_seen, finish_seen, keys_after_can, keys_at_can, requests_after_can, requests_at_can, requests_seen}
use Rattle.run_meaning.proofs.RunParts.{run_of_parts}
use Rattle.run_meaning.proofs.UpTo.{later_behind}

-- ---- moments

least_later : (now : ℕ) (one other : Option ℕ) → IfSome one (λ m. now < m) → IfSome other (λ m. now < m) → IfSome (least one other) (λ m. now < m)
least_later now None other a b = b
least_later now (Some m) None a b = a
least_later now (Some m) (Some n) a b = omega (arith, a, b)

least_bound : (now : ℕ) (one other : Option ℕ) → IfSome (least one other) (λ m. now ≤ m) → IfSome one (λ m. now ≤ m) × IfSome other (λ m. now ≤ m)
least_bound now None other h = (tt, h)
least_bound now (Some m) None h = (h, tt)
least_bound now (Some m) (Some n) h = (omega (arith, h), omega (arith, h))

due_later : (now : ℕ) (settings : List Setting) → All (λ x. now < x.due) settings → IfSome (least_due settings) (λ m. now < m)
due_later now [] all = tt
due_later now (s ∷ settings) all = go (least_due settings) (All-head (λ x. now < x.due) s settings all) (due_later now settings (All-tail (λ x. now < x.due) s settings all))
  where
    go : (o : Option ℕ) → now < s.due → IfSome o (λ m. now < m) → now < option_map_or (min s.due) o s.due
    go None here more = here
    go (Some m) here more = omega (arith, here, more)

due_bound : (now : ℕ) (settings : List Setting) → IfSome (least_due settings) (λ m. now ≤ m) → All (λ x. now ≤ x.due) settings
due_bound now [] h = All-nil (λ x. now ≤ x.due)
due_bound now (s ∷ settings) h =
    let both = go (least_due settings) h in All-cons (λ x. now ≤ x.due) s settings both.0 (due_bound now settings both.1)
  where
    go : (o : Option ℕ) → now ≤ option_map_or (min s.due) o s.due → (now ≤ s.due) × IfSome o (λ m. now ≤ m)
    go None h = (h, tt)
    go (Some m) h = (omega (arith, h), omega (arith, h))

node_later : {M : Type 0} (runner : Runner M) (now : ℕ) (s : NodeState M) → IsLater now s → IfSome (next_due (reaction_of runner) s) (λ m. now < m)
node_later runner now s later = go s.is_halted later
  where
    go : (b : Bool) → (b ≡ false → All (λ x. now < x.due) s.timers.settings) → IfSome (if b then None else least_due s.timers.settings) (λ m. now < m)
    go true later = tt
    go false later = due_later now s.timers.settings (later refl)

node_bound : {M : Type 0} (runner : Runner M) (now : ℕ) (s : NodeState M) → IfSome (next_due (reaction_of runner) s) (λ m. now ≤ m) → s.is_halted ≡ false → NoneOverdue now s.timers
node_bound runner now s h alive =
    due_bound now s.timers.settings (subst (λ b. IfSome (if b then None else least_due s.timers.settings) (λ m. now ≤ m)) alive h)

nodes_later : {M : Type 0} (runner : Runner M) (now : ℕ) (nodes : List (NodeState M)) → AllByRecursion (IsLater now) nodes → IfSome (next_timer (reaction_of runner) nodes) (λ m. now < m)
nodes_later runner now [] all = tt
nodes_later runner now (s ∷ nodes) all =
    least_later now (next_due (reaction_of runner) s) (next_timer (reaction_of runner) nodes) (node_later runner now s all.0) (nodes_later runner now nodes all.1)

-- nodes that are ready at a moment are so up to the next at which a timer is due
ready_until : {M : Type 0} (runner : Runner M) (sound : NodeState M → Type 0) (now other : ℕ) (nodes : List (NodeState M)) → AllByRecursion (IsReady sound now) nodes
    → IfSome (next_timer (reaction_of runner) nodes) (λ m. other ≤ m) → AllByRecursion (IsReady sound other) nodes
ready_until runner sound now other [] all h = tt
ready_until runner sound now other (s ∷ nodes) all h =
    let both = least_bound other (next_due (reaction_of runner) s) (next_timer (reaction_of runner) nodes) h in
    (record { is_sound = all.0.is_sound; on_time = node_bound runner other s both.0 }, ready_until runner sound now other nodes all.1 both.1)

keys_later : (now : ℕ) (keys : List KeyItem) → IfSome (next_key (keys_after now keys)) (λ m. now < m)
keys_later now keys = later_behind (λ (key : KeyItem). key.at) now keys

requests_later : (now : ℕ) (requests : List Request) → IfSome (next_request (requests_after now requests)) (λ m. now < m)
requests_later now requests = later_behind (λ (one : Request). one.at) now requests

-- ---- the bus

module _ {B : Type 0} (bus : BusMeaning B) (P : B → Type 0) (each : (b : B) (node : ℕ) (frame : FrameFields) → P b → P (bus.after_request b node frame)) where
  by_requests : (node : ℕ) (frames : List FrameFields) (b : B) → P b → P (after_requests bus.after_request b node frames)
  by_requests node [] b p = p
  by_requests node (frame ∷ frames) b p = by_requests node frames (bus.after_request b node frame) (each b node frame p)

  by_tasks : (node : ℕ) (tasks : List Task) (b : B) → P b → P (after_tasks bus.after_request b node tasks)
  by_tasks node [] b p = p
  by_tasks node (task ∷ tasks) b p = by_tasks node tasks (after_requests bus.after_request b node task.requests) (by_requests node task.requests b p)

  by_all : (node : ℕ) (tasks : List (List Task)) (b : B) → P b → P (after_all_tasks bus.after_request b node tasks)
  by_all node [] b p = p
  by_all node (own ∷ tasks) b p = by_all (node + 1) tasks (after_tasks bus.after_request b node own) (by_tasks node own b p)

-- ---- rounds

-- the nodes of a run are ready at its moment
abbrev pub AreReady : {M B : Type 0} → (NodeState M → Type 0) → RunState (NodeState M) B → Type 0
AreReady {M} {B} sound s = AllByRecursion (IsReady sound s.moment) s.nodes

-- the timers of the nodes of a run are due later than its moment
abbrev pub AreLater : {M B : Type 0} → RunState (NodeState M) B → Type 0
AreLater {M} {B} s = AllByRecursion (IsLater s.moment) s.nodes

-- what rounds at the moment of a run leave: the nodes are ready, their timers are later if they were, the moment
-- and what is to come from outside are as before, and the frames that the bus carries can be seen if they could
pub record Leaves {M B : Type 0} (sound : NodeState M → Type 0) (can : Occurrence → Type 0) (bus : BusMeaning B) (before after : RunState (NodeState M) B) : Type 0 where
  pub ready : AreReady sound after
  pub stays_later : AreLater before → AreLater after
  pub moment : after.moment ≡ before.moment
  pub keys : after.keys ≡ before.keys
  pub requests : after.requests ≡ before.requests
  pub frames : CarriesSeen can bus before.bus → CarriesSeen can bus after.bus

-- what every request keeps of a bus is kept in a round
pub bus_in_round : {S B : Type 0} (r : Reacts S) (bus : BusMeaning B) (P : B → Type 0) (each : (b : B) (node : ℕ) (frame : FrameFields) → P b → P (bus.after_request b node frame))
    (round : Round) (ended : Option Ended) (keys : List ℕ) (before : RunState S B) (tasks : List (List Task)) (after : RunState S B)
    → IsRound r bus round ended keys before tasks after → P before.bus → P after.bus
bus_in_round {S} {B} r bus P each round ended keys before tasks after is p =
    subst (λ (s : RunState S B). P s.bus) (sym is.stands) (by_all bus P each 0 tasks before.bus p)

-- and in a second round, if there is one
pub bus_in_second : {S B : Type 0} (r : Reacts S) (bus : BusMeaning B) (P : B → Type 0) (each : (b : B) (node : ℕ) (frame : FrameFields) → P b → P (bus.after_request b node frame))
    (ended : Option Ended) (before : RunState S B) (passed : List Passed) (after : RunState S B) → IsSecond r bus ended before passed after → P before.bus → P after.bus
bus_in_second {S} {B} r bus P each None before passed after is p = subst (λ (s : RunState S B). P s.bus) (sym is.1) p
bus_in_second {S} {B} r bus P each (Some ended) before passed after is p =
    bus_in_round r bus P each rounds.Moment (Some ended) [] before is.0 after is.1 p

module _ {M B : Type 0} (runner : Runner M) (sound : NodeState M → Type 0) (can : Occurrence → Type 0) (live : IsLive runner sound can) (bus : BusMeaning B) (come : FramesCome bus) where
  -- a round leaves ready nodes ready, and in one of a moment all their timers are later then
  pub round_ready : (round : Round) (ended : Option Ended) (keys : List ℕ) (before : RunState (NodeState M) B) (tasks : List (List Task)) (after : RunState (NodeState M) B)
      → IfSome ended (λ e. CanBeSeen can e.frame) → All (λ key. can (happens.Key key)) keys → AreReady sound before
      → IsRound (reaction_of runner) bus round ended keys before tasks after → Leaves sound can bus before after × (round ≡ rounds.Moment → AreLater after)
  round_ready round ended keys before tasks after frame_can keys_can ready is =
      let parts = parts_ready runner sound can live round before.moment ended keys 0 before.nodes tasks is.nodes frame_can keys_can ready is.parts in
      subst (λ (s : RunState (NodeState M) B). Leaves sound can bus before s × (round ≡ rounds.Moment → AreLater s)) (sym is.stands) (
        record {
          ready = parts.0;
          stays_later = parts.1;
          moment = refl;
          keys = refl;
          requests = refl;
          frames = all_tasks_seen can bus come 0 tasks before.bus parts.3;
        },
        parts.2,
      )

  -- ready nodes have a round
  pub round_there : (round : Round) (ended : Option Ended) (keys : List ℕ) (before : RunState (NodeState M) B)
      → IfSome ended (λ e. CanBeSeen can e.frame) → All (λ key. can (happens.Key key)) keys → AreReady sound before
      → (tasks : List (List Task)) × (after : RunState (NodeState M) B) × IsRound (reaction_of runner) bus round ended keys before tasks after
  round_there round ended keys before frame_can keys_can ready =
      let parts = parts_there runner sound can live round before.moment ended keys 0 before.nodes frame_can keys_can ready in
      (parts.0, after_round bus before parts.0 parts.1, record { nodes = parts.1; parts = parts.2; stands = refl })

  -- a second round, if there is one, leaves ready nodes ready
  pub second_ready : (ended : Option Ended) (before : RunState (NodeState M) B) (passed : List Passed) (after : RunState (NodeState M) B)
      → IfSome ended (λ e. CanBeSeen can e.frame) → AreReady sound before → IsSecond (reaction_of runner) bus ended before passed after → Leaves sound can bus before after
  second_ready None before passed after frame_can ready is = subst (λ (s : RunState (NodeState M) B). Leaves sound can bus before s) (sym is.1)
      (record { ready = ready; stays_later = λ later. later; moment = refl; keys = refl; requests = refl; frames = λ all. all })
  second_ready (Some ended) before passed after frame_can ready is =
      (round_ready rounds.Moment (Some ended) [] before is.0 after frame_can (All-nil (λ key. can (happens.Key key))) ready is.1).0

  -- ready nodes have a second round, or none is asked for
  pub second_there : (ended : Option Ended) (before : RunState (NodeState M) B) → IfSome ended (λ e. CanBeSeen can e.frame) → AreReady sound before
      → (passed : List Passed) × (after : RunState (NodeState M) B) × IsSecond (reaction_of runner) bus ended before passed after
  second_there None before frame_can ready = ([], before, (refl, refl))
  second_there (Some ended) before frame_can ready =
      let one = round_there rounds.Moment (Some ended) [] before frame_can (All-nil (λ key. can (happens.Key key))) ready in
      (record { moment = before.moment; ended = Some ended; tasks = one.0 } ∷ [], one.1, (one.0, one.2, refl))

  -- ---- the rounds of an instant

  -- the nodes of a run that stands at a moment are ready when the bus was asked at it
  again_ready : (now : ℕ) (s : RunState (NodeState M) B) → s.moment ≡ now → AreReady sound s → AreReady sound (finished bus now s)
  again_ready now s is ready = subst (λ m. AllByRecursion (IsReady sound m) s.nodes) is ready

  again_later : (now : ℕ) (s : RunState (NodeState M) B) → s.moment ≡ now → AreLater s → AreLater (finished bus now s)
  again_later now s is later = subst (λ m. AllByRecursion (IsLater m) s.nodes) is later

  -- what every request and every call of finish at the moment keeps of a bus is kept by the rounds of an instant
  pub bus_in_rounds : (P : B → Type 0) (each : (b : B) (node : ℕ) (frame : FrameFields) → P b → P (bus.after_request b node frame)) (now : ℕ)
      (again : (b : B) → P b → P (bus.after_finish b now)) (before : RunState (NodeState M) B) (passed : List Passed) (after : RunState (NodeState M) B)
      → AreRounds (reaction_of runner) bus now before passed after → P (bus.after_finish before.bus now) → P after.bus
  bus_in_rounds P each now again before passed after are p =
      let r = reaction_of runner in
      let one = bus_in_round r bus P each rounds.Moment (bus.ended before.bus now) (keys_at now before.keys) (finished bus now before) are.tasks are.between are.first p in
      bus_in_second r bus P each (bus.ended are.between.bus now) (finished bus now are.between) are.more after are.second (again are.between.bus one)

  -- the rounds of an instant leave nodes ready, with all timers later than its moment
  pub rounds_ready : (now : ℕ) (before : RunState (NodeState M) B) (passed : List Passed) (after : RunState (NodeState M) B) → CarriesSeen can bus before.bus
      → KeysCan can before.keys → AllByRecursion (IsReady sound now) before.nodes → AreRounds (reaction_of runner) bus now before passed after
      → Leaves sound can bus (finished bus now before) after × AreLater after
  rounds_ready now before passed after frames keys_can ready are =
      let between : RunState (NodeState M) B = are.between in
      let frame_can = ended_seen can bus come before.bus now frames in
      let one = round_ready rounds.Moment (bus.ended before.bus now) (keys_at now before.keys) (finished bus now before) are.tasks between frame_can
      (keys_at_can can now before.keys keys_can) ready are.first in
      let next : RunState (NodeState M) B = finished bus now between in
      let more_can = ended_seen can bus come between.bus now (one.0.frames (finish_seen can bus come before.bus now frames)) in
      let two = second_ready (bus.ended between.bus now) next are.more after more_can (again_ready now between one.0.moment one.0.ready) are.second in
      let later : AreLater after = two.stays_later (again_later now between one.0.moment (one.1 refl)) in (
        record {
          ready = two.ready;
          stays_later = λ before. later;
          moment = two.moment;
          keys = two.keys ∙ one.0.keys;
          requests = two.requests ∙ one.0.requests;
          frames = λ all. two.frames (finish_seen can bus come between.bus now (one.0.frames all));
        },
        later,
      )

  -- nodes that are ready at a moment have the rounds of an instant at it
  pub rounds_there : (now : ℕ) (before : RunState (NodeState M) B) → CarriesSeen can bus before.bus → KeysCan can before.keys → AllByRecursion (IsReady sound now) before.nodes
      → (passed : List Passed) × (after : RunState (NodeState M) B) × AreRounds (reaction_of runner) bus now before passed after
  rounds_there now before frames keys_can ready =
      let ended : Option Ended = bus.ended before.bus now in
      let frame_can = ended_seen can bus come before.bus now frames in
      let pressed_can = keys_at_can can now before.keys keys_can in
      let one = round_there rounds.Moment ended (keys_at now before.keys) (finished bus now before) frame_can pressed_can ready in
      let leaves = (round_ready rounds.Moment ended (keys_at now before.keys) (finished bus now before) one.0 one.1 frame_can pressed_can ready one.2).0 in
      let more_can = ended_seen can bus come one.1.bus now (leaves.frames (finish_seen can bus come before.bus now frames)) in
      let two = second_there (bus.ended one.1.bus now) (finished bus now one.1) more_can (again_ready now one.1 leaves.moment leaves.ready) in
      let passed : List Passed = record { moment = now; ended = ended; tasks = one.0 } ∷ two.0 in
      (passed, two.1, record { tasks = one.0; between = one.1; more = two.0; first = one.2; second = two.2; are = refl {a = passed} })

  -- ---- the next moment

  -- what is next in a run that stands so is later
  pub next_later : (s : RunState (NodeState M) B) → Stands sound can bus s → IfSome (next_instant (reaction_of runner) bus s) (λ m. s.moment < m)
  next_later s stands =
      let r = reaction_of runner in
      least_later s.moment (bus.next_moment s.bus) (least (next_timer r s.nodes) (least (next_key s.keys) (next_request s.requests))) stands.bus_later
      (least_later s.moment (next_timer r s.nodes) (least (next_key s.keys) (next_request s.requests)) (nodes_later runner s.moment s.nodes stands.later)
      (least_later s.moment (next_key s.keys) (next_request s.requests) stands.keys_later stands.requests_later))

  -- what is not before a moment
  next_bound : (s : RunState (NodeState M) B) (now : ℕ) → IfSome (next_instant (reaction_of runner) bus s) (λ m. now ≤ m)
      → IfSome (bus.next_moment s.bus) (λ m. now ≤ m) × IfSome (next_timer (reaction_of runner) s.nodes) (λ m. now ≤ m)
  next_bound s now h =
      let r = reaction_of runner in
      let one = least_bound now (bus.next_moment s.bus) (least (next_timer r s.nodes) (least (next_key s.keys) (next_request s.requests))) h in
      let two = least_bound now (next_timer r s.nodes) (least (next_key s.keys) (next_request s.requests)) one.1 in (one.0, two.0)

  -- the bus has nothing to do before the next moment of a run, and no timer is due before it
  next_is : (s : RunState (NodeState M) B) (now : ℕ) → next_instant (reaction_of runner) bus s ≡ Some now
      → IfSome (bus.next_moment s.bus) (λ m. now ≤ m) × IfSome (next_timer (reaction_of runner) s.nodes) (λ m. now ≤ m)
  next_is s now is = next_bound s now (subst (λ o. IfSome o (λ m. now ≤ m)) (sym is) (omega arith))

  -- at the next moment of a run that stands so the nodes are ready, and it is later
  pub ready_at : (s : RunState (NodeState M) B) (now : ℕ) → Stands sound can bus s → next_instant (reaction_of runner) bus s ≡ Some now
      → AllByRecursion (IsReady sound now) s.nodes × (s.moment < now)
  ready_at s now stands is =
      (ready_until runner sound s.moment now s.nodes stands.ready (next_is s now is).1, subst (λ o. IfSome o (λ m. s.moment < m)) is (next_later s stands))

  -- at the moment at which a run ends the nodes are ready
  pub ready_at_end : (until end : ℕ) (s : RunState (NodeState M) B) → Stands sound can bus s → EndsAt s.stops s.moment (next_instant (reaction_of runner) bus s) until end
      → AllByRecursion (IsReady sound end) s.nodes
  ready_at_end until end s stands ends = go s.stops ends
    where
      weaker : (o : Option ℕ) → IfSome o (λ m. until < m) → IfSome o (λ m. until ≤ m)
      weaker None h = tt
      weaker (Some m) h = omega (arith, h)

      go : (b : Bool) → EndsAt b s.moment (next_instant (reaction_of runner) bus s) until end → AllByRecursion (IsReady sound end) s.nodes
      go true is = subst (λ m. AllByRecursion (IsReady sound m) s.nodes) (sym is) stands.ready
      go false late = subst (λ m. AllByRecursion (IsReady sound m) s.nodes) (sym late.1)
          (ready_until runner sound s.moment until s.nodes stands.ready (next_bound s until (weaker (next_instant (reaction_of runner) bus s) late.0)).1)

  -- the end of a run that stands so, where it ends at a moment
  pub stop_there : (until end : ℕ) (s : RunState (NodeState M) B) → Stands sound can bus s → EndsAt s.stops s.moment (next_instant (reaction_of runner) bus s) until end
      → (passed : List Passed) × (after : RunState (NodeState M) B) × IsEnded (reaction_of runner) bus until s passed after
  stop_there until end s stands ends =
      let none_can = All-nil (λ key. can (happens.Key key)) in
      let one = parts_there runner sound can live rounds.Stop end None [] 0 s.nodes tt none_can (ready_at_end until end s stands ends) in (
        quiet_round end one.0 ∷ [],
        record s { moment = end; nodes = one.1 },
        record { moment = end; tasks = one.0; nodes = one.1; ends = ends; parts = one.2; stands = refl; are = refl },
      )

  -- ---- instants and ends

  -- nodes that are ready at 0 have the instant of the beginning
  pub begun_there : (nodes : List (NodeState M)) (b : B) (keys : List KeyItem) (requests : List Request) → KeysCan can keys → AllByRecursion (IsReady sound 0) nodes
      → (passed : List Passed) × (after : RunState (NodeState M) B) × HasBegun (reaction_of runner) bus (new_run nodes b keys requests) passed after
  begun_there nodes b keys requests keys_can ready =
      let before : RunState (NodeState M) B = new_run nodes b keys requests in
      let none_can = All-nil (λ key. can (happens.Key key)) in
      let pre = round_there rounds.PreStart None [] before tt none_can ready in
      let leaves = (round_ready rounds.PreStart None [] before pre.0 pre.1 tt none_can ready pre.2).0 in
      let start = round_there rounds.Start None (keys_at 0 keys) pre.1 tt (keys_at_can can 0 keys keys_can) leaves.ready in (
        quiet_round 0 pre.0 ∷ quiet_round 0 start.0 ∷ [],
        settled bus start.1,
        record { is_new = refl; before_start = pre.0; between = pre.1; start = start.0; end = start.1; pre_starts = pre.2; starts = start.2; stands = refl; are = refl },
      )

  -- a run that stands so has an instant, where there is a next moment in time and no node asked to stop
  pub instant_there : (until now : ℕ) (s : RunState (NodeState M) B) → Stands sound can bus s → s.stops ≡ false → next_instant (reaction_of runner) bus s ≡ Some now → now ≤ until
      → (passed : List Passed) × (after : RunState (NodeState M) B) × IsInstant (reaction_of runner) bus until s passed after
  instant_there until now s stands alive is in_time =
      let there = rounds_there now s stands.frames stands.keys_can (ready_at s now stands is).0 in (
        there.0,
        settled bus there.1,
        record { moment = now; end = there.1; not_stopped = alive; is_next = is; in_time = in_time; are_rounds = there.2; stands = refl },
      )

  -- what is left of a run that ends here is the round of the stop
  pub stop_first : (until : ℕ) (s : RunState (NodeState M) B) (passed : List Passed) (after : RunState (NodeState M) B) → IsEnded (reaction_of runner) bus until s passed after
      → RunsOn (reaction_of runner) bus until s passed after
  stop_first until s passed after stop = record { instants = []; last = s; stop = passed; goes = refl; ending = stop; are = refl }

  -- what is left of a run after an instant is left behind this instant before it
  pub instant_first : (until : ℕ) (s : RunState (NodeState M) B) (passed : List Passed) (between : RunState (NodeState M) B) (more : List Passed) (after : RunState (NodeState M) B)
      → IsInstant (reaction_of runner) bus until s passed between → RunsOn (reaction_of runner) bus until between more after → RunsOn (reaction_of runner) bus until s (passed ++ more) after
  instant_first until s passed between more after one rest = record {
    instants = passed ∷ rest.instants;
    last = rest.last;
    stop = rest.stop;
    goes = (between, one, rest.goes);
    ending = rest.ending;
    are = ap (λ (xs : List Passed). passed ++ xs) rest.are ∙ sym (append_assoc passed (flat_map (λ instant. instant) rest.instants) rest.stop);
  }

-- ---- instants

module _
    {M B : Type 0} (runner : Runner M) (sound : NodeState M → Type 0) (can : Occurrence → Type 0) (live : IsLive runner sound can) (bus : BusMeaning B) (come : FramesCome bus)
    (stays : SoundStays bus) (goes_on : DueLater bus) (begins : DueLaterFromNothing bus)
  where
    -- how a run stands after its rounds at a moment, once they are settled, where they lead from a bus that has
    -- nothing more to do at this moment after arbitration
    settled_stands : (start : B) (end : RunState (NodeState M) B) → AreReady sound end → AreLater end → CarriesSeen can bus end.bus → KeysCan can end.keys → ReplayCan can end.requests
        → bus.sound end.bus → Follows bus end.moment start end.bus
        → ((t : B) → Follows bus end.moment start t → IfSome (bus.next_moment (bus.after_arbitration t end.moment)) (λ due. end.moment < due)) → Stands sound can bus (settled bus end)
    settled_stands start end ready later frames keys_can requests_can sound_bus follows due =
        let node : ℕ = length end.nodes in
        let replayed : List FrameFields = requests_at end.moment end.requests in
        let t : B = after_requests bus.after_request end.bus node replayed in
        record {
          ready = ready;
          later = later;
          sound_bus = stays.arbitrate t end.moment (by_requests bus bus.sound stays.request node replayed end.bus sound_bus);
          bus_later = due t (by_requests bus (Follows bus end.moment start) (λ b number frame h. request b number frame h) node replayed end.bus follows);
          keys_later = keys_later end.moment end.keys;
          requests_later = requests_later end.moment end.requests;
          frames = arbitrate_seen can bus come t end.moment
              (requests_seen can bus come node replayed end.bus (requests_at_can can end.moment end.requests requests_can) frames);
          keys_can = keys_after_can can end.moment end.keys keys_can;
          requests_can = requests_after_can can end.moment end.requests requests_can;
        }

    -- how a run stands after its beginning
    pub begun_stands : (nodes : List (NodeState M)) (b : B) (keys : List KeyItem) (requests : List Request) (passed : List Passed) (after : RunState (NodeState M) B)
        → AllByRecursion (IsReady sound 0) nodes → AllByRecursion (IsLater 0) nodes → bus.sound b → bus.next_moment b ≡ None → KeysCan can keys → ReplayCan can requests
        → CarriesSeen can bus b → HasBegun (reaction_of runner) bus (new_run nodes b keys requests) passed after → Stands sound can bus after × (after.moment ≡ 0)
    begun_stands nodes b keys requests passed after ready later sound_b empty keys_can requests_can frames is =
        let r = reaction_of runner in
        let before : RunState (NodeState M) B = new_run nodes b keys requests in
        let none_can = All-nil (λ key. can (happens.Key key)) in
        let pre = (round_ready runner sound can live bus come rounds.PreStart None [] before is.before_start is.between tt none_can ready is.pre_starts).0 in
        let start = (round_ready runner sound can live bus come rounds.Start None (keys_at 0 keys) is.between is.start is.end tt (keys_at_can can 0 keys keys_can) pre.ready is.starts).0 in
        let moment : is.end.moment ≡ 0 = start.moment ∙ pre.moment in
        let each : (x : B) (node : ℕ) (frame : FrameFields) → Follows bus 0 b x → Follows bus 0 b (bus.after_request x node frame) = λ x node frame h. request x node frame h in
        let follows : Follows bus 0 b is.end.bus =
        bus_in_round r bus (Follows bus 0 b) each rounds.Start None (keys_at 0 keys) is.between is.start is.end is.starts
        (bus_in_round r bus (Follows bus 0 b) each rounds.PreStart None [] before is.before_start is.between is.pre_starts nothing) in
        let sound_end : bus.sound is.end.bus =
        bus_in_round r bus bus.sound stays.request rounds.Start None (keys_at 0 keys) is.between is.start is.end is.starts
        (bus_in_round r bus bus.sound stays.request rounds.PreStart None [] before is.before_start is.between is.pre_starts sound_b) in
        let due : (t : B) → Follows bus 0 b t → IfSome (bus.next_moment (bus.after_arbitration t 0)) (λ due. 0 < due) = λ t h. begins b t 0 sound_b empty h in
        subst (λ (s : RunState (NodeState M) B). Stands sound can bus s × (s.moment ≡ 0)) (sym is.stands) (
          settled_stands b is.end start.ready (start.stays_later (pre.stays_later later)) (start.frames (pre.frames frames))
              (subst (KeysCan can) (sym (start.keys ∙ pre.keys)) keys_can) (subst (ReplayCan can) (sym (start.requests ∙ pre.requests)) requests_can) sound_end
              (subst (λ m. Follows bus m b is.end.bus) (sym moment) follows)
              (subst (λ m. (t : B) → Follows bus m b t → IfSome (bus.next_moment (bus.after_arbitration t m)) (λ due. m < due)) (sym moment) due),
          moment,
        )

    -- how a run stands after an instant, which comes later than the one before and is in time
    pub instant_stands : (until : ℕ) (s : RunState (NodeState M) B) (passed : List Passed) (after : RunState (NodeState M) B) → Stands sound can bus s
        → IsInstant (reaction_of runner) bus until s passed after → Stands sound can bus after × (s.moment < after.moment) × (after.moment ≤ until)
    instant_stands until s passed after stands is =
        let now : ℕ = is.moment in
        let at = ready_at runner sound can live bus come s now stands is.is_next in
        let leaves = rounds_ready runner sound can live bus come now s passed is.end stands.frames stands.keys_can at.0 is.are_rounds in
        let moment : is.end.moment ≡ now = leaves.0.moment in
        let start : B = bus.after_finish s.bus now in
        let follows : Follows bus now start is.end.bus =
        bus_in_rounds runner sound can live bus come (Follows bus now start) (λ b node frame h. request b node frame h) now (λ b h. finish b h) s passed is.end is.are_rounds nothing in
        let sound_end : bus.sound is.end.bus =
        bus_in_rounds runner sound can live bus come bus.sound stays.request now (λ b h. stays.finish b now h) s passed is.end is.are_rounds (stays.finish s.bus now stands.sound_bus) in
        let due : (t : B) → Follows bus now start t → IfSome (bus.next_moment (bus.after_arbitration t now)) (λ due. now < due) =
        λ t h. goes_on s.bus t now stands.sound_bus (next_is runner sound can live bus come s now is.is_next).0 h in
        let later = at.1 in
        let in_time = is.in_time in
        subst (λ (x : RunState (NodeState M) B). Stands sound can bus x × (s.moment < x.moment) × (x.moment ≤ until)) (sym is.stands) (
          settled_stands start is.end leaves.0.ready leaves.1 (leaves.0.frames (finish_seen can bus come s.bus now stands.frames))
              (subst (KeysCan can) (sym leaves.0.keys) stands.keys_can) (subst (ReplayCan can) (sym leaves.0.requests) stands.requests_can) sound_end
              (subst (λ m. Follows bus m start is.end.bus) (sym moment) follows)
              (subst (λ m. (t : B) → Follows bus m start t → IfSome (bus.next_moment (bus.after_arbitration t m)) (λ due. m < due)) (sym moment) due),
          omega (arith, later, moment),
          omega (arith, in_time, moment),
        )

    -- ---- runs

    -- the rest of a run that stands so
    abbrev RestThere : ℕ → RunState (NodeState M) B → Type 0
    RestThere until s = (passed : List Passed) × (after : RunState (NodeState M) B) × RunsOn (reaction_of runner) bus until s passed after

    -- a run that ends at a moment has no further instant
    over_there : (until end : ℕ) (s : RunState (NodeState M) B) → Stands sound can bus s → EndsAt s.stops s.moment (next_instant (reaction_of runner) bus s) until end → RestThere until s
    over_there until end s stands ends =
        let stop = stop_there runner sound can live bus come until end s stands ends in (stop.0, stop.1, stop_first runner sound can live bus come until s stop.0 stop.1 stop.2)

    -- where it goes on by the next moment, if it goes on
    by_next : (until : ℕ) (s : RunState (NodeState M) B) → Stands sound can bus s → s.stops ≡ false
        → ((between : RunState (NodeState M) B) → Stands sound can bus between → s.moment < between.moment → between.moment ≤ until → RestThere until between) → (o : Option ℕ)
        → next_instant (reaction_of runner) bus s ≡ o → RestThere until s
    by_next until s stands alive more o is = go o is
      where
        late : IfSome (next_instant (reaction_of runner) bus s) (λ m. until < m) → RestThere until s
        late h = over_there until until s stands (subst (λ b. EndsAt b s.moment (next_instant (reaction_of runner) bus s) until until) (sym alive) (h, refl))

        go : (o : Option ℕ) → next_instant (reaction_of runner) bus s ≡ o → RestThere until s
        go None is = late (subst (λ o. IfSome o (λ m. until < m)) (sym is) tt)
        go (Some now) is = elim (cases_lt until now) [
          | inl after ↦ late (subst (λ o. IfSome o (λ m. until < m)) (sym is) after)
          | inr in_time ↦
              let one = instant_there runner sound can live bus come until now s stands alive is in_time in
              let known = instant_stands until s one.0 one.1 stands one.2 in
              let rest = more one.1 known.0 known.1 known.2 in
              (one.0 ++ rest.0, rest.1, instant_first runner sound can live bus come until s one.0 one.1 rest.0 rest.1 one.2 rest.2)
        ]

    by_stop : (until : ℕ) (s : RunState (NodeState M) B) → Stands sound can bus s
        → ((between : RunState (NodeState M) B) → Stands sound can bus between → s.moment < between.moment → between.moment ≤ until → RestThere until between) → (b : Bool) → s.stops ≡ b
        → RestThere until s
    by_stop until s stands more true is =
        over_there until s.moment s stands (subst (λ b. EndsAt b s.moment (next_instant (reaction_of runner) bus s) until s.moment) (sym is) refl)
    by_stop until s stands more false is = by_next until s stands is more (next_instant (reaction_of runner) bus s) refl

    rest_there : (fuel until : ℕ) (s : RunState (NodeState M) B) → Stands sound can bus s → until ≤ s.moment + fuel → RestThere until s
    rest_there zero until s stands few = by_stop until s stands (λ between known later in_time. absurd (omega (arith, later, in_time, few))) s.stops refl
    rest_there (suc fuel) until s stands few =
        by_stop until s stands (λ between known later in_time. rest_there fuel until between known (omega (arith, later, few))) s.stops refl

    -- a run that stands so goes on to an end
    pub goes_on_there : (until : ℕ) (s : RunState (NodeState M) B) → Stands sound can bus s
        → (passed : List Passed) × (after : RunState (NodeState M) B) × RunsOn (reaction_of runner) bus until s passed after
    goes_on_there until s stands = rest_there until until s stands (omega arith)

    -- nodes that do each task have a run from a new bus
    pub run_there : (until : ℕ) (nodes : List (NodeState M)) (b : B) (keys : List KeyItem) (requests : List Request) → AllByRecursion (IsReady sound 0) nodes
        → AllByRecursion (IsLater 0) nodes → bus.sound b → bus.next_moment b ≡ None → KeysCan can keys → ReplayCan can requests → CarriesSeen can bus b
        → (passed : List Passed) × (after : RunState (NodeState M) B) × IsRun (reaction_of runner) bus until (new_run nodes b keys requests) passed after
    run_there until nodes b keys requests ready later sound_b empty keys_can requests_can frames =
        let begun = begun_there runner sound can live bus come nodes b keys requests keys_can ready in
        let stands = (begun_stands nodes b keys requests begun.0 begun.1 ready later sound_b empty keys_can requests_can frames begun.2).0 in
        let rest = goes_on_there until begun.1 stands in
        (begun.0 ++ rest.0, rest.1, run_of_parts begun.0 rest.0 begun.1 begun.2 rest.2 refl)
