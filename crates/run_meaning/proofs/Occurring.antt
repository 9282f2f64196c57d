-- What comes in a run can occur: the keys, the requests of the replay, and the frames that the bus carries.
use Rattle.std.proofs.Common.{ℕ, ◌+◌, inl, inr, List, [], ◌∷◌, Option, Some, None, All, IfSome, sym, subst}
use Rattle.std.specs.Prelude.{nat_le, take}
use Rattle.std.specs.List.{AllByRecursion, prefix_len}
use Rattle.std.proofs.lemmas.List.Elements.{All-drop, All-head, All-map, All-tail, All-take}
use Rattle.can_frame.specs.Frame.{FrameFields}
use Rattle.can_bus.specs.declared.bus.Ended.{Ended}
use Rattle.can_bus.specs.Laws.{FramesCome}
use Rattle.can_bus.specs.Meaning.{BusMeaning}
use Rattle.scenario.specs.declared.scenario.KeyItem.{KeyItem}
use Rattle.replay_node.specs.declared.replay.Request.{Request}
use Rattle.node_rounds.specs.declared.occurrence.Occurrence.{Occurrence}
use Rattle.node_rounds.specs.declared.occurrence.Occurrence.TheVariants as happens
use Rattle.node_rounds.specs.Effects.{after_requests}
use Rattle.node_rounds.specs.Round.{Task}
use Rattle.run_meaning.specs.Run.{after_all_tasks, after_tasks}
use Rattle.run_meaning.specs.Live.{CanBeSeen}
use Rattle.run_meaning.specs.Moments.{keys_after, keys_at, requests_after, requests_at}

-- ---- keys and requests

-- there can be each key that is still to come
abbrev pub KeysCan : (Occurrence → Type 0) → List KeyItem → Type 0
KeysCan can keys = All (λ key. can (happens.Key key.key)) keys

-- the frame of each request of the replay that is still to come can be seen
abbrev pub ReplayCan : (Occurrence → Type 0) → List Request → Type 0
ReplayCan can requests = All (λ request. CanBeSeen can request.frame) requests

-- the frames that a task asks for can be seen
abbrev pub RequestsCan : (Occurrence → Type 0) → Task → Type 0
RequestsCan can task = All (CanBeSeen can) task.requests

-- each frame that a bus carries can be seen
abbrev pub CarriesSeen : {B : Type 0} → (Occurrence → Type 0) → BusMeaning B → B → Type 0
CarriesSeen {B} can bus b = (frame : FrameFields) → bus.carries b frame → CanBeSeen can frame

module _ (can : Occurrence → Type 0) (now : ℕ) where
  -- the keys of a moment, and those after it
  pub keys_at_can : (keys : List KeyItem) → KeysCan can keys → All (λ key. can (happens.Key key)) (keys_at now keys)
  keys_at_can keys are =
      let up_to : ℕ = prefix_len (λ (key : KeyItem). nat_le key.at now) keys in
      All-map (λ key. can (happens.Key key)) (λ (key : KeyItem). key.key) (take up_to keys) (All-take (λ (key : KeyItem). can (happens.Key key.key)) up_to keys are)

  pub keys_after_can : (keys : List KeyItem) → KeysCan can keys → KeysCan can (keys_after now keys)
  keys_after_can keys are = All-drop (λ (key : KeyItem). can (happens.Key key.key)) (prefix_len (λ (key : KeyItem). nat_le key.at now) keys) keys are

  -- the requests of a moment, and those after it
  pub requests_at_can : (requests : List Request) → ReplayCan can requests → All (CanBeSeen can) (requests_at now requests)
  requests_at_can requests are =
      let up_to : ℕ = prefix_len (λ (one : Request). nat_le one.at now) requests in
      All-map (CanBeSeen can) (λ (one : Request). one.frame) (take up_to requests) (All-take (λ (one : Request). CanBeSeen can one.frame) up_to requests are)

  pub requests_after_can : (requests : List Request) → ReplayCan can requests → ReplayCan can (requests_after now requests)
  requests_after_can requests are = All-drop (λ (one : Request). CanBeSeen can one.frame) (prefix_len (λ (one : Request). nat_le one.at now) requests) requests are

-- ---- frames on a bus

module _ {B : Type 0} (can : Occurrence → Type 0) (bus : BusMeaning B) (come : FramesCome bus) where
  -- the frame that ends on a bus can be seen, where those that it carries can
  pub ended_seen : (b : B) (now : ℕ) → CarriesSeen can bus b → IfSome (bus.ended b now) (λ e. CanBeSeen can e.frame)
  ended_seen b now all = go (bus.ended b now) (come.ended b now)
    where
      go : (o : Option Ended) → IfSome o (λ e. bus.carries b e.frame) → IfSome o (λ e. CanBeSeen can e.frame)
      go None on = tt
      go (Some e) on = all e.frame on

  pub finish_seen : (b : B) (now : ℕ) → CarriesSeen can bus b → CarriesSeen can bus (bus.after_finish b now)
  finish_seen b now all frame on = all frame (come.finish b now frame on)

  pub arbitrate_seen : (b : B) (now : ℕ) → CarriesSeen can bus b → CarriesSeen can bus (bus.after_arbitration b now)
  arbitrate_seen b now all frame on = all frame (come.arbitrate b now frame on)

  request_seen : (b : B) (node : ℕ) (frame : FrameFields) → CanBeSeen can frame → CarriesSeen can bus b → CarriesSeen can bus (bus.after_request b node frame)
  request_seen b node frame seen all other on = elim (come.request b node frame other on) [
    | inl same ↦ subst (CanBeSeen can) (sym same) seen
    | inr before ↦ all other before
  ]

  -- after requests of frames that can be seen a bus carries such frames alone, if it did before
  pub requests_seen : (node : ℕ) (frames : List FrameFields) (b : B) → All (CanBeSeen can) frames → CarriesSeen can bus b → CarriesSeen can bus (after_requests bus.after_request b node frames)
  requests_seen node [] b seen all = all
  requests_seen node (frame ∷ frames) b seen all =
      requests_seen node frames (bus.after_request b node frame) (All-tail (CanBeSeen can) frame frames seen)
      (request_seen b node frame (All-head (CanBeSeen can) frame frames seen) all)

  pub tasks_seen : (node : ℕ) (tasks : List Task) (b : B) → AllByRecursion (RequestsCan can) tasks → CarriesSeen can bus b → CarriesSeen can bus (after_tasks bus.after_request b node tasks)
  tasks_seen node [] b seen all = all
  tasks_seen node (task ∷ tasks) b seen all =
      tasks_seen node tasks (after_requests bus.after_request b node task.requests) seen.1 (requests_seen node task.requests b seen.0 all)

  pub all_tasks_seen : (node : ℕ) (tasks : List (List Task)) (b : B) → AllByRecursion (AllByRecursion (RequestsCan can)) tasks → CarriesSeen can bus b
      → CarriesSeen can bus (after_all_tasks bus.after_request b node tasks)
  all_tasks_seen node [] b seen all = all
  all_tasks_seen node (own ∷ tasks) b seen all =
      all_tasks_seen (node + 1) tasks (after_tasks bus.after_request b node own) seen.1 (tasks_seen node own b seen.0 all)
