-- When nodes do each task that they have, and how a run stands between two instants.
use Rattle.std.specs.Prelude.{◌≡◌, ℕ, ◌<◌, Bool, false, List, Option, All, IfSome, slice_get}
use Rattle.std.specs.List.{AllByRecursion}
use Rattle.std.specs.Option.{option_map}
use Rattle.can_bus.specs.Meaning.{BusMeaning}
use Rattle.can_frame.specs.Frame.{FrameFields}
use Rattle.scenario.specs.declared.scenario.KeyItem.{KeyItem}
use Rattle.replay_node.specs.declared.replay.Request.{Request}
use Rattle.timer_queue.specs.Timers.{IsTimers}
use Rattle.node_rounds.specs.declared.occurrence.Occurrence.{Occurrence}
use Rattle.node_rounds.specs.declared.occurrence.Occurrence.TheVariants.{Frame, Key, PreStart, Start, Stop, Timer}
use Rattle.node_rounds.specs.declared.occurrence.Trigger.{Trigger}
use Rattle.node_rounds.specs.Follows.{IsFor}
use Rattle.node_rounds.specs.Reaction.{Done, NodeState, NoneOverdue, Runner, reaction_of}
use Rattle.node_rounds.specs.Round.{Rest}
use Rattle.run_meaning.specs.Run.{RunState}

-- the moment of the next key
abbrev pub next_key : List KeyItem → Option ℕ
next_key keys = option_map (λ key. key.at) (slice_get keys 0)

-- the moment of the next request of the replay
abbrev pub next_request : List Request → Option ℕ
next_request requests = option_map (λ request. request.at) (slice_get requests 0)

-- a frame can be seen, by its sender and by others
abbrev pub CanBeSeen : (Occurrence → Type 0) → FrameFields → Type 0
CanBeSeen can frame = (sent : Bool) → can (Frame (record { frame = frame; sent = sent }))

-- Nodes of which something holds do each task that they have for an occurrence that there can be, and in one
-- way, and it holds of them still, with the same procedures. The frames that they ask for can be seen, and
-- there can be each occurrence that is no frame and no key.
pub record IsLive {M : Type 0} (runner : Runner M) (sound : NodeState M → Type 0)
    (can : Occurrence → Type 0) : Type 0 where
  pub timers : (s : NodeState M) → sound s → IsTimers s.timers
  pub does : (s : NodeState M) (trigger : Trigger) (now : ℕ) → sound s → can trigger.occurrence →
      IsFor ((reaction_of runner).procedures s) trigger →
      (done : Done (NodeState M)) × (reaction_of runner).does s trigger now done
  pub stays : (s : NodeState M) (trigger : Trigger) (now : ℕ) (done : Done (NodeState M)) → sound s →
      (reaction_of runner).does s trigger now done → sound done.after
  pub events : (s : NodeState M) (trigger : Trigger) (now : ℕ) (done : Done (NodeState M)) → sound s →
      (reaction_of runner).does s trigger now done → runner.events done.after.memory ≡ runner.events s.memory
  pub in_one_way : (s : NodeState M) (trigger : Trigger) (now : ℕ) (done other : Done (NodeState M)) →
      (reaction_of runner).does s trigger now done → (reaction_of runner).does s trigger now other →
      done ≡ other
  pub asks : (s : NodeState M) (trigger : Trigger) (now : ℕ) (done : Done (NodeState M)) → sound s →
      (reaction_of runner).does s trigger now done → All (CanBeSeen can) done.requests
  pub plain : can PreStart × can Start × can Stop × ((timer : ℕ) → can (Timer timer))

-- a trigger is for one of these procedures, if it has one, and for an occurrence that there can be
abbrev pub IsDue : (Occurrence → Type 0) → (Occurrence → List ℕ) → Trigger → Type 0
IsDue can procedures trigger = IsFor procedures trigger × can trigger.occurrence

-- so is each trigger that a node has left to do
abbrev pub AreDue : (Occurrence → Type 0) → (Occurrence → List ℕ) → Rest → Type 0
AreDue can procedures rest =
    AllByRecursion (IsDue can procedures) rest.first × AllByRecursion (IsDue can procedures) rest.last

-- a node is sound, and if it is not halted none of its timers was due before a moment
pub record IsReady {M : Type 0} (sound : NodeState M → Type 0) (now : ℕ) (s : NodeState M) : Type 0 where
  pub is_sound : sound s
  pub on_time : s.is_halted ≡ false → NoneOverdue now s.timers

-- if a node is not halted, all its timers are due later than a moment
abbrev pub IsLater : {M : Type 0} → ℕ → NodeState M → Type 0
IsLater {M} now s = s.is_halted ≡ false → All (λ setting. now < setting.due) s.timers.settings

-- How a run stands between two instants: the nodes are sound, all that is to come comes later, and the frames
-- and the keys among it can occur.
pub record Stands {M B : Type 0} (sound : NodeState M → Type 0) (can : Occurrence → Type 0)
    (bus : BusMeaning B) (s : RunState (NodeState M) B) : Type 0 where
  pub ready : AllByRecursion (IsReady sound s.moment) s.nodes
  pub later : AllByRecursion (IsLater s.moment) s.nodes
  pub sound_bus : bus.sound s.bus
  pub bus_later : IfSome (bus.next_moment s.bus) (λ due. s.moment < due)
  pub keys_later : IfSome (next_key s.keys) (λ due. s.moment < due)
  pub requests_later : IfSome (next_request s.requests) (λ due. s.moment < due)
  pub frames : (frame : FrameFields) → bus.carries s.bus frame → CanBeSeen can frame
  pub keys_can : All (λ key. can (Key key.key)) s.keys
  pub requests_can : All (λ request. CanBeSeen can request.frame) s.requests
