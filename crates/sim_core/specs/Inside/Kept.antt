-- What a simulation keeps.
use Rattle.std.specs.Prelude.{◌≡◌, ◌≢◌, ℕ, ◌<◌, ◌≤◌, ◌^◌, false, length, All, None}
use Rattle.std.specs.List.{AllByRecursion}
use Rattle.can_frame.specs.Frame.{FrameFields}
use Rattle.can_bus.specs.Meaning.{BusMeaning}
use Rattle.node_rounds.specs.declared.occurrence.Occurrence.TheVariants.{Key}
use Rattle.node_rounds.specs.Round.{IsDone}
use Rattle.node_run.specs.Code.{code_reaction}
use Rattle.node_run.specs.Node.{NodeInRound}
use Rattle.node_run.specs.Sound.{CanOccur, IsSound}
use Rattle.run_meaning.specs.Live.{CanBeSeen, IsLater, IsReady, Stands}
use Rattle.sim_core.specs.Core.{CoreState, run_of, states_of}
use Rattle.sim_core.specs.declared.simulation.Phase.TheVariants.{New, Going, Over}

-- a node has nothing left to do in a round
abbrev pub IsIdle : NodeInRound → Type 0
IsIdle node = IsDone code_reaction node.moment node.doing

-- how a simulation stands at a moment before a round: all nodes are idle, sound and none is late, the bus
-- serves them and the replay, and carries real frames
pub record IsAtRest {B : Type 0} (bus : BusMeaning B) (now : ℕ) (core : CoreState B) : Type 0 where
  pub idle : All IsIdle core.nodes
  pub ready : AllByRecursion (IsReady IsSound now) (states_of core.nodes)
  pub serves : length core.nodes < bus.nodes core.bus
  pub frames : (frame : FrameFields) → bus.carries core.bus frame → CanBeSeen CanOccur frame

-- how a simulation stands of which nothing has happened yet
pub record IsFresh {B : Type 0} (bus : BusMeaning B) (core : CoreState B) : Type 0 where
  pub ready : AllByRecursion (IsReady IsSound 0) (states_of core.nodes)
  pub later : AllByRecursion (IsLater 0) (states_of core.nodes)
  pub sound_bus : bus.sound core.bus
  pub new_bus : bus.next_moment core.bus ≡ None
  pub frames : (frame : FrameFields) → bus.carries core.bus frame → CanBeSeen CanOccur frame
  pub keys_can : All (λ key. CanOccur (Key key.key)) core.keys
  pub requests_can : All (λ request. CanBeSeen CanOccur request.frame) core.requests
  pub at_zero : core.moment ≡ 0
  pub not_stopped : core.stops ≡ false

-- what a simulation keeps between its calls
pub record IsCore {B : Type 0} (bus : BusMeaning B) (core : CoreState B) : Type 0 where
  pub idle : core.phase ≢ Over → All IsIdle core.nodes
  pub serves : core.phase ≢ Over → length core.nodes < bus.nodes core.bus
  pub fresh : core.phase ≡ New → IsFresh bus core
  pub stands : core.phase ≡ Going → Stands IsSound CanOccur bus (run_of core)
  pub few : length core.nodes < 2 ^ 32
  pub in_time : core.until ≤ 2 ^ 63
  pub not_past : core.moment ≤ core.until
