-- What holds of each node that is loaded, and of what its tasks leave; and which occurrences there can be.
use Rattle.std.specs.Prelude.{◌≡◌, ◌<◌, length, ⊤}
use Rattle.can_frame.specs.Frame.{IsFrame}
use Rattle.timer_queue.specs.Timers.{IsTimers}
use Rattle.bytecode.specs.Runs.{HoldKinds}
use Rattle.bytecode.specs.Verified.{IsVerified}
use Rattle.node_rounds.specs.declared.occurrence.Occurrence.{Occurrence}
use Rattle.node_rounds.specs.declared.occurrence.Occurrence.TheVariants.{Frame, Key}
use Rattle.node_rounds.specs.Reaction.{NodeState}
use Rattle.node_run.specs.Code.{CodeMemory}

-- A sound node: its code is verified, its cells hold numbers of the code's kinds, and it has the timers of
-- the code, with settings that timers have.
pub record IsSound (s : NodeState CodeMemory) : Type 0 where
  pub verified : IsVerified s.memory.code
  pub cells_held : HoldKinds s.memory.code.cells s.memory.cells
  pub as_many : s.timers.count ≡ length s.memory.code.timers
  pub valid : IsTimers s.timers

-- an occurrence that there can be: a frame is a classic CAN frame, and a key is one of 256
abbrev pub CanOccur : Occurrence → Type 0
CanOccur (Frame seen) = IsFrame seen.frame
CanOccur (Key key) = key < 256
CanOccur occurrence = ⊤
