-- Which nodes with sources do each of their tasks.
use Rattle.std.specs.Prelude.{◌≡◌, []}
use Rattle.timer_queue.specs.Timers.{IsTimers}
use Rattle.node_rounds.specs.Reaction.{NodeState}
use Rattle.capl_meaning.specs.Offences.{offences_of}
use Rattle.source_laws.specs.Reaction.{HasItsTimers, SourceMemory}

-- the source of a node is accepted, and its timers are those of the source
pub record IsSoundSource (node : NodeState SourceMemory) : Type 0 where
  pub accepted : offences_of node.memory.base node.memory.program ≡ []
  pub has_timers : HasItsTimers node
  pub timers : IsTimers node.timers
