-- Which logs can be replayed.
use Rattle.std.specs.Prelude.{ℕ, List}
use Rattle.replay_node.specs.Replay.{IsReplay}
use Rattle.replay_node.specs.declared.replay.Replay.{Replay}
use Rattle.scenario.specs.declared.scenario.Epoch.{Epoch}

-- a log has a replay on each interface, for each time of a bit and each epoch
abbrev pub HasReplays : List ℕ → Type 0
HasReplays log =
    (interface : List ℕ) (bit : ℕ) (epoch : Epoch) →
    (replay : Replay) × IsReplay log interface bit epoch replay
