-- The replays of a log that reads.
use Rattle.std.proofs.Common.{ℕ, List, refl}
use Rattle.log_line.specs.declared.line.Line.{Line}
use Rattle.replay_node.specs.Replay.{LogReads, entries_on, epoch_seconds, requests_from, skipped_on}
use Rattle.replay_node.specs.declared.replay.Replay.{Replay}
use Rattle.replay_check.specs.Replayable.{HasReplays}

-- a log that reads has each replay
pub replays_of : (log : List ℕ) (readings : List Line) → LogReads log readings → HasReplays log
replays_of log readings reads interface bit epoch =
    let entries = entries_on interface readings in
    let second : ℕ = epoch_seconds epoch entries in
    let replay : Replay = record { epoch = second; skipped = skipped_on interface readings; list = requests_from bit second 0 entries } in
    (replay, (readings, reads, record { epoch_is = refl; skipped_is = refl; list_is = refl }))
