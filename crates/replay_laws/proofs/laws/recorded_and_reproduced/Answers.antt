-- The log of the first run is well spaced, so the second reproduces it.
use Rattle.run_meaning.specs.Steps.{entries, steps}
use Rattle.replay_laws.specs.Log.{log_of}
use Rattle.replay_laws.proofs.laws.recorded_and_reproduced.Goals as goal

pub returns : goal.returns
returns g c names bit epoch until item replay nodes others keys further requests rounds again after end picks others_picks timed short small name run tasks asked is epoch_is second nothing =
    let log = log_of names epoch (entries (steps rounds picks)) in
    let spaced = c.recorded.ensures names bit epoch until nodes keys requests rounds after picks run tasks asked in
    c.reproduced.ensures names bit epoch until log item replay others further again end others_picks timed short small name spaced is epoch_is second nothing
