-- Silent sources ask for nothing, so their run reproduces the log.
use Rattle.can_bus.specs.Bus.{new_bus}
use Rattle.run_meaning.specs.Run.{new_run}
use Rattle.source_logs.proofs.laws.silent_sources_reproduce_a_log.Goals as goal

pub returns : goal.returns
returns c names bit epoch until log item replay nodes keys rounds after picks timed short small name silent spaced is epoch_is run =
    c.reproduced.ensures names bit epoch until log item replay nodes keys rounds after picks timed short small name spaced is epoch_is run
    (c.silent_sources_ask_for_nothing.ensures until (new_run nodes (new_bus bit) keys replay.list) after rounds silent run)
