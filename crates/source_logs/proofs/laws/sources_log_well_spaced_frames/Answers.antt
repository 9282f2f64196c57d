-- The frames of sources can be logged, so the log of their run is well spaced.
use Rattle.can_bus.specs.Bus.{new_bus}
use Rattle.run_meaning.specs.Run.{new_run}
use Rattle.source_logs.proofs.laws.sources_log_well_spaced_frames.Goals as goal

pub returns : goal.returns
returns c names bit epoch until nodes keys requests rounds after picks asked run =
    c.recorded.ensures names bit epoch until nodes keys requests rounds after picks run
    (c.sources_ask_for_what_a_log_can_carry.ensures until (new_run nodes (new_bus bit) keys requests) after rounds run) asked
