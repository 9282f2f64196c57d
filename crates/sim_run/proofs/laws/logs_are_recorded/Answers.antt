-- The log of a run of sources is well spaced.
use Rattle.sim_run.proofs.LogLemmas.{recorded_log}
use Rattle.sim_run.proofs.laws.logs_are_recorded.Goals as goal

pub returns : goal.returns
returns c = recorded_log c.sources_log_well_spaced_frames.ensures c.replays_can_be_logged.ensures
