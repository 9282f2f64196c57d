-- Silent sources reproduce a log.
use Rattle.sim_run.proofs.LogLemmas.{reproduced_log}
use Rattle.sim_run.proofs.laws.logs_are_reproduced.Goals as goal

pub returns : goal.returns
returns c = reproduced_log c.one_reading.ensures.accepted c.silent_sources_reproduce_a_log.ensures c.scenarios_can_be_replayed.ensures.interface c.scenarios_can_be_replayed.ensures.epoch
