-- The laws are lemmas.
use Rattle.sim_inputs.proofs.OneReading.{not_both, one_accepted, one_blame}
use Rattle.sim_inputs.proofs.laws.one_reading.Goals as goal

pub returns-clause-accepted : goal.returns-clause-accepted
returns-clause-accepted c = one_accepted c.one_replay.ensures.replay

pub returns-clause-blame : goal.returns-clause-blame
returns-clause-blame c = one_blame c.one_replay.ensures.bad_line

pub returns-clause-not_both : goal.returns-clause-not_both
returns-clause-not_both c = not_both c.one_replay.ensures.not_both
