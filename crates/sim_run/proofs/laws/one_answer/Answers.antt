-- The answer's law is a lemma.
use Rattle.sim_run.proofs.AnswerLemmas.{one_answer}
use Rattle.sim_run.proofs.laws.one_answer.Goals as goal

pub returns : goal.returns
returns c = one_answer c.one_reading.ensures.accepted c.one_reading.ensures.blame c.one_reading.ensures.not_both c.sources_have_one_run.ensures
