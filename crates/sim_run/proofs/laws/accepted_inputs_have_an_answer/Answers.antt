-- The law is a lemma.
use Rattle.sim_run.proofs.AnswerLemmas.{answer_there}
use Rattle.sim_run.proofs.laws.accepted_inputs_have_an_answer.Goals as goal

pub returns : goal.returns
returns c = answer_there c.sources_have_a_run.ensures
