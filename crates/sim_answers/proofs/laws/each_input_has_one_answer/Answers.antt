-- One answer is sim_run's, and that there is one is a lemma.
use Rattle.sim_answers.proofs.Answers.{some_answer}
use Rattle.sim_answers.proofs.laws.each_input_has_one_answer.Goals as goal

pub returns-clause-some : goal.returns-clause-some
returns-clause-some c = some_answer c.accepted_inputs_have_an_answer.ensures

pub returns-clause-no_other : goal.returns-clause-no_other
returns-clause-no_other c = c.one_answer.ensures
