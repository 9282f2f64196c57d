-- The law is a lemma.
use Rattle.sim_answers.proofs.Answers.{whole_answer}
use Rattle.sim_answers.proofs.laws.commands_without_a_blame_have_a_whole_answer.Goals as goal

pub returns : goal.returns
returns c = whole_answer c.accepted_inputs_have_an_answer.ensures
