-- The laws are lemmas.
use Rattle.sim_answers.proofs.Answers.{accepted_asks, accepted_or_blamed, blamed_asks, one_of_three}
use Rattle.sim_answers.proofs.laws.one_of_three_holds.Goals as goal

pub returns-clause-one : goal.returns-clause-one
returns-clause-one c = one_of_three

pub returns-clause-not_accepted : goal.returns-clause-not_accepted
returns-clause-not_accepted c = accepted_asks

pub returns-clause-not_blamed : goal.returns-clause-not_blamed
returns-clause-not_blamed c = blamed_asks

pub returns-clause-not_both : goal.returns-clause-not_both
returns-clause-not_both c = accepted_or_blamed c.one_reading.ensures.not_both
