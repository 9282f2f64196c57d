-- What is noted of offences.
use Rattle.check_names.proofs.FirstLemmas.{noted_append, noted_first, noted_none}
use Rattle.check_names.proofs.laws.the_first_is_noted.Goals as goal

pub returns-clause-first : goal.returns-clause-first
returns-clause-first c = λ offences offence is. noted_first offences offence is

pub returns-clause-none : goal.returns-clause-none
returns-clause-none c = λ offences is. noted_none offences is

pub returns-clause-parts : goal.returns-clause-parts
returns-clause-parts c = λ first one other. noted_append first one other
