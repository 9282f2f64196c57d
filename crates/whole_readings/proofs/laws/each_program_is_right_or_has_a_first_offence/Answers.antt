-- The law is a lemma.
use Rattle.capl_meaning.specs.Offences.{offences_of}
use Rattle.whole_readings.proofs.Offences.{none_or_first}
use Rattle.whole_readings.proofs.laws.each_program_is_right_or_has_a_first_offence.Goals as goal

pub returns : goal.returns
returns c = λ base program. none_or_first (offences_of base program)
