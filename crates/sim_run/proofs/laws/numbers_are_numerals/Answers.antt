-- The law is a lemma.
use Rattle.text_parts.proofs.NumeralLemmas.{numeral_is}
use Rattle.sim_run.proofs.laws.numbers_are_numerals.Goals as goal

pub returns : goal.returns
returns c = numeral_is
