-- The law is a lemma.
use Rattle.whole_readings.proofs.Expansions.{expansion_comes}
use Rattle.whole_readings.proofs.laws.each_expansion_has_an_outcome.Goals as goal

pub returns : goal.returns
returns c = expansion_comes
