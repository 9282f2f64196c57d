-- The law is a lemma.
use Rattle.whole_readings.proofs.Lexing.{reading_or_bad_place}
use Rattle.whole_readings.proofs.laws.each_text_has_tokens_or_a_bad_place.Goals as goal

pub returns : goal.returns
returns c = reading_or_bad_place
