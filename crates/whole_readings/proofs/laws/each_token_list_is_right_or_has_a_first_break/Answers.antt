-- The law is a lemma.
use Rattle.whole_readings.proofs.Screens.{none_or_first_break}
use Rattle.whole_readings.proofs.laws.each_token_list_is_right_or_has_a_first_break.Goals as goal

pub returns : goal.returns
returns c = none_or_first_break
