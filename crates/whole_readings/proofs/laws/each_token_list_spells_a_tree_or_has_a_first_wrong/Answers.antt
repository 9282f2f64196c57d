-- The law is a lemma.
use Rattle.whole_readings.proofs.Trees.{tree_or_first_wrong}
use Rattle.whole_readings.proofs.laws.each_token_list_spells_a_tree_or_has_a_first_wrong.Goals as goal

pub returns : goal.returns
returns c = tree_or_first_wrong
