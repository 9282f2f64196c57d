-- The tokens of a text.
use Rattle.small_trees.proofs.SmallTokens.{reading_small}
use Rattle.small_trees.proofs.laws.tokens_of_texts_are_small.Goals as goal

pub returns : goal.returns
returns c = reading_small
