-- Each expression, by its form.
use Rattle.typed_source.proofs.SoundExpressions.{sound}
use Rattle.typed_source.proofs.laws.numbers_have_sound_trees.Goals as goal

pub returns : goal.returns
returns c = λ typed number scope order e tables is made. sound typed number scope order tables e is made
