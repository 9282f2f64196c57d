-- Soundness of the reader.
use Rattle.expr_parser.proofs.Sound.{sound}
use Rattle.expr_parser.proofs.laws.only_spellings_are_read.Goals as goal

pub returns : goal.returns
returns c = sound
