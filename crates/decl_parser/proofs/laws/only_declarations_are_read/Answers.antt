-- Soundness of the reader.
use Rattle.decl_parser.proofs.Sound.{declaration_sound}
use Rattle.decl_parser.proofs.laws.only_declarations_are_read.Goals as goal

pub returns : goal.returns
returns c = declaration_sound
