-- What is spelled is read, and what is read is spelled.
use Rattle.parser_laws.proofs.Whole.{trees_read}
use Rattle.parser_laws.proofs.trees_are_read.Goals as goal

pub returns : goal.returns
returns c = trees_read
