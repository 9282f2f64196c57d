-- Completeness of the reader.
use Rattle.expr_parser.proofs.Complete.{complete}
use Rattle.expr_parser.proofs.laws.each_spelling_is_read.Goals as goal

pub returns : goal.returns
returns c = complete
