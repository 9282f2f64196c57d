-- Completeness of the reader.
use Rattle.decl_parser.proofs.Complete.{declaration_complete}
use Rattle.decl_parser.proofs.laws.each_declaration_is_read.Goals as goal

pub returns : goal.returns
returns c = declaration_complete
