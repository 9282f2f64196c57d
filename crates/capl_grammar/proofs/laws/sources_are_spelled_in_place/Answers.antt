-- A source is spelled in place, and what is spelled in place is a source.
use Rattle.capl_grammar.proofs.SameFile.{read, written}
use Rattle.capl_grammar.proofs.laws.sources_are_spelled_in_place.Goals as goal

pub returns : goal.returns
returns c = λ tokens file. (read tokens file, written tokens file)
