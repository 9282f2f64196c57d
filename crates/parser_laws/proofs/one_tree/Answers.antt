-- The tree that is read is the only one.
use Rattle.parser_laws.proofs.Whole.{only_tree}
use Rattle.parser_laws.proofs.one_tree.Goals as goal

pub returns : goal.returns
returns c = only_tree
