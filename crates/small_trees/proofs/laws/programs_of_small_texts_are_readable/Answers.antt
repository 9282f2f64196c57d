-- The trees are well formed and small.
use Rattle.std.proofs.lemmas.List.Elements.{All-from_recursion, recursion_from_All}
use Rattle.capl_tree.specs.Grammar.{IsFile}
use Rattle.small_trees.specs.Tokens.{IsSmallText}
use Rattle.small_trees.proofs.Sources.{spelled}
use Rattle.small_trees.proofs.SmallFiles.{trees_formed, trees_small}
use Rattle.small_trees.proofs.laws.programs_of_small_texts_are_readable.Goals as goal

pub returns : goal.returns
returns c = λ texts program are small. record {
  well_formed = All-from_recursion IsFile program.files (trees_formed texts program.files (spelled texts program.files are));
  small = trees_small texts program.files (spelled texts program.files are) (recursion_from_All IsSmallText texts small);
}
