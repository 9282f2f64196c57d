-- Each tree is light.
use Rattle.small_trees.proofs.Sources.{spelled}
use Rattle.small_trees.proofs.SmallFiles.{trees_light}
use Rattle.small_trees.proofs.laws.programs_weigh_eight_times_their_tokens.Goals as goal

pub returns : goal.returns
returns c = λ texts program are. trees_light texts program.files (spelled texts program.files are)
