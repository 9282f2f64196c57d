-- The code of a sound program does what the program means.
use Rattle.code_meaning.proofs.ProgramRuns.{code_means}
use Rattle.code_meaning.proofs.laws.code_means_its_tree.Goals as goal

pub returns : goal.returns
returns c = λ typed code sound is. code_means typed code sound is
