-- Each tree declares no more.
use Rattle.small_trees.proofs.Sources.{spelled}
use Rattle.small_trees.proofs.FewNames.{files_counted, files_names, files_parts}
use Rattle.small_trees.proofs.laws.programs_declare_no_more_than_their_tokens.Goals as goal

pub returns-clause-files : goal.returns-clause-files
returns-clause-files c = λ texts program are. files_counted texts program.files (spelled texts program.files are)

pub returns-clause-parts : goal.returns-clause-parts
returns-clause-parts c = λ texts program are. files_parts texts program.files 0 1 (spelled texts program.files are)

pub returns-clause-variables : goal.returns-clause-variables
returns-clause-variables c = λ texts base program are. files_names base texts program.files 0 1 (spelled texts program.files are)
