-- The code of a program, and of its parts, has as many instructions as their sizes say.
use Rattle.code_listing.proofs.ExpressionSizes.{codes_fit}
use Rattle.code_listing.proofs.ProgramSizes.{program_long}
use Rattle.code_listing.proofs.StatementSizes.{stmt_long}
use Rattle.code_listing.proofs.laws.code_has_its_size.Goals as goal

pub returns-clause-program : goal.returns-clause-program
returns-clause-program c = λ typed. program_long typed

pub returns-clause-statements : goal.returns-clause-statements
returns-clause-statements c = λ typed exits s place. stmt_long typed exits s place

pub returns-clause-values : goal.returns-clause-values
returns-clause-values c = λ typed e place depth. (codes_fit typed e).value place depth

pub returns-clause-tests : goal.returns-clause-tests
returns-clause-tests c = λ typed when exit e place depth. (codes_fit typed e).test when exit place depth
