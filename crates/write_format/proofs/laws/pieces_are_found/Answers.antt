-- The pieces of a text are found.
use Rattle.std.proofs.Common.{arith, length}
use Rattle.write_format.proofs.PieceLemmas.{found_spelled, spelled_found}
use Rattle.write_format.proofs.laws.pieces_are_found.Goals as goal

pub returns-clause-found : goal.returns-clause-found
returns-clause-found c = λ text pieces is. spelled_found (length text) text pieces (omega arith) is

pub returns-clause-spelled : goal.returns-clause-spelled
returns-clause-spelled c = λ text pieces is. found_spelled (length text) text pieces is
