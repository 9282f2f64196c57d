-- Statements and calls of a program do the same with each number that is not less than the turns left.
use Rattle.std.proofs.Common.{arith}
use Rattle.typed_tree.proofs.TurnsLeft.{program_calls_add_none}
use Rattle.typed_tree.proofs.FuelEnough.{same_program_calls, same_stmt}
use Rattle.typed_tree.specs.Program.{calls_of}
use Rattle.typed_tree.proofs.laws.turns_left_are_enough.Goals as goal

pub returns-clause-statements : goal.returns-clause-statements
returns-clause-statements c = λ s n statement w enough.
    (same_stmt s (calls_of s n) (calls_of s w.turns) (program_calls_add_none s w.turns) w.turns
    (λ f. same_program_calls s w.turns n w.turns f enough (omega arith)) n w.turns enough (omega arith) statement).same w (omega arith)

pub returns-clause-calls : goal.returns-clause-calls
returns-clause-calls c = λ s n f w enough. (same_program_calls s w.turns n w.turns f enough (omega arith)).same w (omega arith)
