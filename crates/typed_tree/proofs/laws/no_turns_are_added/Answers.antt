-- Statements and calls of a program add no turns.
use Rattle.typed_tree.proofs.TurnsLeft.{program_calls_add_none, stmt_adds_none}
use Rattle.typed_tree.specs.Program.{calls_of}
use Rattle.typed_tree.proofs.laws.no_turns_are_added.Goals as goal

pub returns-clause-statements : goal.returns-clause-statements
returns-clause-statements c = λ s n statement w. (stmt_adds_none s (calls_of s n) (program_calls_add_none s n) n statement).turns w

pub returns-clause-calls : goal.returns-clause-calls
returns-clause-calls c = λ s n f w. (program_calls_add_none s n f).turns w
