-- Expressions, statements, bodies, calls and event procedures do the same with each number that is not less than the turns left.
use Rattle.std.proofs.Common.{[], ap, arith}
use Rattle.capl_meaning.specs.Statement.{calls_of, ending}
use Rattle.capl_meaning.specs.Inside.Procedure.{setting_of}
use Rattle.meaning_laws.proofs.Calls.{program_calls_add_none}
use Rattle.meaning_laws.proofs.SameExpressions.{same_spot, same_value}
use Rattle.meaning_laws.proofs.SameStatements.{same_alone, same_runs, same_stmt}
use Rattle.meaning_laws.proofs.SameCalls.{same_with_fewer}
use Rattle.meaning_laws.proofs.laws.turns_left_are_enough.Goals as goal

pub returns-clause-numbers : goal.returns-clause-numbers
returns-clause-numbers c = λ s run n e w enough.
    (same_value w.turns s (calls_of run n) (calls_of run w.turns) (program_calls_add_none run w.turns) (same_with_fewer run w.turns n enough) e).same w (omega arith)

pub returns-clause-places : goal.returns-clause-places
returns-clause-places c = λ s run n e w enough.
    (same_spot w.turns s (calls_of run n) (calls_of run w.turns) (program_calls_add_none run w.turns) (same_with_fewer run w.turns n enough) e).same w (omega arith)

pub returns-clause-alone : goal.returns-clause-alone
returns-clause-alone c = λ s run n e w enough.
    (same_alone w.turns s (calls_of run n) (calls_of run w.turns) (program_calls_add_none run w.turns) (same_with_fewer run w.turns n enough) e).same w (omega arith)

pub returns-clause-statements : goal.returns-clause-statements
returns-clause-statements c = λ s run n statement w enough.
    (same_stmt w.turns s (calls_of run n) (calls_of run w.turns) (program_calls_add_none run w.turns) (same_with_fewer run w.turns n enough)
    n w.turns enough (omega arith) statement).same w (omega arith)

pub returns-clause-bodies : goal.returns-clause-bodies
returns-clause-bodies c = λ s run n body w enough.
    (same_runs w.turns s (calls_of run n) (calls_of run w.turns) (program_calls_add_none run w.turns) (same_with_fewer run w.turns n enough)
    n w.turns enough (omega arith) body).same w (omega arith)

pub returns-clause-calls : goal.returns-clause-calls
returns-clause-calls c = λ run n f w enough. (same_with_fewer run w.turns n enough f).same w (omega arith)

pub returns-clause-event_procedures : goal.returns-clause-event_procedures
returns-clause-event_procedures c = λ handler this closed moment turns n memory enough.
    let s = setting_of handler this closed moment in
    ap (ending turns) ((same_runs turns s (calls_of s n) (calls_of s turns) (program_calls_add_none s turns) (same_with_fewer s turns n enough)
    n turns enough (omega arith) handler.body).same (record { memory = memory; turns = turns; effects = [] }) (omega arith))
