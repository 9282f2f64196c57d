-- Expressions, statements, bodies and calls add no turns.
use Rattle.capl_meaning.specs.Statement.{calls_of}
use Rattle.meaning_laws.proofs.Expressions.{spot_adds_none, value_adds_none}
use Rattle.meaning_laws.proofs.Statements.{alone_adds_none, runs_add_none, stmt_adds_none}
use Rattle.meaning_laws.proofs.Calls.{program_calls_add_none}
use Rattle.meaning_laws.proofs.laws.no_turns_are_added.Goals as goal

pub returns-clause-numbers : goal.returns-clause-numbers
returns-clause-numbers c = λ s run n e w. (value_adds_none s (calls_of run n) (program_calls_add_none run n) e).turns w

pub returns-clause-places : goal.returns-clause-places
returns-clause-places c = λ s run n e w. (spot_adds_none s (calls_of run n) (program_calls_add_none run n) e).turns w

pub returns-clause-alone : goal.returns-clause-alone
returns-clause-alone c = λ s run n e w. (alone_adds_none s (calls_of run n) (program_calls_add_none run n) e).turns w

pub returns-clause-statements : goal.returns-clause-statements
returns-clause-statements c = λ s run n statement w. (stmt_adds_none s (calls_of run n) (program_calls_add_none run n) n statement).turns w

pub returns-clause-bodies : goal.returns-clause-bodies
returns-clause-bodies c = λ s run n body w. (runs_add_none s (calls_of run n) (program_calls_add_none run n) n body).turns w

pub returns-clause-calls : goal.returns-clause-calls
returns-clause-calls c = λ run n f w. (program_calls_add_none run n f).turns w
