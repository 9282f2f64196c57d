-- Where an expression, a statement, a body, a call or an event procedure is cut, no turn is left.
use Rattle.std.specs.Prelude.{◌≡◌, ℕ, []}
use Rattle.std.proofs.Common.{arith}
use Rattle.run_effects.specs.declared.outcome.Outcome.TheVariants.{Cut, Done, Trapped}
use Rattle.control_flow.specs.World.{World, Run, Gives, Fails}
use Rattle.control_flow.specs.Control.{End}
use Rattle.capl_meaning.specs.Expression.{Memory}
use Rattle.capl_meaning.specs.Statement.{calls_of, ending, runs}
use Rattle.capl_meaning.specs.Inside.Procedure.{setting_of}
use Rattle.meaning_laws.proofs.Cuts.{EndsWithin, cut_with_none}
use Rattle.meaning_laws.proofs.CutExpressions.{spot_cut, value_cut}
use Rattle.meaning_laws.proofs.CutStatements.{alone_cut, runs_cut, stmt_cut}
use Rattle.meaning_laws.proofs.CutCalls.{program_calls_cut}
use Rattle.meaning_laws.proofs.laws.cuts_leave_no_turn.Goals as goal

all_taken : (turns : ℕ) (run : Run Memory End) → EndsWithin turns run → (ending turns run).outcome ≡ Cut → (ending turns run).turns_taken ≡ turns
all_taken turns (Gives end w) h is = absurd (let f : Done ≡ Cut = is in cc)
all_taken turns (Fails Cut w) h is = omega (arith, h)
all_taken turns (Fails Done w) h is = absurd (let f : Done ≡ Cut = is in cc)
all_taken turns (Fails (Trapped kind) w) h is = absurd (let f : Trapped kind ≡ Cut = is in cc)

pub returns-clause-numbers : goal.returns-clause-numbers
returns-clause-numbers c = λ s run n e w after enough is.
    cut_with_none n _ (value_cut n s (calls_of run n) (program_calls_cut run n n (omega arith)) e) w after enough is

pub returns-clause-places : goal.returns-clause-places
returns-clause-places c = λ s run n e w after enough is.
    cut_with_none n _ (spot_cut n s (calls_of run n) (program_calls_cut run n n (omega arith)) e) w after enough is

pub returns-clause-alone : goal.returns-clause-alone
returns-clause-alone c = λ s run n e w after enough is.
    cut_with_none n _ (alone_cut n s (calls_of run n) (program_calls_cut run n n (omega arith)) e) w after enough is

pub returns-clause-statements : goal.returns-clause-statements
returns-clause-statements c = λ s run n statement w after enough is.
    cut_with_none n _ (stmt_cut n s (calls_of run n) (program_calls_cut run n n (omega arith)) n (omega arith) statement) w after enough is

pub returns-clause-bodies : goal.returns-clause-bodies
returns-clause-bodies c = λ s run n body w after enough is.
    cut_with_none n _ (runs_cut n s (calls_of run n) (program_calls_cut run n n (omega arith)) n (omega arith) body) w after enough is

pub returns-clause-calls : goal.returns-clause-calls
returns-clause-calls c = λ run n f w after enough is. cut_with_none n _ (program_calls_cut run n n (omega arith) f) w after enough is

pub returns-clause-event_procedures : goal.returns-clause-event_procedures
returns-clause-event_procedures c = λ handler this closed moment turns memory is.
    let s = setting_of handler this closed moment in
    let w : World Memory = record { memory = memory; turns = turns; effects = [] } in
    all_taken turns (runs s (calls_of s turns) turns handler.body w)
    ((runs_cut turns s (calls_of s turns) (program_calls_cut s turns turns (omega arith)) turns (omega arith) handler.body).cut w (omega arith)) is
