-- A call does the same with each number that is not less than the turns left.
use Rattle.std.specs.Prelude.{ℕ, ◌≤◌, [], Option, Some, None}
use Rattle.std.specs.Option.{option_map_or}
use Rattle.std.proofs.Common.{arith}
use Rattle.control_flow.specs.Control.{Calls}
use Rattle.control_flow.specs.Turns.{AddsNoTurns, Agree}
use Rattle.control_flow.proofs.Fuel.{same_calls}
use Rattle.capl_meaning.specs.Names.{Function}
use Rattle.capl_meaning.specs.Calls.{function_numbered}
use Rattle.capl_meaning.specs.Expression.{Memory, Setting}
use Rattle.capl_meaning.specs.Statement.{calls_of, function_runs, runs}
use Rattle.capl_meaning.specs.Inside.Procedure.{in_function, runs_numbered}
use Rattle.meaning_laws.proofs.Calls.{numbered_adds_none}
use Rattle.meaning_laws.proofs.SameStatements.{same_runs}

-- the body of a function does the same with calls that do, and with two numbers that are not less than the turns left
same_numbered : (s : Setting) (call call' : Calls Memory) (n k k' f : ℕ) → n ≤ k → n ≤ k' → ((f : ℕ) → AddsNoTurns (call' f)) →
    ((f : ℕ) → Agree n (call f) (call' f)) → Agree n (runs_numbered s call k f) (runs_numbered s call' k' f)
same_numbered s call call' n k k' f enough enough' calls same = same_found (function_numbered s.scope.names f)
  where
    same_found : (found : Option Function) →
        Agree n (option_map_or (function_runs s call k) found (runs s call k [])) (option_map_or (function_runs s call' k') found (runs s call' k' []))
    same_found None = same_runs n s call call' calls same k k' enough enough' []
    same_found (Some g) = same_runs n (in_function s g) call call' calls same k k' enough enough' g.body

-- a call does the same with two numbers that are not less than the turns left
pub same_program_calls : (s : Setting) (n k k' f : ℕ) → n ≤ k → n ≤ k' → Agree n (calls_of s k f) (calls_of s k' f)
same_program_calls s n k k' f enough enough' = same_calls (runs_numbered s) (numbered_adds_none s) (same_numbered s) n k k' f enough enough'

-- a call does the same with a number that is not less than the turns left as with these
pub same_with_fewer : (s : Setting) (n k : ℕ) → n ≤ k → (f : ℕ) → Agree n (calls_of s k f) (calls_of s n f)
same_with_fewer s n k enough f = same_program_calls s n k n f enough (omega arith)
