-- Where a call is cut, no turn is left.
use Rattle.std.specs.Prelude.{ℕ, ◌≤◌, [], Option, Some, None}
use Rattle.std.specs.Option.{option_map_or}
use Rattle.control_flow.specs.Control.{Calls}
use Rattle.capl_meaning.specs.Names.{Function}
use Rattle.capl_meaning.specs.Calls.{function_numbered}
use Rattle.capl_meaning.specs.Expression.{Memory, Setting}
use Rattle.capl_meaning.specs.Statement.{calls_of, function_runs, runs}
use Rattle.capl_meaning.specs.Inside.Procedure.{in_function, runs_numbered}
use Rattle.meaning_laws.proofs.Cuts.{IsCutLast, calls_cut}
use Rattle.meaning_laws.proofs.CutStatements.{runs_cut}

-- the body of a function, if that is so of calls, and where the number of turns is not less than those left
numbered_cut : (s : Setting) (call : Calls Memory) (n k f : ℕ) → n ≤ k → ((f : ℕ) → IsCutLast n (call f)) → IsCutLast n (runs_numbered s call k f)
numbered_cut s call n k f enough calls = found_cut (function_numbered s.scope.names f)
  where
    found_cut : (found : Option Function) → IsCutLast n (option_map_or (function_runs s call k) found (runs s call k []))
    found_cut None = runs_cut n s call calls k enough []
    found_cut (Some g) = runs_cut n (in_function s g) call calls k enough g.body

-- the calls of a program, where their number of turns is not less than those left
pub program_calls_cut : (s : Setting) (n k : ℕ) → n ≤ k → (f : ℕ) → IsCutLast n (calls_of s k f)
program_calls_cut s n k enough f = calls_cut (runs_numbered s) (numbered_cut s) n k f enough
