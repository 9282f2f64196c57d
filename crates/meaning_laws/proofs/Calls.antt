-- No call adds turns.
use Rattle.std.specs.Prelude.{ℕ, [], Option, Some, None}
use Rattle.std.specs.Option.{option_map_or}
use Rattle.control_flow.specs.Control.{Calls}
use Rattle.control_flow.specs.Turns.{AddsNoTurns}
use Rattle.control_flow.proofs.Turns.{calls_add_none}
use Rattle.capl_meaning.specs.Names.{Function}
use Rattle.capl_meaning.specs.Calls.{function_numbered}
use Rattle.capl_meaning.specs.Expression.{Memory, Setting}
use Rattle.capl_meaning.specs.Statement.{calls_of, function_runs, runs}
use Rattle.capl_meaning.specs.Inside.Procedure.{in_function, runs_numbered}
use Rattle.meaning_laws.proofs.Statements.{runs_add_none}

-- the body of a function adds none, where calls add none
pub numbered_adds_none : (s : Setting) (call : Calls Memory) (n f : ℕ) → ((f : ℕ) → AddsNoTurns (call f)) → AddsNoTurns (runs_numbered s call n f)
numbered_adds_none s call n f calls = found_adds_none (function_numbered s.scope.names f)
  where
    found_adds_none : (found : Option Function) → AddsNoTurns (option_map_or (function_runs s call n) found (runs s call n []))
    found_adds_none None = runs_add_none s call calls n []
    found_adds_none (Some g) = runs_add_none (in_function s g) call calls n g.body

-- the calls of a program add none
pub program_calls_add_none : (s : Setting) (n f : ℕ) → AddsNoTurns (calls_of s n f)
program_calls_add_none s n f = calls_add_none (runs_numbered s) (numbered_adds_none s) n f
