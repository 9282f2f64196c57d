-- What it is that the code of a statement does what the statement means (CAPL manual, statements). Nothing of
-- the procedure's own is on the stack where a statement begins and ends: what is there is its callers'.
use Rattle.std.specs.Prelude.{◌≡◌, ℕ, ◌+◌, Bool, if◌then◌else◌, List, [], ◌∷◌, ℤ}
use Rattle.run_effects.specs.declared.outcome.Outcome.TheVariants.{Done}
use Rattle.bytecode.specs.declared.code.Code.{Code}
use Rattle.bytecode.specs.Machine.{Machine}
use Rattle.control_flow.specs.World.{World, Run}
use Rattle.control_flow.specs.Control.{Calls, End, GoesOn, Breaks, Continues, Returns}
use Rattle.control_flow.specs.Turns.{AddsNoTurns}
use Rattle.typed_tree.specs.declared.statement.TStmt.{TStmt}
use Rattle.typed_tree.specs.Expression.{Setting}
use Rattle.typed_tree.specs.Memory.{Memory}
use Rattle.typed_tree.specs.Size.{stmt_size}
use Rattle.typed_tree.specs.Statement.{stmt_of}
use Rattle.code_listing.specs.Runs.{Comes, Follows, IsFit, IsSetFor, StandsAt, Stops, machine_at}
use Rattle.code_listing.specs.Statement.{Exits, stmt_code}

-- the stack of a caller, with the number that the procedure gives, if it gives any
abbrev pub with_given : Bool → ℤ → List ℤ → List ℤ
with_given gives n stack = if gives then n ∷ stack else stack

-- From a state on, a procedure has returned: to the place of the innermost open call, with the number on the
-- stack where the procedure gives one; or the run is done, where no call is open.
abbrev pub HasReturned : Code → Bool → ℕ → Bool → List ℤ → Machine → List ℕ → ℤ → World Memory → Type 0
HasReturned code closed moment gives stack m [] n after = Stops code closed moment m Done after
HasReturned code closed moment gives stack m (place ∷ calls) n after =
    Comes code closed moment m (machine_at place (with_given gives n stack) calls after)

-- From a state on, a statement has left off: it has gone on to its end, or to the place where a `break` or a
-- `continue` leads, with this stack and these open calls; or its procedure has returned.
abbrev pub LeavesOff : Code → Bool → ℕ → Bool → List ℤ → List ℕ → Exits → ℕ → Machine →
    End → World Memory → Type 0
LeavesOff code closed moment gives stack calls exits end m GoesOn after =
    Comes code closed moment m (machine_at end stack calls after)
LeavesOff code closed moment gives stack calls exits end m Breaks after =
    Comes code closed moment m (machine_at exits.break_at stack calls after)
LeavesOff code closed moment gives stack calls exits end m Continues after =
    Comes code closed moment m (machine_at exits.continue_at stack calls after)
LeavesOff code closed moment gives stack calls exits end m (Returns n) after =
    HasReturned code closed moment gives stack m calls n after

-- from a state on, the machine does what a statement does that has this end
abbrev pub ObeysFrom : Code → Bool → ℕ → Bool → List ℤ → List ℕ → Machine → Exits → ℕ →
    Run Memory End → Type 0
ObeysFrom code closed moment gives stack calls m exits end run =
    Follows code closed moment m (LeavesOff code closed moment gives stack calls exits end m) run

-- from a place to another, the machine does what a statement does
abbrev pub Obeys : Code → Bool → ℕ → Bool → List ℤ → List ℕ → Exits → ℕ → World Memory → ℕ →
    Run Memory End → Type 0
Obeys code closed moment gives stack calls exits place w end run =
    ObeysFrom code closed moment gives stack calls (machine_at place stack calls w) exits end run

-- code is set for the statements in the procedure of a number: it is so for their expressions, it has the
-- program's formats, and no call adds turns
pub record IsSetForStatements (code : Code) (s : Setting) (call : Calls Memory) (most number : ℕ)
    : Type 0 where
  pub expressions : IsSetFor code s call most number
  pub formats : code.formats ≡ s.typed.formats
  pub turns : (f : ℕ) → AddsNoTurns (call f)

-- wherever the code of a statement stands, in a procedure that gives a number or not, from any stack, open
-- calls and fit world, it does what the statement means
abbrev pub RunsAsStatement : Code → Setting → Calls Memory → ℕ → Bool → TStmt → Type 0
RunsAsStatement code s call most gives statement =
    (exits : Exits) (place : ℕ) (stack : List ℤ) (calls : List ℕ) (w : World Memory) → IsFit code most w →
    StandsAt code place (stmt_code s.typed exits statement place) →
    Obeys code s.closed s.moment gives stack calls exits place w (place + stmt_size s.typed statement)
    (stmt_of s call most statement w)
