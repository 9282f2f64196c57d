-- No statement adds turns.
use mathlib.Core.Former.{Count}
use Rattle.std.specs.Prelude.{◌≡◌, ℕ, zero, suc, ◌≤◌, Bool, true, false, if◌then◌else◌, List, [], ◌∷◌, Option, Some, None, ℤ}
use Rattle.std.proofs.Common.{arith, refl}
use Rattle.write_format.specs.declared.piece.Piece.{Piece}
use Rattle.control_flow.specs.World.{World, Gives}
use Rattle.control_flow.specs.Control.{Calls, Computes, Does, GoesOn, Returns}
use Rattle.control_flow.specs.Turns.{AddsNoTurns}
use Rattle.control_flow.proofs.Turns.{at_most_leaving, followed_by_adds_none, in_order_adds_none, loop_adds_none, nothing_adds_none, round_adds_none}
use Rattle.capl_tree.specs.declared.expr.Expr.{Expr, items-the_row-Expr}
use Rattle.capl_tree.specs.declared.expr.Expr.TheVariants as expr
use Rattle.capl_tree.specs.declared.statement.Stmt.{Stmt, Row_of-Stmt, end_of-Stmt, more_of-Stmt}
use Rattle.capl_tree.specs.declared.statement.Stmt.TheBlock.{Row_of-Arm, end_of-Arm, more_of-Arm, Row_of-Group, end_of-Group, more_of-Group, Held-Stmt-If-1}
use Rattle.capl_tree.specs.declared.statement.Stmt.TheVariants as stmt
use Rattle.capl_tree.specs.Forms as tree
use Rattle.capl_meaning.specs.declared.builtin.Builtin.TheVariants as builtin
use Rattle.capl_meaning.specs.Variable.{Variable}
use Rattle.capl_meaning.specs.Names.{Callee, OfLanguage, callee}
use Rattle.capl_meaning.specs.Message.{Held, HeldVariable, message_in}
use Rattle.capl_meaning.specs.Sort.{is_number, sort_of}
use Rattle.capl_meaning.specs.Expression.{Memory, Setting}
use Rattle.capl_meaning.specs.Statement.{alone_of, arms_of, assigns, calls_alone, cancels, drops, else_of, groups_of, numbers_of, part_of, returns, sends, sets, sets_timer, stmt_of, stmts_of, unless_closed, with_line, runs}
use Rattle.capl_meaning.specs.Inside.Statement.{for_test, wrapped_to, writes_line}
use Rattle.meaning_laws.proofs.Parts.{either_adds_none, map_adds_none, test_adds_none, then_adds_none}
use Rattle.meaning_laws.proofs.Expressions.{value_adds_none}

-- what changes unless the measurement has ended, where the change adds none
unless_adds_none : (s : Setting) (change : World Memory → World Memory) → ((w : World Memory) → (change w).turns ≡ w.turns) → AddsNoTurns (unless_closed s change)
unless_adds_none s change h = record { turns = go s.closed }
  where
    go : (closed : Bool) (w : World Memory) → (if closed then w else change w).turns ≤ w.turns
    go true w = omega arith
    go false w = omega (arith, h w)

-- the frame of a message
sends_adds_none : (s : Setting) (found : Option Held) → AddsNoTurns (sends s found)
sends_adds_none s None = nothing_adds_none
sends_adds_none s (Some held) = record { turns = (unless_adds_none s _ (λ w. refl)).turns }

-- an assignment that may copy a message
assigns_adds_none : (s : Setting) (to from : Option Held) (other : Does Memory) → AddsNoTurns other → AddsNoTurns (assigns s to from other)
assigns_adds_none s (Some (HeldVariable v signals)) (Some from) other h = record { turns = λ w. omega arith }
assigns_adds_none s to from other h = record { turns = h.turns }

-- the setting of a timer to a duration
sets_add_none : (s : Setting) (v : Variable) (cyclic : Bool) (n : ℤ) → AddsNoTurns (sets s v cyclic n)
sets_add_none s v cyclic n = record { turns = (unless_adds_none s _ (λ w. refl)).turns }

-- the setting of a timer, if there is one
sets_timer_adds_none : (s : Setting) (timer : Option Variable) (cyclic : Bool) (duration : Computes Memory) → AddsNoTurns duration → AddsNoTurns (sets_timer s timer cyclic duration)
sets_timer_adds_none s None cyclic duration h = nothing_adds_none
sets_timer_adds_none s (Some v) cyclic duration h =
    record { turns = (then_adds_none duration _ h (sets_add_none s v cyclic)).turns }

-- the cancelling of a timer
cancels_adds_none : (s : Setting) (timer : Option Variable) → AddsNoTurns (cancels s timer)
cancels_adds_none s None = nothing_adds_none
cancels_adds_none s (Some v) = record { turns = (unless_adds_none s _ (λ w. refl)).turns }

module _ (s : Setting) (call : Calls Memory) (calls : (f : ℕ) → AddsNoTurns (call f)) where
  -- the numbers of a line
  pub numbers_add_none : (all : List Expr) → AddsNoTurns (numbers_of s call all)
  numbers_add_none [] = record { turns = λ w. omega arith }
  numbers_add_none (e ∷ rest) = record {
    turns = (either_adds_none (is_number (sort_of s.scope e)) _ _
        (then_adds_none _ _ (value_adds_none s call calls e) (λ n. map_adds_none (λ ns. n ∷ ns) _ (numbers_add_none rest)))
        (numbers_add_none rest)).turns;
  }

  -- a line
  writes_add_none : (pieces : Option (List Piece)) (arguments : List Expr) → AddsNoTurns (writes_line s call pieces arguments)
  writes_add_none None arguments = record { turns = λ w. omega arith }
  writes_add_none (Some pieces) arguments =
      record { turns = (then_adds_none _ (λ ns w. Gives GoesOn (with_line s pieces arguments ns w)) (numbers_add_none arguments) (λ ns. record { turns = λ w. omega arith })).turns }

  -- a value that is dropped
  pub drops_add_none : (e : Expr) → AddsNoTurns (drops s call e)
  drops_add_none e = record { turns = (map_adds_none (λ _. GoesOn) _ (value_adds_none s call calls e)).turns }

  -- a call that stands alone
  calls_alone_add_none : (found : Callee) (arguments : List Expr) (other : Does Memory) → AddsNoTurns other → AddsNoTurns (calls_alone s call found arguments other)
  calls_alone_add_none (OfLanguage builtin.Output) (message ∷ []) other h = record { turns = (sends_adds_none s _).turns }
  calls_alone_add_none (OfLanguage builtin.Write) (format ∷ arguments) other h = record { turns = (writes_add_none _ arguments).turns }
  calls_alone_add_none (OfLanguage builtin.SetTimer) (timer ∷ duration ∷ []) other h =
      record { turns = (sets_timer_adds_none s _ false _ (value_adds_none s call calls duration)).turns }
  calls_alone_add_none (OfLanguage builtin.SetTimerCyclic) (timer ∷ duration ∷ []) other h =
      record { turns = (sets_timer_adds_none s _ true _ (value_adds_none s call calls duration)).turns }
  calls_alone_add_none (OfLanguage builtin.CancelTimer) (timer ∷ []) other h = record { turns = (cancels_adds_none s _).turns }
  calls_alone_add_none (OfLanguage builtin.Stop) [] other h = record { turns = (unless_adds_none s _ (λ w. refl)).turns }
  calls_alone_add_none found arguments other h = record { turns = h.turns }

  -- an expression that stands alone adds none
  pub alone_adds_none : (e : Expr) → AddsNoTurns (alone_of s call e)
  alone_adds_none (tree.Paren inner at) = record { turns = (alone_adds_none inner).turns }
  alone_adds_none (expr.Call' name shape args at) = record { turns = (calls_alone_add_none (callee s.scope.names name) (items-the_row-Expr _ args) _ (drops_add_none (expr.Call' name shape args at))).turns }
  alone_adds_none (tree.Assign None left right at) = record { turns = (assigns_adds_none s (message_in s.scope left) (message_in s.scope right) _ (drops_add_none (tree.Assign None left right at))).turns }
  alone_adds_none e = record { turns = (drops_add_none e).turns }

  -- the first or third part of a `for` adds none
  pub part_adds_none : (part : Option Expr) → AddsNoTurns (part_of s call part)
  part_adds_none None = nothing_adds_none
  part_adds_none (Some e) = record { turns = (alone_adds_none e).turns }

  -- the test of a `for` adds none
  pub for_test_adds_none : (test : Option Expr) → AddsNoTurns (for_test s call test)
  for_test_adds_none None = record { turns = λ w. omega arith }
  for_test_adds_none (Some e) = record { turns = (value_adds_none s call calls e).turns }

  -- a `return` adds none
  pub returns_add_none : (value : Option Expr) → AddsNoTurns (returns s call value)
  returns_add_none None = record { turns = λ w. omega arith }
  returns_add_none (Some e) = record { turns = (map_adds_none (λ n. Returns (wrapped_to s.scope.gives n)) _ (value_adds_none s call calls e)).turns }

  module _ (n : ℕ) where
    mutual
      -- a statement adds none
      pub stmt_adds_none : (st : Stmt) → AddsNoTurns (stmt_of s call n st)
      stmt_adds_none stmt.Empty = record { turns = λ w. omega arith }
      stmt_adds_none (stmt.Block' shape body) = record { turns = (stmts_add_none body).turns }
      stmt_adds_none (stmt.Decl declaration) = record { turns = λ w. omega arith }
      stmt_adds_none (stmt.Expr e) = record { turns = (alone_adds_none e).turns }
      stmt_adds_none (stmt.If' shape arms other) = record { turns = (arms_add_none arms _ (else_adds_none other)).turns }
      stmt_adds_none (tree.While test body) =
          record { turns = (loop_adds_none (suc n) _ _ _ (value_adds_none s call calls test) (stmt_adds_none body) nothing_adds_none).turns }
      stmt_adds_none (tree.Do body test) = record {
        turns = (round_adds_none _ _ (stmt_adds_none body) (loop_adds_none n _ _ _ (value_adds_none s call calls test) (stmt_adds_none body) nothing_adds_none)).turns;
      }
      stmt_adds_none (tree.For init test step body) = record {
        turns = (followed_by_adds_none _ _ (part_adds_none init)
            (loop_adds_none (suc n) _ _ _ (for_test_adds_none test) (stmt_adds_none body) (part_adds_none step))).turns;
      }
      stmt_adds_none (stmt.Switch' on shape groups) = record {
        turns = (then_adds_none _ _ (value_adds_none s call calls on) (λ v.
            then_adds_none _ _ (groups_add_none groups _) (λ end. record { turns = at_most_leaving end }))).turns;
      }
      stmt_adds_none (stmt.Break at) = record { turns = λ w. omega arith }
      stmt_adds_none (stmt.Continue at) = record { turns = λ w. omega arith }
      stmt_adds_none (stmt.Return value at) = record { turns = (returns_add_none value).turns }

      -- statements in a row add none
      pub stmts_add_none : {m : Count} (all : Row_of-Stmt m) → AddsNoTurns (stmts_of s call n all)
      stmts_add_none end_of-Stmt = record { turns = λ w. omega arith }
      stmts_add_none (more_of-Stmt first rest) = record { turns = (followed_by_adds_none _ _ (stmt_adds_none first) (stmts_add_none rest)).turns }

      -- the arms of an `if` add none
      pub arms_add_none : {m : Count} (arms : Row_of-Arm m) (other : Does Memory) → AddsNoTurns other → AddsNoTurns (arms_of s call n arms other)
      arms_add_none end_of-Arm other h = record { turns = h.turns }
      arms_add_none (more_of-Arm test body rest) other h = record {
        turns = (test_adds_none _ _ _ (value_adds_none s call calls test) (stmt_adds_none body) (arms_add_none rest other h)).turns;
      }

      -- what stands behind a last `else` adds none
      pub else_adds_none : (other : Held-Stmt-If-1) → AddsNoTurns (else_of s call n other)
      else_adds_none tree.NoElse = record { turns = λ w. omega arith }
      else_adds_none (tree.Else body) = record { turns = (stmt_adds_none body).turns }

      -- the groups of a `switch` add none
      pub groups_add_none : {m : Count} (groups : Row_of-Group m) (k : ℕ) → AddsNoTurns (groups_of s call n groups k)
      groups_add_none end_of-Group k = record { turns = λ w. omega arith }
      groups_add_none (more_of-Group labels shape body rest) zero =
          record { turns = (followed_by_adds_none _ _ (stmts_add_none body) (groups_add_none rest zero)).turns }
      groups_add_none (more_of-Group labels shape body rest) (suc k) = record { turns = (groups_add_none rest k).turns }

    -- the body of a procedure adds none
    pub runs_add_none : (body : List Stmt) → AddsNoTurns (runs s call n body)
    runs_add_none body = in_order_adds_none (stmt_of s call n) body stmt_adds_none
