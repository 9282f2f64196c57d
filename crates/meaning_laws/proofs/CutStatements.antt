-- Where a statement is cut, no turn is left.
use mathlib.Core.Former.{Count}
use Rattle.std.specs.Prelude.{◌≡◌, ℕ, zero, suc, ◌≤◌, Bool, true, false, if◌then◌else◌, List, [], ◌∷◌, Option, Some, None, ℤ}
use Rattle.std.proofs.Common.{arith, refl}
use Rattle.write_format.specs.declared.piece.Piece.{Piece}
use Rattle.control_flow.specs.World.{World, Gives}
use Rattle.control_flow.specs.Control.{Calls, Computes, Does, GoesOn, Returns}
use Rattle.capl_tree.specs.declared.expr.Expr.{Expr, items-the_row-Expr}
use Rattle.capl_tree.specs.declared.expr.Expr.TheVariants as expr
use Rattle.capl_tree.specs.declared.statement.Stmt.{Stmt, Row_of-Stmt, end_of-Stmt, more_of-Stmt}
use Rattle.capl_tree.specs.declared.statement.Stmt.TheBlock.{Row_of-Arm, end_of-Arm, more_of-Arm, Row_of-Group, end_of-Group, more_of-Group, Held-Stmt-If-1}
use Rattle.capl_tree.specs.declared.statement.Stmt.TheVariants as stmt
use Rattle.capl_tree.specs.Forms as tree
use Rattle.capl_meaning.specs.declared.builtin.Builtin.TheVariants as builtin
use Rattle.capl_meaning.specs.Variable.{Variable}
use Rattle.capl_meaning.specs.Names.{Callee, OfLanguage, callee}
use Rattle.capl_meaning.specs.Message.{Held, HeldVariable, message_in}
use Rattle.capl_meaning.specs.Sort.{is_number, sort_of}
use Rattle.capl_meaning.specs.Expression.{Memory, Setting}
use Rattle.capl_meaning.specs.Statement.{alone_of, arms_of, assigns, calls_alone, cancels, drops, else_of, groups_of, numbers_of, part_of, returns, sends, sets, sets_timer, stmt_of, stmts_of, unless_closed, with_line, runs}
use Rattle.capl_meaning.specs.Inside.Statement.{for_test, wrapped_to, writes_line}
use Rattle.meaning_laws.proofs.Cuts.{IsCutLast, cut_below, either_cut, followed_by_cut, in_order_cut, leaving_cut, loop_cut, map_cut, nothing_cut, round_cut, test_cut, then_cut}
use Rattle.meaning_laws.proofs.CutExpressions.{value_cut}

module _ (n : ℕ) where
  -- what changes unless the measurement has ended, where the change leaves the turns
  unless_cut : (s : Setting) (change : World Memory → World Memory) → ((w : World Memory) → (change w).turns ≡ w.turns) → IsCutLast n (unless_closed s change)
  unless_cut s change h = record { cut = λ w le. go s.closed w }
    where
      go : (closed : Bool) (w : World Memory) → (if closed then w else change w).turns ≤ w.turns
      go true w = omega arith
      go false w = omega (arith, h w)

  -- the frame of a message
  sends_cut : (s : Setting) (found : Option Held) → IsCutLast n (sends s found)
  sends_cut s None = nothing_cut n
  sends_cut s (Some held) = record { cut = (unless_cut s _ (λ w. refl)).cut }

  -- an assignment that may copy a message
  assigns_cut : (s : Setting) (to from : Option Held) (other : Does Memory) → IsCutLast n other → IsCutLast n (assigns s to from other)
  assigns_cut s (Some (HeldVariable v signals)) (Some from) other h = record { cut = λ w le. omega arith }
  assigns_cut s to from other h = record { cut = h.cut }

  -- the setting of a timer to a duration
  sets_cut : (s : Setting) (v : Variable) (cyclic : Bool) (d : ℤ) → IsCutLast n (sets s v cyclic d)
  sets_cut s v cyclic d = record { cut = (unless_cut s _ (λ w. refl)).cut }

  -- the setting of a timer, if there is one
  sets_timer_cut : (s : Setting) (timer : Option Variable) (cyclic : Bool) (duration : Computes Memory) → IsCutLast n duration → IsCutLast n (sets_timer s timer cyclic duration)
  sets_timer_cut s None cyclic duration h = nothing_cut n
  sets_timer_cut s (Some v) cyclic duration h =
      record { cut = (then_cut n duration _ h (sets_cut s v cyclic)).cut }

  -- the cancelling of a timer
  cancels_cut : (s : Setting) (timer : Option Variable) → IsCutLast n (cancels s timer)
  cancels_cut s None = nothing_cut n
  cancels_cut s (Some v) = record { cut = (unless_cut s _ (λ w. refl)).cut }

module _ (n : ℕ) (s : Setting) (call : Calls Memory) (calls : (f : ℕ) → IsCutLast n (call f)) where
  -- the numbers of a line
  pub numbers_cut : (all : List Expr) → IsCutLast n (numbers_of s call all)
  numbers_cut [] = record { cut = λ w le. omega arith }
  numbers_cut (e ∷ rest) = record {
    cut = (either_cut n (is_number (sort_of s.scope e)) _ _
        (then_cut n _ _ (value_cut n s call calls e) (λ v. map_cut n (λ vs. v ∷ vs) _ (numbers_cut rest)))
        (numbers_cut rest)).cut;
  }

  -- a line
  writes_cut : (pieces : Option (List Piece)) (arguments : List Expr) → IsCutLast n (writes_line s call pieces arguments)
  writes_cut None arguments = record { cut = λ w le. omega arith }
  writes_cut (Some pieces) arguments =
      record { cut = (then_cut n _ (λ ns w. Gives GoesOn (with_line s pieces arguments ns w)) (numbers_cut arguments) (λ ns. record { cut = λ w le. omega arith })).cut }

  -- a value that is dropped
  pub drops_cut : (e : Expr) → IsCutLast n (drops s call e)
  drops_cut e = record { cut = (map_cut n (λ _. GoesOn) _ (value_cut n s call calls e)).cut }

  -- a call that stands alone
  calls_alone_cut : (found : Callee) (arguments : List Expr) (other : Does Memory) → IsCutLast n other → IsCutLast n (calls_alone s call found arguments other)
  calls_alone_cut (OfLanguage builtin.Output) (message ∷ []) other h = record { cut = (sends_cut n s _).cut }
  calls_alone_cut (OfLanguage builtin.Write) (format ∷ arguments) other h = record { cut = (writes_cut _ arguments).cut }
  calls_alone_cut (OfLanguage builtin.SetTimer) (timer ∷ duration ∷ []) other h =
      record { cut = (sets_timer_cut n s _ false _ (value_cut n s call calls duration)).cut }
  calls_alone_cut (OfLanguage builtin.SetTimerCyclic) (timer ∷ duration ∷ []) other h =
      record { cut = (sets_timer_cut n s _ true _ (value_cut n s call calls duration)).cut }
  calls_alone_cut (OfLanguage builtin.CancelTimer) (timer ∷ []) other h = record { cut = (cancels_cut n s _).cut }
  calls_alone_cut (OfLanguage builtin.Stop) [] other h = record { cut = (unless_cut n s _ (λ w. refl)).cut }
  calls_alone_cut found arguments other h = record { cut = h.cut }

  -- an expression that stands alone
  pub alone_cut : (e : Expr) → IsCutLast n (alone_of s call e)
  alone_cut (tree.Paren inner at) = record { cut = (alone_cut inner).cut }
  alone_cut (expr.Call' name shape args at) = record { cut = (calls_alone_cut (callee s.scope.names name) (items-the_row-Expr _ args) _ (drops_cut (expr.Call' name shape args at))).cut }
  alone_cut (tree.Assign None left right at) = record { cut = (assigns_cut n s (message_in s.scope left) (message_in s.scope right) _ (drops_cut (tree.Assign None left right at))).cut }
  alone_cut e = record { cut = (drops_cut e).cut }

  -- the first or third part of a `for`
  pub part_cut : (part : Option Expr) → IsCutLast n (part_of s call part)
  part_cut None = nothing_cut n
  part_cut (Some e) = record { cut = (alone_cut e).cut }

  -- the test of a `for`
  pub for_test_cut : (test : Option Expr) → IsCutLast n (for_test s call test)
  for_test_cut None = record { cut = λ w le. omega arith }
  for_test_cut (Some e) = record { cut = (value_cut n s call calls e).cut }

  -- a `return`
  pub returns_cut : (value : Option Expr) → IsCutLast n (returns s call value)
  returns_cut None = record { cut = λ w le. omega arith }
  returns_cut (Some e) = record { cut = (map_cut n (λ v. Returns (wrapped_to s.scope.gives v)) _ (value_cut n s call calls e)).cut }

  module _ (k : ℕ) (enough : n ≤ k) where
    mutual
      -- a statement
      pub stmt_cut : (st : Stmt) → IsCutLast n (stmt_of s call k st)
      stmt_cut stmt.Empty = record { cut = λ w le. omega arith }
      stmt_cut (stmt.Block' shape body) = record { cut = (stmts_cut body).cut }
      stmt_cut (stmt.Decl declaration) = record { cut = λ w le. omega arith }
      stmt_cut (stmt.Expr e) = record { cut = (alone_cut e).cut }
      stmt_cut (stmt.If' shape arms other) = record { cut = (arms_cut arms _ (else_cut other)).cut }
      stmt_cut (tree.While test body) =
          record { cut = (loop_cut n (suc k) _ _ _ (omega (arith, enough)) (value_cut n s call calls test) (stmt_cut body) (nothing_cut n)).cut }
      stmt_cut (tree.Do body test) = record {
        cut = (round_cut n _ _ (stmt_cut body) (λ m less. loop_cut m k _ _ _ (omega (arith, enough, less))
            (cut_below m n _ (omega (arith, less)) (value_cut n s call calls test)) (cut_below m n _ (omega (arith, less)) (stmt_cut body)) (nothing_cut m))).cut;
      }
      stmt_cut (tree.For init test step body) = record {
        cut = (followed_by_cut n _ _ (part_cut init)
            (loop_cut n (suc k) _ _ _ (omega (arith, enough)) (for_test_cut test) (stmt_cut body) (part_cut step))).cut;
      }
      stmt_cut (stmt.Switch' on shape groups) = record {
        cut = (then_cut n _ _ (value_cut n s call calls on) (λ v.
            then_cut n _ _ (groups_cut groups _) (leaving_cut n))).cut;
      }
      stmt_cut (stmt.Break at) = record { cut = λ w le. omega arith }
      stmt_cut (stmt.Continue at) = record { cut = λ w le. omega arith }
      stmt_cut (stmt.Return value at) = record { cut = (returns_cut value).cut }

      -- statements in a row
      pub stmts_cut : {m : Count} (all : Row_of-Stmt m) → IsCutLast n (stmts_of s call k all)
      stmts_cut end_of-Stmt = record { cut = λ w le. omega arith }
      stmts_cut (more_of-Stmt first rest) = record { cut = (followed_by_cut n _ _ (stmt_cut first) (stmts_cut rest)).cut }

      -- the arms of an `if`
      pub arms_cut : {m : Count} (arms : Row_of-Arm m) (other : Does Memory) → IsCutLast n other → IsCutLast n (arms_of s call k arms other)
      arms_cut end_of-Arm other h = record { cut = h.cut }
      arms_cut (more_of-Arm test body rest) other h = record {
        cut = (test_cut n _ _ _ (value_cut n s call calls test) (stmt_cut body) (arms_cut rest other h)).cut;
      }

      -- what stands behind a last `else`
      pub else_cut : (other : Held-Stmt-If-1) → IsCutLast n (else_of s call k other)
      else_cut tree.NoElse = record { cut = λ w le. omega arith }
      else_cut (tree.Else body) = record { cut = (stmt_cut body).cut }

      -- the groups of a `switch`
      pub groups_cut : {m : Count} (groups : Row_of-Group m) (j : ℕ) → IsCutLast n (groups_of s call k groups j)
      groups_cut end_of-Group j = record { cut = λ w le. omega arith }
      groups_cut (more_of-Group labels shape body rest) zero =
          record { cut = (followed_by_cut n _ _ (stmts_cut body) (groups_cut rest zero)).cut }
      groups_cut (more_of-Group labels shape body rest) (suc j) = record { cut = (groups_cut rest j).cut }

    -- the body of a procedure
    pub runs_cut : (body : List Stmt) → IsCutLast n (runs s call k body)
    runs_cut body = in_order_cut n (stmt_of s call k) body stmt_cut
