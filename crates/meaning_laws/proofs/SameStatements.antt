-- A statement does the same with calls that do, and with each number that is not less than the turns left.
use mathlib.Core.Former.{Count}
use Rattle.std.specs.Prelude.{ℕ, zero, suc, ◌≤◌, true, false, List, [], ◌∷◌, map, Option, Some, None}
use Rattle.std.proofs.Common.{arith, refl}
use Rattle.int_kinds.specs.Kind.{wrap}
use Rattle.write_format.specs.declared.piece.Piece.{Piece}
use Rattle.control_flow.specs.World.{Gives}
use Rattle.control_flow.specs.Control.{Calls, Computes, Does, GoesOn, Returns, leaving_switch}
use Rattle.control_flow.specs.Turns.{AddsNoTurns, Agree}
use Rattle.control_flow.proofs.Turns.{nothing_adds_none}
use Rattle.control_flow.proofs.Fuel.{agree_below, same_followed_by, same_in_order, same_loop, same_round}
use Rattle.capl_tree.specs.declared.expr.Expr.{Expr, items-the_row-Expr}
use Rattle.capl_tree.specs.declared.expr.Expr.TheVariants as expr
use Rattle.capl_tree.specs.declared.statement.Stmt.{Stmt, Row_of-Stmt, end_of-Stmt, more_of-Stmt}
use Rattle.capl_tree.specs.declared.statement.Stmt.TheBlock.{Row_of-Arm, end_of-Arm, more_of-Arm, Row_of-Group, end_of-Group, more_of-Group, Held-Stmt-If-1}
use Rattle.capl_tree.specs.declared.statement.Stmt.TheVariants as stmt
use Rattle.capl_tree.specs.Forms as tree
use Rattle.capl_meaning.specs.declared.builtin.Builtin.TheVariants as builtin
use Rattle.capl_meaning.specs.Variable.{Variable}
use Rattle.capl_meaning.specs.Names.{Callee, OfLanguage, callee}
use Rattle.capl_meaning.specs.Format.{quoted_text}
use Rattle.capl_meaning.specs.Message.{Held, HeldVariable, message_in}
use Rattle.capl_meaning.specs.Sort.{is_number, sort_of}
use Rattle.capl_meaning.specs.Constant.{prefix_kind}
use Rattle.capl_meaning.specs.Expression.{Memory, Setting, timer_in}
use Rattle.capl_meaning.specs.Statement.{alone_of, arms_of, assigns, calls_alone, drops, else_of, fitting_pieces, group_for, groups_of, group_labels, numbers_of, part_of, returns, sets, sets_timer, stmt_of, stmts_of, with_line, runs}
use Rattle.capl_meaning.specs.Inside.Statement.{for_test, wrapped_to, writes_line}
use Rattle.meaning_laws.proofs.Parts.{same_either, same_map, same_next, same_self, same_test}
use Rattle.meaning_laws.proofs.Expressions.{value_adds_none}
use Rattle.meaning_laws.proofs.Statements.{for_test_adds_none, groups_add_none, numbers_add_none, part_adds_none, stmt_adds_none, stmts_add_none}
use Rattle.meaning_laws.proofs.SameExpressions.{same_value}

module _ (n : ℕ) (s : Setting) where
  -- an assignment that may copy a message
  same_assigns : (to from : Option Held) (other other' : Does Memory) → Agree n other other' → Agree n (assigns s to from other) (assigns s to from other')
  same_assigns (Some (HeldVariable v signals)) (Some from) other other' h = record { same = λ w le. refl }
  same_assigns to from other other' h = record { same = h.same }

  -- the setting of a timer
  same_sets_timer : (timer : Option Variable) (cyclic : _) (duration duration' : Computes Memory) → AddsNoTurns duration' → Agree n duration duration' →
      Agree n (sets_timer s timer cyclic duration) (sets_timer s timer cyclic duration')
  same_sets_timer None cyclic duration duration' adds h = record { same = λ w le. refl }
  same_sets_timer (Some v) cyclic duration duration' adds h =
      record { same = (same_next n duration duration' _ _ adds h (λ d. same_self n (sets s v cyclic d))).same }

module _ (n : ℕ) (s : Setting) (call call' : Calls Memory) (calls : (f : ℕ) → AddsNoTurns (call' f)) (same : (f : ℕ) → Agree n (call f) (call' f)) where
  -- the numbers of a line
  same_numbers : (all : List Expr) → Agree n (numbers_of s call all) (numbers_of s call' all)
  same_numbers [] = record { same = λ w le. refl }
  same_numbers (e ∷ rest) = record {
    same = (same_either n (is_number (sort_of s.scope e)) _ _ _ _
        (same_next n _ _ _ _ (value_adds_none s call' calls e) (same_value n s call call' calls same e) (λ v. same_map n (λ vs. v ∷ vs) _ _ (same_numbers rest)))
        (same_numbers rest)).same;
  }

  -- a line
  same_writes : (pieces : Option (List Piece)) (arguments : List Expr) → Agree n (writes_line s call pieces arguments) (writes_line s call' pieces arguments)
  same_writes None arguments = record { same = λ w le. refl }
  same_writes (Some pieces) arguments = record {
    same = (same_next n _ _ _ _ (numbers_add_none s call' calls arguments) (same_numbers arguments) (λ ns.
        same_self n (λ w. Gives GoesOn (with_line s pieces arguments ns w)))).same;
  }

  -- a value that is dropped
  same_drops : (e : Expr) → Agree n (drops s call e) (drops s call' e)
  same_drops e = record { same = (same_map n (λ _. GoesOn) _ _ (same_value n s call call' calls same e)).same }

  -- a call that stands alone
  same_calls_alone : (found : Callee) (arguments : List Expr) (other other' : Does Memory) → Agree n other other' →
      Agree n (calls_alone s call found arguments other) (calls_alone s call' found arguments other')
  same_calls_alone (OfLanguage builtin.Output) (message ∷ []) other other' h = record { same = λ w le. refl }
  same_calls_alone (OfLanguage builtin.Write) (format ∷ arguments) other other' h =
      record { same = (same_writes (fitting_pieces (map (sort_of s.scope) arguments) (quoted_text format)) arguments).same }
  same_calls_alone (OfLanguage builtin.SetTimer) (timer ∷ duration ∷ []) other other' h = record {
    same = (same_sets_timer n s (timer_in s.scope timer) false _ _ (value_adds_none s call' calls duration) (same_value n s call call' calls same duration)).same;
  }
  same_calls_alone (OfLanguage builtin.SetTimerCyclic) (timer ∷ duration ∷ []) other other' h = record {
    same = (same_sets_timer n s (timer_in s.scope timer) true _ _ (value_adds_none s call' calls duration) (same_value n s call call' calls same duration)).same;
  }
  same_calls_alone (OfLanguage builtin.CancelTimer) (timer ∷ []) other other' h = record { same = λ w le. refl }
  same_calls_alone (OfLanguage builtin.Stop) [] other other' h = record { same = λ w le. refl }
  same_calls_alone found arguments other other' h = record { same = h.same }

  -- an expression that stands alone does the same
  pub same_alone : (e : Expr) → Agree n (alone_of s call e) (alone_of s call' e)
  same_alone (tree.Paren inner at) = record { same = (same_alone inner).same }
  same_alone (expr.Call' name shape args at) = record {
    same = (same_calls_alone (callee s.scope.names name) (items-the_row-Expr _ args) _ _ (same_drops (expr.Call' name shape args at))).same;
  }
  same_alone (tree.Assign None left right at) = record {
    same = (same_assigns n s (message_in s.scope left) (message_in s.scope right) _ _ (same_drops (tree.Assign None left right at))).same;
  }
  same_alone e = record { same = (same_drops e).same }

  -- the first or third part of a `for` does the same
  same_part : (part : Option Expr) → Agree n (part_of s call part) (part_of s call' part)
  same_part None = record { same = λ w le. refl }
  same_part (Some e) = record { same = (same_alone e).same }

  -- the test of a `for` does the same
  same_for_test : (test : Option Expr) → Agree n (for_test s call test) (for_test s call' test)
  same_for_test None = record { same = λ w le. refl }
  same_for_test (Some e) = record { same = (same_value n s call call' calls same e).same }

  -- a `return` does the same
  same_returns : (value : Option Expr) → Agree n (returns s call value) (returns s call' value)
  same_returns None = record { same = λ w le. refl }
  same_returns (Some e) = record { same = (same_map n (λ v. Returns (wrapped_to s.scope.gives v)) _ _ (same_value n s call call' calls same e)).same }

  module _ (k k' : ℕ) (enough : n ≤ k) (enough' : n ≤ k') where
    mutual
      -- a statement does the same with two numbers that are not less than the turns left
      pub same_stmt : (st : Stmt) → Agree n (stmt_of s call k st) (stmt_of s call' k' st)
      same_stmt stmt.Empty = record { same = λ w le. refl }
      same_stmt (stmt.Block' shape body) = record { same = (same_stmts body).same }
      same_stmt (stmt.Decl declaration) = record { same = λ w le. refl }
      same_stmt (stmt.Expr e) = record { same = (same_alone e).same }
      same_stmt (stmt.If' shape arms other) = record { same = (same_arms arms _ _ (same_else other)).same }
      same_stmt (tree.While test body) = record {
        same = (same_loop n (suc k) (suc k') _ _ _ _ _ _ (omega (arith, enough)) (omega (arith, enough')) (value_adds_none s call' calls test)
            (stmt_adds_none s call' calls k' body) nothing_adds_none (same_value n s call call' calls same test) (same_stmt body) (record { same = λ w le. refl })).same;
      }
      same_stmt (tree.Do body test) = record {
        same = (same_round n _ _ _ _ (stmt_adds_none s call' calls k' body) (same_stmt body) (λ m less.
            same_loop m k k' _ _ _ _ _ _ (omega (arith, enough, less)) (omega (arith, enough', less)) (value_adds_none s call' calls test)
            (stmt_adds_none s call' calls k' body) nothing_adds_none (agree_below m n _ _ (omega (arith, less)) (same_value n s call call' calls same test))
            (agree_below m n _ _ (omega (arith, less)) (same_stmt body)) (record { same = λ w le. refl }))).same;
      }
      same_stmt (tree.For init test step body) = record {
        same = (same_followed_by n _ _ _ _ (part_adds_none s call' calls init) (same_part init)
            (same_loop n (suc k) (suc k') _ _ _ _ _ _ (omega (arith, enough)) (omega (arith, enough')) (for_test_adds_none s call' calls test)
            (stmt_adds_none s call' calls k' body) (part_adds_none s call' calls step) (same_for_test test) (same_stmt body) (same_part step))).same;
      }
      same_stmt (stmt.Switch' on shape groups) = record {
        same = (same_next n _ _ _ _ (value_adds_none s call' calls on) (same_value n s call call' calls same on) (λ v.
            let group = group_for (wrap (prefix_kind s.scope on) v) (group_labels s.scope (prefix_kind s.scope on) groups) in
            same_next n _ _ _ _ (groups_add_none s call' calls k' groups group) (same_groups groups group) (λ end. same_self n (leaving_switch end)))).same;
      }
      same_stmt (stmt.Break at) = record { same = λ w le. refl }
      same_stmt (stmt.Continue at) = record { same = λ w le. refl }
      same_stmt (stmt.Return value at) = record { same = (same_returns value).same }

      -- statements in a row do the same
      same_stmts : {m : Count} (all : Row_of-Stmt m) → Agree n (stmts_of s call k all) (stmts_of s call' k' all)
      same_stmts end_of-Stmt = record { same = λ w le. refl }
      same_stmts (more_of-Stmt first rest) =
          record { same = (same_followed_by n _ _ _ _ (stmt_adds_none s call' calls k' first) (same_stmt first) (same_stmts rest)).same }

      -- the arms of an `if` do the same
      same_arms : {m : Count} (arms : Row_of-Arm m) (other other' : Does Memory) → Agree n other other' →
          Agree n (arms_of s call k arms other) (arms_of s call' k' arms other')
      same_arms end_of-Arm other other' h = record { same = h.same }
      same_arms (more_of-Arm test body rest) other other' h = record {
        same = (same_test n _ _ _ _ _ _ (value_adds_none s call' calls test) (same_value n s call call' calls same test) (same_stmt body)
            (same_arms rest other other' h)).same;
      }

      -- what stands behind a last `else` does the same
      same_else : (other : Held-Stmt-If-1) → Agree n (else_of s call k other) (else_of s call' k' other)
      same_else tree.NoElse = record { same = λ w le. refl }
      same_else (tree.Else body) = record { same = (same_stmt body).same }

      -- the groups of a `switch` do the same
      same_groups : {m : Count} (groups : Row_of-Group m) (j : ℕ) → Agree n (groups_of s call k groups j) (groups_of s call' k' groups j)
      same_groups end_of-Group j = record { same = λ w le. refl }
      same_groups (more_of-Group labels shape body rest) zero = record {
        same = (same_followed_by n _ _ _ _ (stmts_add_none s call' calls k' body) (same_stmts body) (same_groups rest zero)).same;
      }
      same_groups (more_of-Group labels shape body rest) (suc j) = record { same = (same_groups rest j).same }

    -- the body of a procedure does the same
    pub same_runs : (body : List Stmt) → Agree n (runs s call k body) (runs s call' k' body)
    same_runs body = same_in_order n _ _ body (stmt_adds_none s call' calls k') same_stmt
