-- The meaning of an expression, a statement or a call is the same for each number of turns that is not less than those left.
use mathlib.Core.Former.{Count}
use Rattle.std.specs.Prelude.{ℕ, zero, suc, ◌≤◌, List, [], ◌∷◌, Option, Some, None}
use Rattle.std.proofs.Common.{ap, arith, refl}
use Rattle.control_flow.specs.World.{run_map}
use Rattle.control_flow.specs.Control.{Calls, Does, Returns}
use Rattle.control_flow.specs.Turns.{AddsNoTurns, Agree}
use Rattle.control_flow.proofs.Turns.{nothing_adds_none}
use Rattle.control_flow.proofs.Fuel.{agree_below, same_calls, same_deciding, same_followed_by, same_in_order, same_loop, same_round, same_then}
use Rattle.typed_tree.specs.declared.expression.Place.{Place}
use Rattle.typed_tree.specs.declared.expression.Place.TheVariants.{Cell, Signal}
use Rattle.typed_tree.specs.declared.expression.Place.TheVariants as place
use Rattle.typed_tree.specs.declared.expression.TExpr.{TExpr, Row_of-TExpr, end_of-TExpr, more_of-TExpr}
use Rattle.typed_tree.specs.declared.expression.TExpr.TheVariants.{Const, Load, Bump, Call', Active, Now}
use Rattle.typed_tree.specs.declared.statement.TStmt.{TStmt, Row_of-TStmt, end_of-TStmt, more_of-TStmt}
use Rattle.typed_tree.specs.declared.statement.TStmt.TheVariants.{Empty, Block', If', Switch', Break, Continue, Return, Eval, Write, Send, Copy, Halt, Set, Cancel}
use Rattle.typed_tree.specs.declared.statement.TStmt.TheBlock.{Held-TStmt-If-1, Row_of-TArm, end_of-TArm, more_of-TArm, Row_of-TGroup, end_of-TGroup, more_of-TGroup}
use Rattle.typed_tree.specs.Forms.{Binary, Both, Bytes, Cond, Convert, Do, Either, Elem, For, NoPart, Part, Store, Unary, Update, While}
use Rattle.typed_tree.specs.Memory.{Memory}
use Rattle.typed_tree.specs.Expression.{Setting, spot_of, truth_of, value_of, values_of}
use Rattle.typed_tree.specs.Statement.{arms_of, for_test, group_for, groups_of, labels_of, numbers_of, part_of, returns, stmt_of, stmts_of}
use Rattle.typed_tree.specs.Program.{body_of, calls_of, runs}
use Rattle.typed_tree.proofs.TurnsLeft.{for_test_adds_none, part_adds_none, runs_add_none, stmt_adds_none, value_adds_none, spot_adds_none, values_add_none, groups_add_none, numbers_add_none, stmts_add_none}

-- one of two equal calls does the same
module _ (s : Setting) (call call' : Calls Memory) (calls : (f : ℕ) → AddsNoTurns (call' f)) (n : ℕ)
    (same : (f : ℕ) → Agree n (call f) (call' f)) where
  mutual
    -- an expression does the same with calls that agree
    pub same_value : (e : TExpr) → Agree n (value_of s call e) (value_of s call' e)
    same_value (Const m) = record { same = λ w le. refl }
    same_value (Load place) = record {
      same = λ w le. same_then w.turns _ _ _ _ ((same_spot place).same w le) ((spot_adds_none s call' calls place).turns w)
          (λ spot. record { same = λ w' le'. refl });
    }
    same_value (Store place e) = record {
      same = λ w le. same_then w.turns _ _ _ _ ((same_spot place).same w le) ((spot_adds_none s call' calls place).turns w)
          (λ spot. record {
            same = λ w' le'. same_then w'.turns _ _ _ _ ((same_value e).same w' (omega (arith, le, le'))) ((value_adds_none s call' calls e).turns w')
                (λ m. record { same = λ w'' le''. refl });
          });
    }
    same_value (Update op k back place e) = record {
      same = λ w le. same_then w.turns _ _ _ _ ((same_spot place).same w le) ((spot_adds_none s call' calls place).turns w)
          (λ spot. record {
            same = λ w' le'. same_then w'.turns _ _ _ _ ((same_value e).same w' (omega (arith, le, le'))) ((value_adds_none s call' calls e).turns w')
                (λ m. record { same = λ w'' le''. refl });
          });
    }
    same_value (Bump place k up post) = record {
      same = λ w le. same_then w.turns _ _ _ _ ((same_spot place).same w le) ((spot_adds_none s call' calls place).turns w)
          (λ spot. record { same = λ w' le'. refl });
    }
    same_value (Unary op k e) = record {
      same = λ w le. same_then w.turns _ _ _ _ ((same_value e).same w le) ((value_adds_none s call' calls e).turns w)
          (λ m. record { same = λ w' le'. refl });
    }
    same_value (Binary op k a b) = record {
      same = λ w le. same_then w.turns _ _ _ _ ((same_value a).same w le) ((value_adds_none s call' calls a).turns w)
          (λ m. record {
            same = λ w' le'. same_then w'.turns _ _ _ _ ((same_value b).same w' (omega (arith, le, le'))) ((value_adds_none s call' calls b).turns w')
                (λ m'. record { same = λ w'' le''. refl });
          });
    }
    same_value (Both a b) = record {
      same = λ w le. same_deciding w.turns _ _ _ _ _ _ ((same_value a).same w le) ((value_adds_none s call' calls a).turns w)
          (record { same = λ w' le'. ap (run_map truth_of) ((same_value b).same w' (omega (arith, le, le'))) }) (record { same = λ w' le'. refl });
    }
    same_value (Either a b) = record {
      same = λ w le. same_deciding w.turns _ _ _ _ _ _ ((same_value a).same w le) ((value_adds_none s call' calls a).turns w)
          (record { same = λ w' le'. refl }) (record { same = λ w' le'. ap (run_map truth_of) ((same_value b).same w' (omega (arith, le, le'))) });
    }
    same_value (Cond test a b) = record {
      same = λ w le. same_deciding w.turns _ _ _ _ _ _ ((same_value test).same w le) ((value_adds_none s call' calls test).turns w)
          (agree_below w.turns n _ _ le (same_value a)) (agree_below w.turns n _ _ le (same_value b));
    }
    same_value (Convert k e) = record {
      same = λ w le. same_then w.turns _ _ _ _ ((same_value e).same w le) ((value_adds_none s call' calls e).turns w)
          (λ m. record { same = λ w' le'. refl });
    }
    same_value (Call' f shape args) = record {
      same = λ w le. same_then w.turns _ _ _ _ ((same_values args).same w le) ((values_add_none s call' calls args).turns w)
          (λ ns. record { same = λ w' le'. (same f).same _ (omega (arith, le, le')) });
    }
    same_value (Active timer) = record { same = λ w le. refl }
    same_value Now = record { same = λ w le. refl }

    -- a place does the same
    pub same_spot : (place : Place) → Agree n (spot_of s call place) (spot_of s call' place)
    same_spot (Cell cell) = record { same = λ w le. refl }
    same_spot (Elem base len index) = record {
      same = λ w le. same_then w.turns _ _ _ _ ((same_value index).same w le) ((value_adds_none s call' calls index).turns w)
          (λ i. record { same = λ w' le'. refl });
    }
    same_spot (place.Set at field) = record { same = λ w le. refl }
    same_spot (Bytes at k index) = record {
      same = λ w le. same_then w.turns _ _ _ _ ((same_value index).same w le) ((value_adds_none s call' calls index).turns w)
          (λ i. record { same = λ w' le'. refl });
    }
    same_spot (Signal at l) = record { same = λ w le. refl }

    -- arguments do the same
    pub same_values : {m : Count} (args : Row_of-TExpr m) → Agree n (values_of s call args) (values_of s call' args)
    same_values end_of-TExpr = record { same = λ w le. refl }
    same_values (more_of-TExpr e rest) = record {
      same = λ w le. same_then w.turns _ _ _ _ ((same_value e).same w le) ((value_adds_none s call' calls e).turns w)
          (λ m. record {
            same = λ w' le'. same_then w'.turns _ _ _ _ ((same_values rest).same w' (omega (arith, le, le'))) ((values_add_none s call' calls rest).turns w')
                (λ ms. record { same = λ w'' le''. refl });
          });
    }

  -- expressions in order do the same
  same_numbers : (all : List TExpr) → Agree n (numbers_of s call all) (numbers_of s call' all)
  same_numbers [] = record { same = λ w le. refl }
  same_numbers (e ∷ rest) = record {
    same = λ w le. same_then w.turns _ _ _ _ ((same_value e).same w le) ((value_adds_none s call' calls e).turns w)
        (λ m. record {
          same = λ w' le'. same_then w'.turns _ _ _ _ ((same_numbers rest).same w' (omega (arith, le, le'))) ((numbers_add_none s call' calls rest).turns w')
              (λ ms. record { same = λ w'' le''. refl });
        });
  }

  -- a `return` does the same
  same_returns : (value : Option TExpr) → Agree n (returns s call value) (returns s call' value)
  same_returns None = record { same = λ w le. refl }
  same_returns (Some e) = record { same = λ w le. ap (run_map Returns) ((same_value e).same w le) }

  -- the test of a `for` does the same
  same_for_test : (test : Option TExpr) → Agree n (for_test s call test) (for_test s call' test)
  same_for_test None = record { same = λ w le. refl }
  same_for_test (Some e) = record { same = (same_value e).same }

  module _ (k k' : ℕ) (enough : n ≤ k) (enough' : n ≤ k') where
    mutual
      -- a statement does the same with two numbers that are not less than the turns left
      pub same_stmt : (st : TStmt) → Agree n (stmt_of s call k st) (stmt_of s call' k' st)
      same_stmt Empty = record { same = λ w le. refl }
      same_stmt (Block' shape all) = record { same = (same_stmts all).same }
      same_stmt (If' shape arms other) = record { same = (same_arms arms _ _ (same_part other)).same }
      same_stmt (While test body) = record {
        same = (same_loop n (suc k) (suc k') _ _ _ _ _ _ (omega (arith, enough)) (omega (arith, enough')) (value_adds_none s call' calls test)
            (stmt_adds_none s call' calls k' body) nothing_adds_none (same_value test) (same_stmt body) (record { same = λ w le. refl })).same;
      }
      same_stmt (Do body test) = record {
        same = (same_round n _ _ _ _ (stmt_adds_none s call' calls k' body) (same_stmt body) (λ m less.
            same_loop m k k' _ _ _ _ _ _ (omega (arith, enough, less)) (omega (arith, enough', less)) (value_adds_none s call' calls test)
            (stmt_adds_none s call' calls k' body) nothing_adds_none (agree_below m n _ _ (omega (arith, less)) (same_value test))
            (agree_below m n _ _ (omega (arith, less)) (same_stmt body)) (record { same = λ w le. refl }))).same;
      }
      same_stmt (For init test step body) = record {
        same = (same_followed_by n _ _ _ _ (part_adds_none s call' calls k' init) (same_part init)
            (same_loop n (suc k) (suc k') _ _ _ _ _ _ (omega (arith, enough)) (omega (arith, enough')) (for_test_adds_none s call' calls test)
            (stmt_adds_none s call' calls k' body) (part_adds_none s call' calls k' step) (same_for_test test) (same_stmt body) (same_part step))).same;
      }
      same_stmt (Switch' on shape groups) = record {
        same = λ w le. same_then w.turns _ _ _ _ ((same_value on).same w le) ((value_adds_none s call' calls on).turns w)
            (λ v. record {
              same = λ w' le'. same_then w'.turns _ _ _ _ ((same_groups groups (group_for v (labels_of groups))).same w' (omega (arith, le, le')))
                  ((groups_add_none s call' calls k' groups (group_for v (labels_of groups))).turns w') (λ end. record { same = λ w'' le''. refl });
            });
      }
      same_stmt Break = record { same = λ w le. refl }
      same_stmt Continue = record { same = λ w le. refl }
      same_stmt (Return value) = record { same = (same_returns value).same }
      same_stmt (Eval e) = record {
        same = λ w le. same_then w.turns _ _ _ _ ((same_value e).same w le) ((value_adds_none s call' calls e).turns w)
            (λ m. record { same = λ w' le'. refl });
      }
      same_stmt (Write format args) = record {
        same = λ w le. same_then w.turns _ _ _ _ ((same_numbers args).same w le) ((numbers_add_none s call' calls args).turns w)
            (λ ns. record { same = λ w' le'. refl });
      }
      same_stmt (Send at) = record { same = λ w le. refl }
      same_stmt (Copy to from) = record { same = λ w le. refl }
      same_stmt Halt = record { same = λ w le. refl }
      same_stmt (Set timer cyclic e) = record {
        same = λ w le. same_then w.turns _ _ _ _ ((same_value e).same w le) ((value_adds_none s call' calls e).turns w)
            (λ m. record { same = λ w' le'. refl });
      }
      same_stmt (Cancel timer) = record { same = λ w le. refl }

      -- statements one after the other do the same
      pub same_stmts : {m : Count} (all : Row_of-TStmt m) → Agree n (stmts_of s call k all) (stmts_of s call' k' all)
      same_stmts end_of-TStmt = record { same = λ w le. refl }
      same_stmts (more_of-TStmt st rest) =
          record { same = (same_followed_by n _ _ _ _ (stmt_adds_none s call' calls k' st) (same_stmt st) (same_stmts rest)).same }

      -- the arms of an `if` do the same
      pub same_arms : {m : Count} (arms : Row_of-TArm m) (other other' : Does Memory) → Agree n other other' →
          Agree n (arms_of s call k arms other) (arms_of s call' k' arms other')
      same_arms end_of-TArm other other' h = record { same = h.same }
      same_arms (more_of-TArm test body rest) other other' h = record {
        same = λ w le. same_deciding w.turns _ _ _ _ _ _ ((same_value test).same w le) ((value_adds_none s call' calls test).turns w)
            (agree_below w.turns n _ _ le (same_stmt body)) (agree_below w.turns n _ _ le (same_arms rest other other' h));
      }

      -- a part that may be missing does the same
      pub same_part : (part : Held-TStmt-If-1) → Agree n (part_of s call k part) (part_of s call' k' part)
      same_part NoPart = record { same = λ w le. refl }
      same_part (Part part) = record { same = (same_stmt part).same }

      -- the groups of a `switch` do the same
      pub same_groups : {m : Count} (groups : Row_of-TGroup m) (j : ℕ) → Agree n (groups_of s call k groups j) (groups_of s call' k' groups j)
      same_groups end_of-TGroup j = record { same = λ w le. refl }
      same_groups (more_of-TGroup labels shape body rest) zero = record {
        same = (same_followed_by n _ _ _ _ (stmts_add_none s call' calls k' body) (same_stmts body) (same_groups rest zero)).same;
      }
      same_groups (more_of-TGroup labels shape body rest) (suc j) = record { same = (same_groups rest j).same }

-- the body of a procedure does the same with calls that agree and two numbers that are not less than the turns left
pub same_runs : (s : Setting) (call call' : Calls Memory) (n k k' : ℕ) (body : List TStmt) → n ≤ k → n ≤ k' →
    ((f : ℕ) → AddsNoTurns (call' f)) → ((f : ℕ) → Agree n (call f) (call' f)) → Agree n (runs s call k body) (runs s call' k' body)
same_runs s call call' n k k' body enough enough' calls same =
    same_in_order n _ _ body (stmt_adds_none s call' calls k') (same_stmt s call call' calls n same k k' enough enough')

-- a call does the same with two numbers that are not less than the turns left
pub same_program_calls : (s : Setting) (n k k' f : ℕ) → n ≤ k → n ≤ k' → Agree n (calls_of s k f) (calls_of s k' f)
same_program_calls s n k k' f enough enough' = same_calls (λ call n f. runs s call n (body_of s.typed f))
    (λ call m g calls. runs_add_none s call m (body_of s.typed g) calls)
    (λ call call' m j j' g le le' calls same. same_runs s call call' m j j' (body_of s.typed g) le le' calls same) n k k' f enough enough'
