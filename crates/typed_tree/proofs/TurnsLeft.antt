-- No expression, statement or call adds turns.
use mathlib.Core.Former.{Count}
use Rattle.std.specs.Prelude.{◌≡◌, ℕ, zero, suc, ◌≤◌, Bool, List, [], ◌∷◌, nat_lt, Option, Some, None, true, false, if◌then◌else◌, ℤ, pos, negsuc, slice_get, slice_index_or}
use Rattle.std.specs.Option.{option_map_or}
use Rattle.std.proofs.Common.{arith, refl}
use Rattle.int_kinds.specs.declared.kinds.Kind.{Kind}
use Rattle.int_kinds.specs.declared.operators.BinOp.{BinOp}
use Rattle.int_kinds.specs.declared.operators.BinOp.TheVariants.{Add, Sub}
use Rattle.int_kinds.specs.Arithmetic.{value}
use Rattle.run_effects.specs.declared.outcome.Outcome.TheVariants.{Trapped}
use Rattle.run_effects.specs.declared.outcome.TrapKind.TheVariants.{Index}
use Rattle.run_effects.specs.Effect as effect
use Rattle.write_format.specs.Line.{FormatText, rendered}
use Rattle.control_flow.specs.World.{World, Gives, Fails, after_effect}
use Rattle.control_flow.specs.Control.{Calls, Does}
use Rattle.control_flow.specs.Turns.{AddsNoTurns, LeavesAtMost}
use Rattle.control_flow.proofs.Turns.{at_most_deciding, at_most_leaving, at_most_map, at_most_then, calls_add_none, followed_by_adds_none, in_order_adds_none, loop_adds_none, nothing_adds_none, round_adds_none}
use Rattle.typed_tree.specs.declared.expression.Place.{Place}
use Rattle.typed_tree.specs.declared.expression.Place.TheVariants.{Cell, Signal}
use Rattle.typed_tree.specs.declared.expression.Place.TheVariants as place
use Rattle.typed_tree.specs.declared.expression.TExpr.{TExpr, Row_of-TExpr, end_of-TExpr, more_of-TExpr}
use Rattle.typed_tree.specs.declared.expression.TExpr.TheVariants.{Const, Load, Bump, Call', Active, Now}
use Rattle.typed_tree.specs.declared.statement.TStmt.{TStmt, Row_of-TStmt, end_of-TStmt, more_of-TStmt}
use Rattle.typed_tree.specs.declared.statement.TStmt.TheVariants.{Empty, Block', If', Switch', Break, Continue, Return, Eval, Write, Send, Copy, Halt, Set, Cancel}
use Rattle.typed_tree.specs.declared.statement.TStmt.TheBlock.{Held-TStmt-If-1, Row_of-TArm, end_of-TArm, more_of-TArm, Row_of-TGroup, end_of-TGroup, more_of-TGroup}
use Rattle.typed_tree.specs.Forms.{Binary, Both, Bytes, Cond, Convert, Do, Either, Elem, For, NoPart, Part, Store, Unary, Update, While}
use Rattle.typed_tree.specs.Memory.{Memory, read, with_timer}
use Rattle.typed_tree.specs.Expression.{Setting, gives_or_traps, indexing, operates, spot_of, stores, value_of, values_of}
use Rattle.run_effects.specs.Effect.{micros}
use Rattle.typed_tree.specs.Statement.{arms_of, for_test, groups_of, group_for, labels_of, numbers_of, part_of, returns, sets, stmt_of, stmts_of, unless_closed, writes}
use Rattle.typed_tree.specs.Program.{body_of, calls_of, runs}

at_most_indexing : {A : Type 0} (len : ℕ) (i : ℤ) (w : World Memory) (spot : ℕ → A) → LeavesAtMost w.turns (indexing len i w spot)
at_most_indexing len (pos i) w spot = at_most_if (nat_lt i len)
  where
    at_most_if : (b : Bool) → LeavesAtMost w.turns (if b then Gives (spot i) w else Fails (Trapped Index) w)
    at_most_if true = omega arith
    at_most_if false = omega arith
at_most_indexing len (negsuc i) w spot = omega arith

at_most_operates : (op : BinOp) (k : Kind) (a b : ℤ) (w : World Memory) → LeavesAtMost w.turns (operates op k a b w)
at_most_operates op k a b w = at_most_value (value op k a b)
  where
    at_most_value : (n : Option ℤ) → LeavesAtMost w.turns (gives_or_traps n w)
    at_most_value None = omega arith
    at_most_value (Some n) = omega arith

module _ (s : Setting) (call : Calls Memory) (calls : (f : ℕ) → AddsNoTurns (call f)) where
  mutual
    -- an expression adds no turns, where calls add none
    pub value_adds_none : (e : TExpr) → AddsNoTurns (value_of s call e)
    value_adds_none (Const n) = record { turns = λ w. omega arith }
    value_adds_none (Load place) = record { turns = λ w. at_most_then w.turns _ _ ((spot_adds_none place).turns w) (λ spot w. omega arith) }
    value_adds_none (Store place e) = record {
      turns = λ w. at_most_then w.turns _ _ ((spot_adds_none place).turns w) (λ spot w.
          at_most_then w.turns _ _ ((value_adds_none e).turns w) (λ n w. omega arith));
    }
    value_adds_none (Update op k back place e) = record {
      turns = λ w. at_most_then w.turns _ _ ((spot_adds_none place).turns w) (λ spot w.
          at_most_then w.turns _ _ ((value_adds_none e).turns w) (λ n w.
          at_most_then w.turns _ _ (at_most_operates op k _ n w) (λ new w. omega arith)));
    }
    value_adds_none (Bump place k up post) = record {
      turns = λ w. at_most_then w.turns _ _ ((spot_adds_none place).turns w) (λ spot w.
          at_most_then w.turns _ _ (at_most_operates (if up then Add else Sub) k (read spot w.memory.cells) (pos 1) w) (λ new w'.
          at_most_map w'.turns (λ now. if post then read spot w.memory.cells else now) (stores s spot new w') (omega arith)));
    }
    value_adds_none (Unary op k e) = record { turns = λ w. at_most_map w.turns _ _ ((value_adds_none e).turns w) }
    value_adds_none (Binary op k a b) = record {
      turns = λ w. at_most_then w.turns _ _ ((value_adds_none a).turns w) (λ m w.
          at_most_then w.turns _ _ ((value_adds_none b).turns w) (λ n w. at_most_operates op k m n w));
    }
    value_adds_none (Both a b) = record {
      turns = λ w. at_most_deciding w.turns _ _ _ ((value_adds_none a).turns w)
          (record { turns = λ w. at_most_map w.turns _ _ ((value_adds_none b).turns w) }) (record { turns = λ w. omega arith });
    }
    value_adds_none (Either a b) = record {
      turns = λ w. at_most_deciding w.turns _ _ _ ((value_adds_none a).turns w) (record { turns = λ w. omega arith })
          (record { turns = λ w. at_most_map w.turns _ _ ((value_adds_none b).turns w) });
    }
    value_adds_none (Cond test a b) =
        record { turns = λ w. at_most_deciding w.turns _ _ _ ((value_adds_none test).turns w) (value_adds_none a) (value_adds_none b) }
    value_adds_none (Convert k e) = record { turns = λ w. at_most_map w.turns _ _ ((value_adds_none e).turns w) }
    value_adds_none (Call' f shape args) = record {
      turns = λ w. at_most_then w.turns _ _ ((values_add_none args).turns w) (λ ns w. (calls f).turns _);
    }
    value_adds_none (Active timer) = record { turns = λ w. omega arith }
    value_adds_none Now = record { turns = λ w. omega arith }

    -- a place adds none
    pub spot_adds_none : (place : Place) → AddsNoTurns (spot_of s call place)
    spot_adds_none (Cell cell) = record { turns = λ w. omega arith }
    spot_adds_none (Elem base len index) = record {
      turns = λ w. at_most_then w.turns _ _ ((value_adds_none index).turns w) (λ i w. at_most_indexing len i w _);
    }
    spot_adds_none (place.Set at field) = record { turns = λ w. omega arith }
    spot_adds_none (Bytes at k index) = record {
      turns = λ w. at_most_then w.turns _ _ ((value_adds_none index).turns w) (λ i w. at_most_indexing _ i w _);
    }
    spot_adds_none (Signal at l) = record { turns = λ w. omega arith }

    -- arguments add none
    pub values_add_none : {m : Count} (args : Row_of-TExpr m) → AddsNoTurns (values_of s call args)
    values_add_none end_of-TExpr = record { turns = λ w. omega arith }
    values_add_none (more_of-TExpr e rest) = record {
      turns = λ w. at_most_then w.turns _ _ ((value_adds_none e).turns w) (λ n w. at_most_map w.turns _ _ ((values_add_none rest).turns w));
    }

  -- expressions in order add none
  pub numbers_add_none : (all : List TExpr) → AddsNoTurns (numbers_of s call all)
  numbers_add_none [] = record { turns = λ w. omega arith }
  numbers_add_none (e ∷ rest) = record {
    turns = λ w. at_most_then w.turns _ _ ((value_adds_none e).turns w) (λ n w. at_most_map w.turns _ _ ((numbers_add_none rest).turns w));
  }

  -- a `return` adds none
  pub returns_add_none : (value : Option TExpr) → AddsNoTurns (returns s call value)
  returns_add_none None = record { turns = λ w. omega arith }
  returns_add_none (Some e) = record { turns = λ w. at_most_map w.turns _ _ ((value_adds_none e).turns w) }

  -- the test of a `for` adds none
  pub for_test_adds_none : (test : Option TExpr) → AddsNoTurns (for_test s call test)
  for_test_adds_none None = record { turns = λ w. omega arith }
  for_test_adds_none (Some e) = value_adds_none e

  -- what changes unless the measurement has ended adds none, where the change does not
  unless_adds_none : (change : World Memory → World Memory) → ((w : World Memory) → (change w).turns ≡ w.turns) → AddsNoTurns (unless_closed s change)
  unless_adds_none change h = record { turns = λ w. at_most_unless s.closed w }
    where
      at_most_unless : (closed : Bool) (w : World Memory) → (if closed then w else change w).turns ≤ w.turns
      at_most_unless true w = omega arith
      at_most_unless false w = omega (arith, h w)

  -- a line adds none
  writes_adds_none : (format : ℕ) (ns : List ℤ) → AddsNoTurns (writes s format ns)
  writes_adds_none format ns = record { turns = λ w. at_most_line (slice_get s.typed.formats format) w }
    where
      at_most_line : (found : Option FormatText) (w : World Memory) →
          (option_map_or (λ format. after_effect (effect.Line (rendered format ns w.memory.cells)) w) found w).turns ≤ w.turns
      at_most_line None w = omega arith
      at_most_line (Some format) w = omega arith

  -- the setting of a timer adds none
  sets_adds_none : (timer : ℕ) (cyclic : Bool) (v : ℤ) → AddsNoTurns (sets s timer cyclic v)
  sets_adds_none timer cyclic v = unless_adds_none
      (λ w. after_effect (effect.Set timer (micros (slice_index_or s.typed.timers timer 0) v) cyclic) (with_timer timer true w)) (λ w. refl)

  module _ (n : ℕ) where
    mutual
      -- a statement adds none
      pub stmt_adds_none : (st : TStmt) → AddsNoTurns (stmt_of s call n st)
      stmt_adds_none Empty = record { turns = λ w. omega arith }
      stmt_adds_none (Block' shape all) = record { turns = (stmts_add_none all).turns }
      stmt_adds_none (If' shape arms other) = record { turns = (arms_add_none arms _ (part_adds_none other)).turns }
      stmt_adds_none (While test body) =
          record { turns = (loop_adds_none (suc n) _ _ _ (value_adds_none test) (stmt_adds_none body) nothing_adds_none).turns }
      stmt_adds_none (Do body test) = record {
        turns = (round_adds_none _ _ (stmt_adds_none body) (loop_adds_none n _ _ _ (value_adds_none test) (stmt_adds_none body) nothing_adds_none)).turns;
      }
      stmt_adds_none (For init test step body) = record {
        turns = (followed_by_adds_none _ _ (part_adds_none init)
            (loop_adds_none (suc n) _ _ _ (for_test_adds_none test) (stmt_adds_none body) (part_adds_none step))).turns;
      }
      stmt_adds_none (Switch' on shape groups) = record {
        turns = λ w. at_most_then w.turns _ _ ((value_adds_none on).turns w) (λ v w.
            at_most_then w.turns _ _ ((groups_add_none groups (group_for v (labels_of groups))).turns w) at_most_leaving);
      }
      stmt_adds_none Break = record { turns = λ w. omega arith }
      stmt_adds_none Continue = record { turns = λ w. omega arith }
      stmt_adds_none (Return value) = record { turns = (returns_add_none value).turns }
      stmt_adds_none (Eval e) = record { turns = λ w. at_most_map w.turns _ _ ((value_adds_none e).turns w) }
      stmt_adds_none (Write format args) = record {
        turns = λ w. at_most_then w.turns _ _ ((numbers_add_none args).turns w) (λ ns w. (writes_adds_none format ns).turns w);
      }
      stmt_adds_none (Send at) = record { turns = (unless_adds_none _ (λ w. refl)).turns }
      stmt_adds_none (Copy to from) = record { turns = λ w. omega arith }
      stmt_adds_none Halt = record { turns = (unless_adds_none _ (λ w. refl)).turns }
      stmt_adds_none (Set timer cyclic e) = record {
        turns = λ w. at_most_then w.turns _ _ ((value_adds_none e).turns w) (λ v w. (sets_adds_none timer cyclic v).turns w);
      }
      stmt_adds_none (Cancel timer) = record { turns = (unless_adds_none _ (λ w. refl)).turns }

      -- statements one after the other add none
      pub stmts_add_none : {m : Count} (all : Row_of-TStmt m) → AddsNoTurns (stmts_of s call n all)
      stmts_add_none end_of-TStmt = record { turns = λ w. omega arith }
      stmts_add_none (more_of-TStmt st rest) = record { turns = (followed_by_adds_none _ _ (stmt_adds_none st) (stmts_add_none rest)).turns }

      -- the arms of an `if` add none
      pub arms_add_none : {m : Count} (arms : Row_of-TArm m) (other : Does Memory) → AddsNoTurns other → AddsNoTurns (arms_of s call n arms other)
      arms_add_none end_of-TArm other h = record { turns = h.turns }
      arms_add_none (more_of-TArm test body rest) other h = record {
        turns = λ w. at_most_deciding w.turns _ _ _ ((value_adds_none test).turns w) (stmt_adds_none body) (arms_add_none rest other h);
      }

      -- a part that may be missing adds none
      pub part_adds_none : (part : Held-TStmt-If-1) → AddsNoTurns (part_of s call n part)
      part_adds_none NoPart = record { turns = λ w. omega arith }
      part_adds_none (Part part) = record { turns = (stmt_adds_none part).turns }

      -- the groups of a `switch` add none
      pub groups_add_none : {m : Count} (groups : Row_of-TGroup m) (k : ℕ) → AddsNoTurns (groups_of s call n groups k)
      groups_add_none end_of-TGroup k = record { turns = λ w. omega arith }
      groups_add_none (more_of-TGroup labels shape body rest) zero =
          record { turns = (followed_by_adds_none _ _ (stmts_add_none body) (groups_add_none rest zero)).turns }
      groups_add_none (more_of-TGroup labels shape body rest) (suc k) = record { turns = (groups_add_none rest k).turns }

-- the body of a procedure adds none, where calls add none
pub runs_add_none : (s : Setting) (call : Calls Memory) (n : ℕ) (body : List TStmt) → ((f : ℕ) → AddsNoTurns (call f)) →
    AddsNoTurns (runs s call n body)
runs_add_none s call n body calls = in_order_adds_none (stmt_of s call n) body (stmt_adds_none s call calls n)

-- the calls of a program add none
pub program_calls_add_none : (s : Setting) (n f : ℕ) → AddsNoTurns (calls_of s n f)
program_calls_add_none s n f =
    calls_add_none (λ call n f. runs s call n (body_of s.typed f)) (λ call n f calls. runs_add_none s call n (body_of s.typed f) calls) n f
