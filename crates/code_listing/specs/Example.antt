-- Three statements with their listings, from place 0 on, which show what the definitions of this crate come
-- to. The cells are `long`, and so are all operators.
use Rattle.std.specs.Prelude.{ℕ, true, [], ◌∷◌, pos, Some, None, replicate}
use Rattle.int_kinds.specs.declared.kinds.Kind.TheVariants.{Long}
use Rattle.int_kinds.specs.declared.operators.BinOp.TheVariants as op
use Rattle.bytecode.specs.declared.instr.Instr.TheVariants as instr
use Rattle.typed_tree.specs.declared.expression.Place.TheVariants.{Cell}
use Rattle.typed_tree.specs.declared.expression.TExpr.{TExpr}
use Rattle.typed_tree.specs.declared.expression.TExpr.TheVariants.{Const, Load, Bump}
use Rattle.typed_tree.specs.declared.program.Typed.{Typed}
use Rattle.typed_tree.specs.declared.statement.TStmt.{TStmt, end_of-TStmt, more_of-TStmt}
use Rattle.typed_tree.specs.declared.statement.TStmt.TheVariants.{If', Switch', Break, Return, Eval}
use Rattle.typed_tree.specs.declared.statement.TStmt.TheBlock.{end_of-TArm, more_of-TArm, end_of-TGroup, more_of-TGroup}
use Rattle.typed_tree.specs.Forms.{Binary, Both, Either, For, Part, Store}
use Rattle.code_listing.specs.Listing.{Listing}
use Rattle.code_listing.specs.Statement.{Exits}

-- 20 cells of kind `long`
abbrev pub long_cells : Typed
long_cells = record {
  functions = [];
  handlers = [];
  cells = replicate 20 Long;
  starts = [];
  timers = [];
  formats = [];
}

-- `break` and `continue` lead to place 0: in these statements none stands outside of a `switch`
abbrev pub no_exits : Exits
no_exits = record { break_at = 0; continue_at = 0 }

-- the number in a cell
abbrev pub cell : ℕ → TExpr
cell slot = Load (Cell slot)

-- a number
abbrev pub number : ℕ → TExpr
number n = Const (pos n)

-- an assignment to a cell
abbrev pub assignment : ℕ → TExpr → TStmt
assignment slot e = Eval (Store (Cell slot) e)

-- `for (i = 0; i < 1000; i++) s = s + i;` where cell 15 is `i` and cell 16 is `s`
abbrev pub summing_loop : TStmt
summing_loop = For (Part (assignment 15 (number 0))) (Some (Binary op.Less Long (cell 15) (number 1000)))
    (Part (Eval (Bump (Cell 15) Long true true))) (assignment 16 (Binary op.Add Long (cell 16) (cell 15)))

-- its code: a round is 14 instructions, from place 4 on
abbrev pub summing_listing : Listing
summing_listing =
    (instr.Push (pos 0), 0) ∷ (instr.Store 15, 1) ∷ (instr.Drop, 1) ∷ (instr.Jump 14, 0) ∷
    (instr.Load 16, 0) ∷ (instr.Load 15, 1) ∷ (instr.Bin op.Add Long, 2) ∷ (instr.Store 16, 1) ∷
    (instr.Drop, 1) ∷
    (instr.Load 15, 0) ∷ (instr.Push (pos 1), 1) ∷ (instr.Bin op.Add Long, 2) ∷ (instr.Store 15, 1) ∷
    (instr.Drop, 1) ∷
    (instr.Load 15, 0) ∷ (instr.Push (pos 1000), 1) ∷ (instr.Bin op.Less Long, 2) ∷ (instr.Back 4, 1) ∷ []

-- `if (a < 3 && b) b = 1; else if (a == b || a == 9) return; else if (b) b = 2; else b = 3;` where cell 15 is
-- `a` and cell 16 is `b`
abbrev pub three_arms : TStmt
three_arms = If' (replicate 3 tt)
    (more_of-TArm (Both (Binary op.Less Long (cell 15) (number 3)) (cell 16)) (assignment 16 (number 1))
    (more_of-TArm
    (Either (Binary op.Equal Long (cell 15) (cell 16)) (Binary op.Equal Long (cell 15) (number 9)))
    (Return None)
    (more_of-TArm (cell 16) (assignment 16 (number 2)) end_of-TArm)))
    (Part (assignment 16 (number 3)))

-- its code: no test is turned into 0 or 1, and the arm that returns has no jump
abbrev pub three_arms_listing : Listing
three_arms_listing =
    (instr.Load 15, 0) ∷ (instr.Push (pos 3), 1) ∷ (instr.Bin op.Less Long, 2) ∷ (instr.Zero 10, 1) ∷
    (instr.Load 16, 0) ∷ (instr.Zero 10, 1) ∷
    (instr.Push (pos 1), 0) ∷ (instr.Store 16, 1) ∷ (instr.Drop, 1) ∷ (instr.Jump 28, 0) ∷
    (instr.Load 15, 0) ∷ (instr.Load 16, 1) ∷ (instr.Bin op.NotEqual Long, 2) ∷ (instr.Zero 18, 1) ∷
    (instr.Load 15, 0) ∷ (instr.Push (pos 9), 1) ∷ (instr.Bin op.Equal Long, 2) ∷ (instr.Zero 19, 1) ∷
    (instr.Ret, 0) ∷
    (instr.Load 16, 0) ∷ (instr.Zero 25, 1) ∷
    (instr.Push (pos 2), 0) ∷ (instr.Store 16, 1) ∷ (instr.Drop, 1) ∷ (instr.Jump 28, 0) ∷
    (instr.Push (pos 3), 0) ∷ (instr.Store 16, 1) ∷ (instr.Drop, 1) ∷ []

-- `switch (a) { case 1: b = 1; break; case 2: case 3: b = 2; default: b = 3; break; }` where cell 15 is `a`
-- and cell 16 is `b`
abbrev pub falling_switch : TStmt
falling_switch = Switch' (cell 15) (replicate 3 tt)
    (more_of-TGroup (Some (pos 1) ∷ []) (replicate 2 tt)
    (more_of-TStmt (assignment 16 (number 1)) (more_of-TStmt Break end_of-TStmt))
    (more_of-TGroup (Some (pos 2) ∷ Some (pos 3) ∷ []) (replicate 1 tt)
    (more_of-TStmt (assignment 16 (number 2)) end_of-TStmt)
    (more_of-TGroup (None ∷ []) (replicate 2 tt)
    (more_of-TStmt (assignment 16 (number 3)) (more_of-TStmt Break end_of-TStmt)) end_of-TGroup)))

-- its code: one chain of cases; the second group runs into the third, and the last `break` has no instruction
abbrev pub falling_switch_listing : Listing
falling_switch_listing =
    (instr.Load 15, 0) ∷ (instr.Case 6 (pos 1), 1) ∷ (instr.Case 10 (pos 2), 1) ∷ (instr.Case 10 (pos 3), 1) ∷
    (instr.Drop, 1) ∷ (instr.Jump 13, 0) ∷
    (instr.Push (pos 1), 0) ∷ (instr.Store 16, 1) ∷ (instr.Drop, 1) ∷ (instr.Jump 16, 0) ∷
    (instr.Push (pos 2), 0) ∷ (instr.Store 16, 1) ∷ (instr.Drop, 1) ∷
    (instr.Push (pos 3), 0) ∷ (instr.Store 16, 1) ∷ (instr.Drop, 1) ∷ []
