-- Short procedures whose endings were worked out by hand, which show what the meaning of typed trees comes
-- to. Cell 15 and those behind it are the program's own; the 15 before are the event's.
use Rattle.std.specs.Prelude.{ℕ, false, true, List, [], ◌∷◌, ◌++◌, replicate, ℤ, pos, Some, None}
use Rattle.int_kinds.specs.declared.kinds.Kind.TheVariants.{Byte, Long}
use Rattle.int_kinds.specs.declared.operators.BinOp.TheVariants as op
use Rattle.run_effects.specs.declared.event.Event.TheVariants.{Start}
use Rattle.run_effects.specs.declared.outcome.Outcome.{Outcome}
use Rattle.typed_tree.specs.declared.expression.Place.TheVariants.{Cell}
use Rattle.typed_tree.specs.declared.expression.TExpr.{TExpr, end_of-TExpr}
use Rattle.typed_tree.specs.declared.expression.TExpr.TheVariants.{Bump, Call'}
use Rattle.typed_tree.specs.declared.program.Typed.{Typed}
use Rattle.typed_tree.specs.declared.statement.TStmt.{TStmt, end_of-TStmt, more_of-TStmt}
use Rattle.typed_tree.specs.declared.statement.TStmt.TheVariants.{Block', If', Switch', Break, Continue, Empty, Eval}
use Rattle.typed_tree.specs.declared.statement.TStmt.TheBlock.{end_of-TArm, more_of-TArm, end_of-TGroup, more_of-TGroup}
use Rattle.typed_tree.specs.Forms.{Binary, Do, For, NoPart, Part, Update, While}
use Rattle.typed_tree.specs.Program.{Ending, ending_of}
use Rattle.code_listing.specs.Example.{assignment, cell, long_cells, number}

-- what an event procedure with this body comes to, from these numbers in the cells from 15 on and with so
-- many turns
abbrev pub ending_after : Typed → List TStmt → ℕ → List ℤ → Ending
ending_after typed body turns own = ending_of (record { typed = typed; closed = false; moment = 0 })
    (record { event = Start; body = body; file = 0; line = 1 }) turns
    (record { cells = replicate 15 (pos 0) ++ own; active = [] })

-- an ending with these numbers in the cells from 15 on, without effects
abbrev pub ends_with : List ℤ → ℕ → Outcome → Ending
ends_with own turns outcome = record {
  memory = record { cells = replicate 15 (pos 0) ++ own; active = [] };
  turns_taken = turns;
  effects = [];
  outcome = outcome;
}

-- a program in which cell 15 is a byte
abbrev pub byte_cell : Typed
byte_cell = record long_cells { cells = replicate 15 Long ++ Byte ∷ [] }

-- a program with a function that gives a `long` and has no statement
abbrev pub empty_function : Typed
empty_function = record long_cells { functions = record { params = []; gives = Some Long; body = [] } ∷ [] }

-- `x += e;` where `x` is a `long` cell
abbrev pub adds : ℕ → TExpr → TStmt
adds slot e = Eval (Update op.Add Long Long (Cell slot) e)

-- `b += 1;` where cell 15 is the byte `b`
abbrev pub byte_sum : List TStmt
byte_sum = Eval (Update op.Add Long Byte (Cell 15) (number 1)) ∷ []

-- `while (1) ;`
abbrev pub endless_loop : List TStmt
endless_loop = While (number 1) Empty ∷ []

-- `for (i = 0; i < 5; i++) { if (i == 2) continue; s += i; }` where cell 15 is `i` and cell 16 is `s`
abbrev pub skipping_loop : List TStmt
skipping_loop =
    For (Part (assignment 15 (number 0))) (Some (Binary op.Less Long (cell 15) (number 5)))
    (Part (Eval (Bump (Cell 15) Long true true)))
    (Block' (replicate 2 tt)
    (more_of-TStmt (If' (replicate 1 tt)
    (more_of-TArm (Binary op.Equal Long (cell 15) (number 2)) Continue end_of-TArm) NoPart)
    (more_of-TStmt (adds 16 (cell 15)) end_of-TStmt))) ∷ []

-- `do s += 1; while (0);` where cell 15 is `s`
abbrev pub single_round : List TStmt
single_round = Do (adds 15 (number 1)) (number 0) ∷ []

-- `switch (2) { case 1: s += 1; case 2: s += 10; case 3: s += 100; break; default: s += 1000; }` where cell
-- 15 is `s`
abbrev pub falling_groups : List TStmt
falling_groups = Switch' (number 2) (replicate 4 tt)
    (more_of-TGroup (Some (pos 1) ∷ []) (replicate 1 tt) (more_of-TStmt (adds 15 (number 1)) end_of-TStmt)
    (more_of-TGroup (Some (pos 2) ∷ []) (replicate 1 tt) (more_of-TStmt (adds 15 (number 10)) end_of-TStmt)
    (more_of-TGroup (Some (pos 3) ∷ []) (replicate 2 tt)
    (more_of-TStmt (adds 15 (number 100)) (more_of-TStmt Break end_of-TStmt))
    (more_of-TGroup (None ∷ []) (replicate 1 tt) (more_of-TStmt (adds 15 (number 1000)) end_of-TStmt)
    end_of-TGroup)))) ∷ []

-- `s = 7; s += f(); s += 1 / 0;` where cell 15 is `s` and `f` has no statement
abbrev pub call_and_trap : List TStmt
call_and_trap = assignment 15 (number 7) ∷ adds 15 (Call' 0 [] end_of-TExpr) ∷
    adds 15 (Binary op.Div Long (number 1) (number 0)) ∷ []
