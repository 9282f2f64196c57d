-- Short event procedures and what they come to, worked out by hand.
use Rattle.std.specs.Prelude.{ℕ, ◌+◌, true, false, ℤ, List, [], ◌∷◌, map, pos, codes, Option, Some, None, slice_get}
use Rattle.std.specs.Option.{option_map}
use Rattle.int_kinds.specs.declared.kinds.Kind.TheVariants.{Byte, Char, Dword, Int, Long}
use Rattle.int_kinds.specs.declared.operators.BinOp.TheVariants as op
use Rattle.int_kinds.specs.declared.operators.UnOp.TheVariants as prefix
use Rattle.run_effects.specs.Effect.{Effect, Line}
use Rattle.run_effects.specs.declared.outcome.Outcome.{Outcome}
use Rattle.dbc_reader.specs.declared.message.DbcMessage.{DbcMessage}
use Rattle.capl_tree.specs.declared.declaration.DeclType.TheVariants as decl_type
use Rattle.capl_tree.specs.declared.declaration.Init.TheVariants.{One}
use Rattle.capl_tree.specs.declared.expr.Expr.{Expr, end_of-Expr, more_of-Expr}
use Rattle.capl_tree.specs.declared.expr.Expr.TheVariants as expr
use Rattle.capl_tree.specs.declared.expr.Field.TheVariants.{Named}
use Rattle.capl_tree.specs.declared.file.TopItem.TheVariants as top
use Rattle.capl_tree.specs.declared.file.Program.{Program}
use Rattle.capl_tree.specs.declared.procedure.Head.TheVariants as head
use Rattle.capl_tree.specs.declared.statement.Stmt.{Stmt}
use Rattle.capl_tree.specs.declared.statement.Stmt.TheBlock.{end_of-Arm, more_of-Arm}
use Rattle.capl_tree.specs.declared.statement.Stmt.TheVariants as stmt
use Rattle.capl_tree.specs.Forms as tree
use Rattle.capl_meaning.specs.Names.{names_of}
use Rattle.capl_meaning.specs.Store.{lay}
use Rattle.capl_meaning.specs.Initial.{first_store, plain_message}
use Rattle.capl_meaning.specs.Statement.{Ending, ending_of, handlers_in}
use Rattle.capl_meaning.specs.Example.{declares, file_of, number, on_start, plain, procedure}

-- the end of the first event procedure of a program when the measurement starts, with so many turns
abbrev pub start_end : List DbcMessage → Program → ℕ → Option Ending
start_end base program turns =
    option_map (λ handler. ending_of handler (record { frame = plain_message 0 0; key = pos 0 }) false 0 turns
    (record { store = first_store (names_of base program); active = [] }))
    (slice_get (handlers_in base program) 0)

-- what a run did, how many turns it took, and how it ended
pub record Ran : Type 0 where
  pub effects : List Effect
  pub turns : ℕ
  pub outcome : Outcome

-- the same of the start of a program
abbrev pub ran : List DbcMessage → Program → ℕ → Option Ran
ran base program turns =
    option_map (λ end. record { effects = end.effects; turns = end.turns_taken; outcome = end.outcome })
    (start_end base program turns)

-- the cells of the variables at the end of the start of a program
abbrev pub left : List DbcMessage → Program → ℕ → Option (List ℤ)
left base program turns =
    option_map (λ end. lay (names_of base program) end.memory.store) (start_end base program turns)

-- a run that wrote these lines
abbrev pub wrote : List (List ℕ) → ℕ → Outcome → Option Ran
wrote texts turns outcome = Some (record { effects = map Line texts; turns = turns; outcome = outcome })

-- a name
abbrev pub named : List ℕ → ℕ → Expr
named name at = expr.Name name at

-- `write(TEXT);`
abbrev pub writes : List ℕ → ℕ → Stmt
writes text at =
    stmt.Expr (expr.Call' (codes "write") (tt ∷ []) (more_of-Expr (expr.Str text (at + 2)) end_of-Expr) at)

-- `write(TEXT, VALUE);`
abbrev pub writes_one : List ℕ → Expr → ℕ → Stmt
writes_one text value at = stmt.Expr (expr.Call' (codes "write") (tt ∷ tt ∷ [])
    (more_of-Expr (expr.Str text (at + 2)) (more_of-Expr value end_of-Expr)) at)

-- `on start { long z = 0; write("a"); write("%c", 1 / z); write("b"); }`
abbrev pub divides_by_zero : Program
divides_by_zero = on_start (stmt.Decl (declares 3 (plain Long) (codes "z") 4 None (Some (One (number 0 6))))
    ∷ writes (codes "a") 8
    ∷ writes_one (codes "%c") (tree.Binary op.Div (number 1 17) (named (codes "z") 19) 17) 13
    ∷ writes (codes "b") 22 ∷ [])

-- `on start { byte a[4]; a[3] = 1; write("ok"); a[4] = 1; write("no"); }`
abbrev pub passes_the_end : Program
passes_the_end = on_start (stmt.Decl (declares 3 (plain Byte) (codes "a") 4 (Some (number 4 6)) None)
    ∷ stmt.Expr (tree.Assign None (tree.Index (named (codes "a") 9) (number 3 11) 9) (number 1 14) 9)
    ∷ writes (codes "ok") 16
    ∷ stmt.Expr (tree.Assign None (tree.Index (named (codes "a") 21) (number 4 23) 21) (number 1 26) 21)
    ∷ writes (codes "no") 28 ∷ [])

-- `on start { int i; for (i = 0; i < 4; i++) write("%c", i); }`
abbrev pub counts : Program
counts = on_start (stmt.Decl (declares 3 (plain Int) (codes "i") 4 None None)
    ∷ tree.For (Some (tree.Assign None (named (codes "i") 8) (number 0 10) 8))
    (Some (tree.Binary op.Less (named (codes "i") 12) (number 4 14) 12))
    (Some (tree.Post true (named (codes "i") 16) 16))
    (writes_one (codes "%c") (named (codes "i") 23) 19) ∷ [])

-- `long next() { long c = 5; c++; return c; } on start { write("%c", next()); write("%c", next()); }`
abbrev pub keeps_its_local : Program
keeps_its_local = file_of (procedure 0 (head.Function (Some Long) (codes "next") [] 1)
    (stmt.Decl (declares 5 (plain Long) (codes "c") 6 None (Some (One (number 5 8))))
    ∷ stmt.Expr (tree.Post true (named (codes "c") 10) 10)
    ∷ stmt.Return (Some (named (codes "c") 14)) 13 ∷ [])
    ∷ procedure 17 head.Start
    (writes_one (codes "%c") (expr.Call' (codes "next") [] end_of-Expr 24) 20
    ∷ writes_one (codes "%c") (expr.Call' (codes "next") [] end_of-Expr 33) 29 ∷ []) ∷ [])

-- `on start { byte b = 255; int i = 32767; dword d = 0; long l = -2147483648; b = b + 1; i++; d -= 1;
-- l = l / -1; }`
abbrev pub wraps : Program
wraps = on_start (stmt.Decl (declares 3 (plain Byte) (codes "b") 4 None (Some (One (number 255 6))))
    ∷ stmt.Decl (declares 8 (plain Int) (codes "i") 9 None (Some (One (number 32767 11))))
    ∷ stmt.Decl (declares 13 (plain Dword) (codes "d") 14 None (Some (One (number 0 16))))
    ∷ stmt.Decl (declares 18 (plain Long) (codes "l") 19 None
    (Some (One (tree.Unary prefix.Minus (number 2147483648 22) 21))))
    ∷ stmt.Expr (tree.Assign None (named (codes "b") 24)
    (tree.Binary op.Add (named (codes "b") 26) (number 1 28) 26) 24)
    ∷ stmt.Expr (tree.Post true (named (codes "i") 30) 30)
    ∷ stmt.Expr (tree.Assign (Some op.Sub) (named (codes "d") 33) (number 1 35) 33)
    ∷ stmt.Expr (tree.Assign None (named (codes "l") 37)
    (tree.Binary op.Div (named (codes "l") 39) (tree.Unary prefix.Minus (number 1 42) 41) 39) 37) ∷ [])

-- `long f() { write("f"); return 1; } on start { if (0 && f()) write("x"); if (1 || f()) write("y"); }`
abbrev pub needs_one_side : Program
needs_one_side = file_of (procedure 0 (head.Function (Some Long) (codes "f") [] 1)
    (writes (codes "f") 5 ∷ stmt.Return (Some (number 1 11)) 10 ∷ [])
    ∷ procedure 14 head.Start
    (stmt.If' (tt ∷ []) (more_of-Arm (tree.Binary op.AndAlso (number 0 19)
    (expr.Call' (codes "f") [] end_of-Expr 21) 19) (writes (codes "x") 25) end_of-Arm) tree.NoElse
    ∷ stmt.If' (tt ∷ []) (more_of-Arm (tree.Binary op.OrElse (number 1 32)
    (expr.Call' (codes "f") [] end_of-Expr 34) 32) (writes (codes "y") 38) end_of-Arm) tree.NoElse ∷ []) ∷ [])

-- `on start { char s[4] = "ab"; write("[%5s][%-3c]", s, 42); }`
abbrev pub fills : Program
fills = on_start (stmt.Decl (declares 3 (plain Char) (codes "s") 4 (Some (number 4 6))
    (Some (One (expr.Str (codes "ab") 9))))
    ∷ stmt.Expr (expr.Call' (codes "write") (tt ∷ tt ∷ tt ∷ [])
    (more_of-Expr (expr.Str (codes "[%5s][%-3c]") 13) (more_of-Expr (named (codes "s") 15)
    (more_of-Expr (number 42 17) end_of-Expr))) 11) ∷ [])

-- a database with a message of two bytes, of which one signal has all, and an extended message with a signed
-- signal of 12 bits
abbrev pub two_messages : List DbcMessage
two_messages = record {
  id = 291;
  name = codes "Speed";
  len = 2;
  signals = record {
    name = codes "V";
    layout = record { start = 7; len = 16; big = true; signed = false };
    float = false;
  } ∷ [];
} ∷ record {
  id = 0x98FEF100;
  name = codes "Ext";
  len = 8;
  signals = record {
    name = codes "W";
    layout = record { start = 0; len = 12; big = false; signed = true };
    float = false;
  } ∷ [];
} ∷ []

-- a member of a message
abbrev pub member : List ℕ → List ℕ → ℕ → Expr
member message field at = tree.Member (named message at) (Named field (at + 2)) at

-- `variables { message Speed s; message Ext e; } on start { s.V = 0x1234; e.W = -1; s.dlc = 9; }`
abbrev pub puts_signals : Program
puts_signals = file_of (top.Variables (declares 2 (decl_type.ByName (codes "Speed") 3) (codes "s") 4 None None
    ∷ declares 6 (decl_type.ByName (codes "Ext") 7) (codes "e") 8 None None ∷ [])
    ∷ procedure 11 head.Start
    (stmt.Expr (tree.Assign None (member (codes "s") (codes "V") 14) (number 4660 18) 14)
    ∷ stmt.Expr (tree.Assign None (member (codes "e") (codes "W") 20)
    (tree.Unary prefix.Minus (number 1 25) 24) 20)
    ∷ stmt.Expr (tree.Assign None (member (codes "s") (codes "dlc") 27) (number 9 31) 27) ∷ []) ∷ [])

-- the cells that this leaves
abbrev pub signals_put : List ℤ
signals_put = map pos (291 ∷ 8 ∷ 0 ∷ 1 ∷ 0 ∷ 0 ∷ 0x12 ∷ 0x34 ∷ 0 ∷ 0 ∷ 0 ∷ 0 ∷ 0 ∷ 0
    ∷ 0x98FEF100 ∷ 8 ∷ 0 ∷ 1 ∷ 0 ∷ 0 ∷ 0xFF ∷ 0x0F ∷ 0 ∷ 0 ∷ 0 ∷ 0 ∷ 0 ∷ 0 ∷ [])
