-- Short sources and signals at the edges of rules, and what their definitions come to. The numbers of sources
-- are those of their tokens.
use Rattle.std.specs.Prelude.{ℕ, Bool, true, false, List, [], ◌∷◌, map, codes, Some, None}
use Rattle.int_kinds.specs.declared.kinds.Kind.TheVariants.{Byte, Dword, Long}
use Rattle.int_kinds.specs.declared.operators.BinOp.TheVariants as op
use Rattle.int_kinds.specs.declared.operators.UnOp.TheVariants as prefix
use Rattle.signal_codec.specs.declared.layout.Layout.{Layout}
use Rattle.dbc_reader.specs.declared.message.DbcMessage.{DbcMessage}
use Rattle.capl_tree.specs.declared.declaration.Decl.{Decl}
use Rattle.capl_tree.specs.declared.declaration.DeclType.TheVariants as decl_type
use Rattle.capl_tree.specs.declared.declaration.Init.TheVariants.{One}
use Rattle.capl_tree.specs.declared.expr.Expr.{end_of-Expr, more_of-Expr}
use Rattle.capl_tree.specs.declared.expr.Expr.TheVariants as expr
use Rattle.capl_tree.specs.declared.expr.Field.TheVariants.{Named}
use Rattle.capl_tree.specs.declared.file.TopItem.TheVariants as top
use Rattle.capl_tree.specs.declared.file.Program.{Program}
use Rattle.capl_tree.specs.declared.procedure.Head.TheVariants as head
use Rattle.capl_tree.specs.declared.procedure.SelWhat.TheVariants as selected
use Rattle.capl_tree.specs.declared.statement.Stmt.{Stmt, end_of-Stmt, more_of-Stmt}
use Rattle.capl_tree.specs.declared.statement.Stmt.TheBlock.{end_of-Group, more_of-Group}
use Rattle.capl_tree.specs.declared.statement.Stmt.TheVariants as stmt
use Rattle.capl_tree.specs.Forms as tree
use Rattle.capl_meaning.specs.Offences.{offences_of}
use Rattle.capl_meaning.specs.Example.{declares, file_of, number, on_any_channel, on_channel, on_start, plain, procedure}

-- the tokens and the rules of what a program with a database breaks
abbrev pub broken_with : List DbcMessage → Program → List (ℕ × ℕ)
broken_with base program = map (λ o. (o.token, o.rule.number)) (offences_of base program)

-- a message of 64 bytes
abbrev pub long_message : List DbcMessage
long_message = record { id = 5; name = codes "Long"; len = 64; signals = [] } ∷ []

-- `variables { message Long m; }`
abbrev pub message_too_long : Program
message_too_long = file_of (top.Variables
    (declares 2 (decl_type.ByName (codes "Long") 3) (codes "m") 4 None None ∷ []) ∷ [])

-- `on start { long f; f(); } void f() { }`
abbrev pub local_beside_function : Program
local_beside_function = file_of (procedure 0 head.Start
    (stmt.Decl (declares 3 (plain Long) (codes "f") 4 None None)
    ∷ stmt.Expr (expr.Call' (codes "f") [] end_of-Expr 6) ∷ [])
    ∷ procedure 11 (head.Function None (codes "f") [] 12) [] ∷ [])

-- `variables { message * m; } on start { .. }`
abbrev pub with_message : List Stmt → Program
with_message body = file_of
    (top.Variables (declares 2 decl_type.Any (codes "m") 4 None None ∷ []) ∷ procedure 7 head.Start body ∷ [])

-- `m++;`
abbrev pub message_stepped : Program
message_stepped = with_message (stmt.Expr (tree.Post true (expr.Name (codes "m") 10) 10) ∷ [])

-- `long a; a += m;`
abbrev pub message_added : Program
message_added = with_message (stmt.Decl (declares 10 (plain Long) (codes "a") 11 None None)
    ∷ stmt.Expr (tree.Assign (Some op.Add) (expr.Name (codes "a") 13) (expr.Name (codes "m") 15) 13) ∷ [])

-- `m += 1;`, which is no place for this, and has a message on one side
abbrev pub added_to_message : Program
added_to_message = with_message
    (stmt.Expr (tree.Assign (Some op.Add) (expr.Name (codes "m") 10) (number 1 12) 10) ∷ [])

-- `m = x;` where x is nothing
abbrev pub unknown_to_message : Program
unknown_to_message = with_message
    (stmt.Expr (tree.Assign None (expr.Name (codes "m") 10) (expr.Name (codes "x") 12) 10) ∷ [])

-- `m.Dlc = 1;`
abbrev pub mixed_case : Program
mixed_case = with_message (stmt.Expr (tree.Assign None
    (tree.Member (expr.Name (codes "m") 10) (Named (codes "Dlc") 12) 10) (number 1 14) 10) ∷ [])

-- `m.DIR = TX;`
abbrev pub direction_assigned : Program
direction_assigned = with_message (stmt.Expr (tree.Assign None
    (tree.Member (expr.Name (codes "m") 10) (Named (codes "DIR") 12) 10) (expr.Name (codes "TX") 14) 10) ∷ [])

-- `variables { message * m; } on message * { m = this; this.dlc = 1; }`
abbrev pub this_copied : Program
this_copied = file_of (top.Variables (declares 2 decl_type.Any (codes "m") 4 None None ∷ [])
    ∷ procedure 7 (head.Message (on_any_channel (selected.Any 9) ∷ []))
    (stmt.Expr (tree.Assign None (expr.Name (codes "m") 11) (expr.This 13) 11)
    ∷ stmt.Expr (tree.Assign None (tree.Member (expr.This 15) (Named (codes "dlc") 17) 15) (number 1 19) 15)
    ∷ []) ∷ [])

-- `on start { long a; a = "x"; }`
abbrev pub text_assigned : Program
text_assigned = on_start (stmt.Decl (declares 3 (plain Long) (codes "a") 4 None None)
    ∷ stmt.Expr (tree.Assign None (expr.Name (codes "a") 6) (expr.Str (codes "x") 8) 6) ∷ [])

-- a global `long b;` and then a declaration
abbrev pub behind_global : Decl → Program
behind_global d = file_of (top.Variables (declares 2 (plain Long) (codes "b") 3 None None ∷ d ∷ []) ∷ [])

-- `byte a[2] = b;`
abbrev pub one_for_an_array : Program
one_for_an_array = behind_global
    (declares 5 (plain Byte) (codes "a") 6 (Some (number 2 8)) (Some (One (expr.Name (codes "b") 11))))

-- `byte a[1 + b];`
abbrev pub variable_in_size : Program
variable_in_size = behind_global (declares 5 (plain Byte) (codes "a") 6
    (Some (tree.Binary op.Add (number 1 8) (expr.Name (codes "b") 10) 8)) None)

-- `byte a[1 + x];`
abbrev pub unknown_in_size : Program
unknown_in_size = behind_global (declares 5 (plain Byte) (codes "a") 6
    (Some (tree.Binary op.Add (number 1 8) (expr.Name (codes "x") 10) 8)) None)

-- `const long c = c;`
abbrev pub constant_of_itself : Program
constant_of_itself = behind_global
    (declares 5 (decl_type.Number Long true) (codes "c") 7 None (Some (One (expr.Name (codes "c") 9))))

-- `long c = 0 && 1 / 0;`
abbrev pub unneeded_division : Program
unneeded_division = behind_global (declares 5 (plain Long) (codes "c") 6 None
    (Some (One (tree.Binary op.AndAlso (number 0 8) (tree.Binary op.Div (number 1 10) (number 0 12) 10) 8))))

-- `long c = 1 / 0;`
abbrev pub needed_division : Program
needed_division = behind_global (declares 5 (plain Long) (codes "c") 6 None
    (Some (One (tree.Binary op.Div (number 1 8) (number 0 10) 8))))

-- `on message 5 - 5 { } on message 5 { }`
abbrev pub equal_ends : Program
equal_ends = file_of
    (procedure 0 (head.Message (on_any_channel (selected.Ids (number 5 2) (Some (number 5 4)) 2) ∷ [])) []
    ∷ procedure 7 (head.Message (on_any_channel (selected.Ids (number 5 9) None 9) ∷ [])) [] ∷ [])

-- `on message CAN1.5 { } on message CAN2.5 { }`
abbrev pub one_on_each_channel : Program
one_on_each_channel = file_of
    (procedure 0 (head.Message (on_channel 1 (selected.Ids (number 5 4) None 4) ∷ [])) []
    ∷ procedure 7 (head.Message (on_channel 2 (selected.Ids (number 5 11) None 11) ∷ [])) [] ∷ [])

-- `on message 5 { } on message CAN2.5 { }`
abbrev pub one_channel_of_both : Program
one_channel_of_both = file_of
    (procedure 0 (head.Message (on_any_channel (selected.Ids (number 5 2) None 2) ∷ [])) []
    ∷ procedure 5 (head.Message (on_channel 2 (selected.Ids (number 5 9) None 9) ∷ [])) [] ∷ [])

-- `void f() { g(); } void g() { f(1); }`
abbrev pub far_recursion : Program
far_recursion = file_of (procedure 0 (head.Function None (codes "f") [] 1)
    (stmt.Expr (expr.Call' (codes "g") [] end_of-Expr 5) ∷ [])
    ∷ procedure 10 (head.Function None (codes "g") [] 11)
    (stmt.Expr (expr.Call' (codes "f") (tt ∷ []) (more_of-Expr (number 1 17) end_of-Expr) 15) ∷ []) ∷ [])

-- `on start { write(("a")); }`
abbrev pub text_in_parentheses : Program
text_in_parentheses = on_start (stmt.Expr (expr.Call' (codes "write") (tt ∷ [])
    (more_of-Expr (tree.Paren (expr.Str (codes "a") 6) 5) end_of-Expr) 3) ∷ [])

-- `on start { dword d; switch (d) { case -1: case 4294967295: } }`
abbrev pub labels_that_wrap : Program
labels_that_wrap = on_start (stmt.Decl (declares 3 (plain Dword) (codes "d") 4 None None)
    ∷ stmt.Switch' (expr.Name (codes "d") 8) (tt ∷ []) (more_of-Group
    (record { value = Some (tree.Unary prefix.Minus (number 1 13) 12); at = 11 }
    ∷ record { value = Some (number 4294967295 16); at = 15 } ∷ []) [] end_of-Stmt end_of-Group) ∷ [])

-- `on start { { long a; } a = 1; }`
abbrev pub inner_block : Program
inner_block = on_start (stmt.Block' (tt ∷ [])
    (more_of-Stmt (stmt.Decl (declares 4 (plain Long) (codes "a") 5 None None)) end_of-Stmt)
    ∷ stmt.Expr (tree.Assign None (expr.Name (codes "a") 8) (number 1 10) 8) ∷ [])

-- `on start { const long c = 1; c = 2; }`
abbrev pub constant_assigned : Program
constant_assigned = on_start (stmt.Decl (declares 3 (decl_type.Number Long true) (codes "c") 5 None
    (Some (One (number 1 7)))) ∷ stmt.Expr (tree.Assign None (expr.Name (codes "c") 9) (number 2 11) 9) ∷ [])

-- `variables { byte a[0x20000000x]; }`
abbrev pub number_too_great_for_a_size : Program
number_too_great_for_a_size = file_of (top.Variables
    (declares 2 (plain Byte) (codes "a") 3 (Some (expr.Num (Some 0x20000000) true 5)) None ∷ []) ∷ [])

-- a signal of so many bits from bit 0 on, signed or not
abbrev pub of_bits : ℕ → Bool → Layout
of_bits bits signed = record { start = 0; len = bits; big = false; signed = signed }
