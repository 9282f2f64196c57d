-- Short sources, each with the one rule that it breaks. The numbers are those of the sources' tokens.
use Rattle.std.specs.Prelude.{ℕ, false, List, [], ◌∷◌, map, codes, Option, Some, None}
use Rattle.int_kinds.specs.declared.kinds.Kind.{Kind}
use Rattle.int_kinds.specs.declared.kinds.Kind.TheVariants.{Byte, Long}
use Rattle.capl_tree.specs.declared.declaration.Decl.{Decl}
use Rattle.capl_tree.specs.declared.declaration.DeclType.{DeclType}
use Rattle.capl_tree.specs.declared.declaration.DeclType.TheVariants as decl_type
use Rattle.capl_tree.specs.declared.declaration.Init.{Init}
use Rattle.capl_tree.specs.declared.declaration.Init.TheVariants.{One, Many}
use Rattle.capl_tree.specs.declared.declaration.Item.TheVariants.{Plain}
use Rattle.capl_tree.specs.declared.expr.Expr.{Expr, end_of-Expr, more_of-Expr}
use Rattle.capl_tree.specs.declared.expr.Expr.TheVariants as expr
use Rattle.capl_tree.specs.declared.expr.Field.TheVariants.{Named}
use Rattle.capl_tree.specs.declared.file.TopItem.{TopItem}
use Rattle.capl_tree.specs.declared.file.TopItem.TheVariants as top
use Rattle.capl_tree.specs.declared.file.Program.{Program}
use Rattle.capl_tree.specs.declared.procedure.Head.{Head}
use Rattle.capl_tree.specs.declared.procedure.Head.TheVariants as head
use Rattle.capl_tree.specs.declared.procedure.Sel.{Sel}
use Rattle.capl_tree.specs.declared.procedure.SelWhat.{SelWhat}
use Rattle.capl_tree.specs.declared.procedure.SelWhat.TheVariants as selected
use Rattle.capl_tree.specs.declared.statement.Stmt.{Stmt, end_of-Stmt, more_of-Stmt}
use Rattle.capl_tree.specs.declared.statement.Stmt.TheBlock.{end_of-Arm, more_of-Arm, end_of-Group, more_of-Group}
use Rattle.capl_tree.specs.declared.statement.Stmt.TheVariants as stmt
use Rattle.capl_tree.specs.Forms as tree
use Rattle.capl_meaning.specs.Offences.{offences_of}

-- a program of one file
abbrev pub file_of : List TopItem → Program
file_of items = record { files = record { items = items } ∷ [] }

-- a procedure whose first token has a number
abbrev pub procedure : ℕ → Head → List Stmt → TopItem
procedure at head body = top.Proc (record { head = head; body = body; at = at })

-- `on start { .. }`, alone in a file
abbrev pub on_start : List Stmt → Program
on_start body = file_of (procedure 0 head.Start body ∷ [])

-- a number without `x`
abbrev pub number : ℕ → ℕ → Expr
number n at = expr.Num (Some n) false at

-- a declaration of one variable
abbrev pub declares : ℕ → DeclType → List ℕ → ℕ → Option Expr → Option Init → Decl
declares at what name name_at size init = record {
  what = what;
  items = record { name = name; at = name_at; size = size; init = init } ∷ [];
  at = at;
}

-- a selector of a channel
abbrev pub on_channel : ℕ → SelWhat → Sel
on_channel chan what = record { chan = chan; what = what }

-- a selector of no channel
abbrev pub on_any_channel : SelWhat → Sel
on_any_channel = on_channel 0

-- a number that is not `const`
abbrev pub plain : Kind → DeclType
plain kind = decl_type.Number kind false

-- the tokens and the rules of what a program without a database breaks
abbrev pub broken : Program → List (ℕ × ℕ)
broken program = map (λ o. (o.token, o.rule.number)) (offences_of [] program)

-- `on start { x = 1; }`
abbrev pub unknown_name : Program
unknown_name = on_start (stmt.Expr (tree.Assign None (expr.Name (codes "x") 3) (number 1 5) 3) ∷ [])

-- `variables { long a; long a; }`
abbrev pub name_twice : Program
name_twice = file_of (top.Variables (declares 2 (plain Long) (codes "a") 3 None None
    ∷ declares 5 (plain Long) (codes "a") 6 None None ∷ []) ∷ [])

-- `on message Nope { }`
abbrev pub unknown_message : Program
unknown_message =
    file_of (procedure 0 (head.Message (on_any_channel (selected.Name (codes "Nope") 2) ∷ [])) [] ∷ [])

-- `variables { byte a[0]; }`
abbrev pub empty_array : Program
empty_array =
    file_of (top.Variables (declares 2 (plain Byte) (codes "a") 3 (Some (number 0 5)) None ∷ []) ∷ [])

-- `on start { byte a[2]; if (a) ; }`
abbrev pub array_as_test : Program
array_as_test = on_start (stmt.Decl (declares 3 (plain Byte) (codes "a") 4 (Some (number 2 6)) None)
    ∷ stmt.If' (tt ∷ []) (more_of-Arm (expr.Name (codes "a") 11) stmt.Empty end_of-Arm) tree.NoElse ∷ [])

-- `on start { 1 = 2; }`
abbrev pub number_assigned : Program
number_assigned = on_start (stmt.Expr (tree.Assign None (number 1 3) (number 2 5) 3) ∷ [])

-- `on start { write("%d", this.dlc); }`
abbrev pub this_in_start : Program
this_in_start = on_start (stmt.Expr (expr.Call' (codes "write") (tt ∷ tt ∷ [])
    (more_of-Expr (expr.Str (codes "%d") 5)
    (more_of-Expr (tree.Member (expr.This 7) (Named (codes "dlc") 9) 7) end_of-Expr)) 3) ∷ [])

-- `on start { write("%d"); }`
abbrev pub too_few_arguments : Program
too_few_arguments = on_start (stmt.Expr (expr.Call' (codes "write") (tt ∷ [])
    (more_of-Expr (expr.Str (codes "%d") 5) end_of-Expr) 3) ∷ [])

-- `long f(long a) { return a; } on start { f(); }`
abbrev pub argument_missing : Program
argument_missing = file_of (procedure 0
    (head.Function (Some Long) (codes "f") (record { kind = Long; name = codes "a"; at = 4 } ∷ []) 1)
    (stmt.Return (Some (expr.Name (codes "a") 8)) 7 ∷ [])
    ∷ procedure 11 head.Start (stmt.Expr (expr.Call' (codes "f") [] end_of-Expr 14) ∷ []) ∷ [])

-- `on start { long a; a = 18446744073709551616; }`
abbrev pub number_too_great : Program
number_too_great = on_start (stmt.Decl (declares 3 (plain Long) (codes "a") 4 None None)
    ∷ stmt.Expr (tree.Assign None (expr.Name (codes "a") 6) (expr.Num None false 8) 6) ∷ [])

-- `variables { long a; long b = a; }`
abbrev pub variable_as_constant : Program
variable_as_constant = file_of (top.Variables (declares 2 (plain Long) (codes "a") 3 None None
    ∷ declares 5 (plain Long) (codes "b") 6 None (Some (One (expr.Name (codes "a") 8))) ∷ []) ∷ [])

-- `on start { switch (1) { case 1: case 1: break; } }`
abbrev pub label_twice : Program
label_twice = on_start (stmt.Switch' (number 1 5) (tt ∷ []) (more_of-Group
    (record { value = Some (number 1 9); at = 8 } ∷ record { value = Some (number 1 12); at = 11 } ∷ [])
    (tt ∷ []) (more_of-Stmt (stmt.Break 14) end_of-Stmt) end_of-Group) ∷ [])

-- `on message 0x800 { }`
abbrev pub identifier_too_great : Program
identifier_too_great =
    file_of (procedure 0 (head.Message (on_any_channel (selected.Ids (number 2048 2) None 2) ∷ [])) [] ∷ [])

-- `on start { break; }`
abbrev pub break_outside : Program
break_outside = on_start (stmt.Break 3 ∷ [])

-- `on start { return 1; }`
abbrev pub value_returned : Program
value_returned = on_start (stmt.Return (Some (number 1 4)) 3 ∷ [])

-- `on key 'a' { } on key 'a' { }`
abbrev pub key_twice : Program
key_twice = file_of (procedure 0 (head.Key (Some 97)) [] ∷ procedure 5 (head.Key (Some 97)) [] ∷ [])

-- `void f() { f(); }`
abbrev pub recursion : Program
recursion = file_of (procedure 0 (head.Function None (codes "f") [] 1)
    (stmt.Expr (expr.Call' (codes "f") [] end_of-Expr 5) ∷ []) ∷ [])

-- `variables { byte a[1] = {1, 2}; }`
abbrev pub too_many_elements : Program
too_many_elements = file_of (top.Variables (declares 2 (plain Byte) (codes "a") 3 (Some (number 1 5))
    (Some (Many (Plain (number 1 9) ∷ Plain (number 2 11) ∷ []) 8)) ∷ []) ∷ [])

-- `on start { long a; a.dlc = 1; }`
abbrev pub member_of_number : Program
member_of_number = on_start (stmt.Decl (declares 3 (plain Long) (codes "a") 4 None None)
    ∷ stmt.Expr (tree.Assign None (tree.Member (expr.Name (codes "a") 6) (Named (codes "dlc") 8) 6)
    (number 1 10) 6) ∷ [])
