-- What names break is among what a program breaks, and all of what heads and names break in a program is.
use mathlib.Core.Former.{Count}
use Rattle.std.proofs.Common.{◌≡◌, List, [], ◌∷◌, ◌++◌, ◌∙◌, append_assoc, inl, inr, refl, ap, sym, subst}
use Rattle.std.specs.Prelude.{flat_map}
use Rattle.dbc_reader.specs.declared.message.DbcMessage.{DbcMessage}
use Rattle.capl_tree.specs.declared.declaration.Decl.{Decl}
use Rattle.capl_tree.specs.declared.file.Program.{Program}
use Rattle.capl_tree.specs.declared.statement.Stmt.{Stmt, Row_of-Stmt, end_of-Stmt, more_of-Stmt}
use Rattle.capl_tree.specs.declared.statement.Stmt.TheBlock.{Row_of-Arm, end_of-Arm, more_of-Arm, Row_of-Group, end_of-Group, more_of-Group, Held-Stmt-If-1}
use Rattle.capl_tree.specs.declared.statement.Stmt.TheVariants as stmt
use Rattle.capl_tree.specs.Forms as tree
use Rattle.capl_meaning.specs.declared.offence.Offence.{Offence}
use Rattle.capl_meaning.specs.DeclarationRules.{declaration_offences, type_rules}
use Rattle.capl_meaning.specs.ExpressionRules.{integer_offences}
use Rattle.capl_meaning.specs.Names.{Names, Scope, inside, names_of, outside}
use Rattle.capl_meaning.specs.Offences.{offences_of, part_offences}
use Rattle.capl_meaning.specs.ProcedureRules.{head_offences, inner_name_offences, outer_name_offences, purpose_offences}
use Rattle.capl_meaning.specs.StatementRules.{Around, alone_offences, in_body, in_loop, in_switch, label_offences, labels_said, labels_rule, needed_offences, offences_of_arms, offences_of_else, offences_of_groups, offences_of_statements, statement_offences}
use Rattle.capl_meaning.specs.Sort.{sort_of}
use Rattle.capl_meaning.specs.Variable.{Part, Globals, Procedure, declarations_in, declarations_of, declarations_of_arms, declarations_of_else, declarations_of_groups, parts_of}
use Rattle.check_names.specs.Named.{head_and_types, named_offences, names_inside, types_offences}
use Rattle.check_names.proofs.IsIn.{IsWithin, both_within, each_within, flat_within, in_left, in_one, in_right}

-- the types of declarations behind one another
types_behind : (s : Scope) (one other : List Decl) → types_offences s (one ++ other) ≡ types_offences s one ++ types_offences s other
types_behind s [] other = refl
types_behind s (d ∷ one) other =
    ap (λ l. type_rules s d.what ++ l) (types_behind s one other)
    ∙ sym (append_assoc (type_rules s d.what) (types_offences s one) (types_offences s other))

-- within one of two lists behind one another
two : (s : Scope) (one other : List Decl) (xs ys : List Offence) → IsWithin (types_offences s one) xs → IsWithin (types_offences s other) ys
    → IsWithin (types_offences s (one ++ other)) (xs ++ ys)
two s one other xs ys first second =
    subst (λ (l : List Offence). IsWithin l (xs ++ ys)) (sym (types_behind s one other))
    (both_within (types_offences s one) (types_offences s other) xs ys first second)

-- within the second of two lists
second : (ys xs zs : List Offence) → IsWithin xs zs → IsWithin xs (ys ++ zs)
second ys xs zs is = λ x here. in_right x ys zs (is x here)

-- within the first of two lists
first : (ys xs zs : List Offence) → IsWithin xs zs → IsWithin xs (zs ++ ys)
first ys xs zs is = λ x here. in_left x zs ys (is x here)

-- the types of a declaration
declaration_within : (s : Scope) (d : Decl) → IsWithin (types_offences s (d ∷ [])) (declaration_offences s d)
declaration_within s d = λ x is. elim (in_one x (type_rules s d.what) [] is) [
  | inl here ↦ in_left x (type_rules s d.what) _ here
  | inr none ↦ absurd none
]

mutual
  -- the types of the declarations in a statement are among what it breaks
  statement_within : (s : Scope) (around : Around) (t : Stmt) → IsWithin (types_offences s (declarations_in t)) (statement_offences s around t)
  statement_within s around stmt.Empty = λ x is. is
  statement_within s around (stmt.Block' shape body) = row_within s around _ body
  statement_within s around (stmt.Decl d) = declaration_within s d
  statement_within s around (stmt.Expr e) = λ x is. absurd is
  statement_within s around (stmt.If' shape arms other) =
      two s (declarations_of_arms arms) (declarations_of_else other) (offences_of_arms s around arms) (offences_of_else s around other)
      (arms_within s around _ arms) (else_within s around other)
  statement_within s around (tree.While test body) =
      second (integer_offences s test) (types_offences s (declarations_in body)) (statement_offences s in_loop body) (statement_within s in_loop body)
  statement_within s around (tree.Do body test) =
      first (integer_offences s test) (types_offences s (declarations_in body)) (statement_offences s in_loop body) (statement_within s in_loop body)
  statement_within s around (tree.For init test step body) =
      second (alone_offences s init) (types_offences s (declarations_in body)) _
      (second (needed_offences s test) (types_offences s (declarations_in body)) _
      (second (alone_offences s step) (types_offences s (declarations_in body)) _ (statement_within s in_loop body)))
  statement_within s around (stmt.Switch' on shape groups) =
      second (integer_offences s on) (types_offences s (declarations_of_groups groups)) _
      (second (labels_rule s (sort_of s on) (labels_said groups)) (types_offences s (declarations_of_groups groups)) _
      (groups_within s (in_switch around) _ groups))
  statement_within s around (stmt.Break at) = λ x is. absurd is
  statement_within s around (stmt.Continue at) = λ x is. absurd is
  statement_within s around (stmt.Return value at) = λ x is. absurd is

  -- in a row
  row_within : (s : Scope) (around : Around) (m : Count) (row : Row_of-Stmt m) → IsWithin (types_offences s (declarations_of row)) (offences_of_statements s around row)
  row_within s around m end_of-Stmt = λ x is. is
  row_within s around m (more_of-Stmt t row) =
      two s (declarations_in t) (declarations_of row) (statement_offences s around t) (offences_of_statements s around row)
      (statement_within s around t) (row_within s around _ row)

  -- in arms
  arms_within : (s : Scope) (around : Around) (m : Count) (row : Row_of-Arm m) → IsWithin (types_offences s (declarations_of_arms row)) (offences_of_arms s around row)
  arms_within s around m end_of-Arm = λ x is. is
  arms_within s around m (more_of-Arm test body row) =
      second (integer_offences s test) (types_offences s (declarations_in body ++ declarations_of_arms row)) _
      (two s (declarations_in body) (declarations_of_arms row) (statement_offences s around body) (offences_of_arms s around row)
      (statement_within s around body) (arms_within s around _ row))

  -- behind a last `else`
  else_within : (s : Scope) (around : Around) (other : Held-Stmt-If-1) → IsWithin (types_offences s (declarations_of_else other)) (offences_of_else s around other)
  else_within s around tree.NoElse = λ x is. is
  else_within s around (tree.Else body) = statement_within s around body

  -- in groups
  groups_within : (s : Scope) (around : Around) (m : Count) (row : Row_of-Group m) → IsWithin (types_offences s (declarations_of_groups row)) (offences_of_groups s around row)
  groups_within s around m end_of-Group = λ x is. is
  groups_within s around m (more_of-Group labels shape body row) =
      second (flat_map (label_offences s) labels) (types_offences s (declarations_of body ++ declarations_of_groups row)) _
      (two s (declarations_of body) (declarations_of_groups row) (offences_of_statements s around body) (offences_of_groups s around row)
      (row_within s around _ body) (groups_within s around _ row))

-- in the statements of a procedure
body_within : (s : Scope) (around : Around) (body : List Stmt) →
    IsWithin (types_offences s (flat_map declarations_in body)) (flat_map (statement_offences s around) body)
body_within s around [] = λ x is. is
body_within s around (t ∷ body) =
    two s (declarations_in t) (flat_map declarations_in body) (statement_offences s around t) (flat_map (statement_offences s around) body)
    (statement_within s around t) (body_within s around body)

-- of declarations outside of procedures
declarations_within : (s : Scope) (ds : List Decl) → IsWithin (types_offences s ds) (flat_map (declaration_offences s) ds)
declarations_within s ds = flat_within (λ d. type_rules s d.what) (declaration_offences s) ds
    (λ d x is. in_left x (type_rules s d.what) _ is)

-- heads and types of a part
heads_within : (names : Names) (part : Part) → IsWithin (head_and_types names part) (part_offences names part)
heads_within names (Globals file ds) = declarations_within (outside names file) ds
heads_within names (Procedure number file procedure) =
    let s : Scope = inside names number file procedure.head in
    both_within (head_offences s procedure.head) (types_offences s (flat_map declarations_in procedure.body)) (head_offences s procedure.head) _
    (λ x is. is)
    (second (inner_name_offences names number) (types_offences s (flat_map declarations_in procedure.body)) _ (body_within s in_body procedure.body))

-- names in a part
names_within : (names : Names) (part : Part) → IsWithin (names_inside names part) (part_offences names part)
names_within names (Globals file ds) = λ x is. absurd is
names_within names (Procedure number file procedure) = λ x is.
    in_right x (head_offences (inside names number file procedure.head) procedure.head) _ (in_left x (inner_name_offences names number) _ is)

-- what names break is among what a program breaks
pub named_within : (base : List DbcMessage) (program : Program) → IsWithin (named_offences base program) (offences_of base program)
named_within base program =
    let names = names_of base program in
    let parts = parts_of program in
    both_within (outer_name_offences parts) _ (outer_name_offences parts) _ (λ x is. is)
    (both_within (purpose_offences names parts) _ (purpose_offences names parts) _ (λ x is. is)
    (each_within (flat_map (head_and_types names) parts) (flat_map (names_inside names) parts) (flat_map (part_offences names) parts)
    (flat_within (head_and_types names) (part_offences names) parts (heads_within names))
    (flat_within (names_inside names) (part_offences names) parts (names_within names))))
