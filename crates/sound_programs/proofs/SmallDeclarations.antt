-- The initialisers of the variables of a readable program are small.
use mathlib.Core.Former.{Count}
use Rattle.std.proofs.Common.{ℕ, suc, List, [], ◌∷◌}
use Rattle.std.specs.Prelude.{IfSome, flat_map, map}
use Rattle.std.specs.List.{AllByRecursion}
use Rattle.dbc_reader.specs.declared.message.DbcMessage.{DbcMessage}
use Rattle.capl_tree.specs.declared.declaration.Decl.{Decl}
use Rattle.capl_tree.specs.declared.declaration.DeclType.{DeclType}
use Rattle.capl_tree.specs.declared.declaration.Declr.{Declr}
use Rattle.capl_tree.specs.declared.file.FileTree.{FileTree}
use Rattle.capl_tree.specs.declared.file.Program.{Program}
use Rattle.capl_tree.specs.declared.file.TopItem.{TopItem}
use Rattle.capl_tree.specs.declared.file.TopItem.TheVariants as top
use Rattle.capl_tree.specs.declared.procedure.Param.{Param}
use Rattle.capl_tree.specs.declared.statement.Stmt.{Stmt, Row_of-Stmt, end_of-Stmt, more_of-Stmt}
use Rattle.capl_tree.specs.declared.statement.Stmt.TheBlock.{Row_of-Arm, end_of-Arm, more_of-Arm, Row_of-Group, end_of-Group, more_of-Group, Held-Stmt-If-1}
use Rattle.capl_tree.specs.declared.statement.Stmt.TheVariants as stmt
use Rattle.capl_tree.specs.Forms as tree
use Rattle.capl_meaning.specs.Variable.{Part, Globals, Procedure, Variable, declarations_in, declarations_of, declarations_of_arms, declarations_of_else, declarations_of_groups, form_of, parameters_of, parts_of_files, parts_of_items, variable_of_parameter, variables_of, variables_of_declaration, variables_of_part}
use Rattle.typed_laws.specs.Laid.{IsAmong}
use Rattle.typed_laws.proofs.Declared.{all_append}
use Rattle.sound_programs.specs.Given.{IsReadable}
use Rattle.sound_programs.specs.Small.{AreSmallArms, AreSmallGroups, AreSmallStmts, IsSmallDecl, IsSmallElse, IsSmallInit, IsSmallItem, IsSmallStmt}
use Rattle.sound_programs.proofs.Parts.{one_among}

-- ---- declarations in statements

mutual
  -- the declarations in a small statement
  small_in : (x : Stmt) → IsSmallStmt x → AllByRecursion IsSmallDecl (declarations_in x)
  small_in stmt.Empty few = tt
  small_in (stmt.Block' shape body) few = small_row body few.1
  small_in (stmt.Decl declaration) few = (few, tt)
  small_in (stmt.Expr e) few = tt
  small_in (stmt.If' shape arms other) few = all_append IsSmallDecl (declarations_of_arms arms) (declarations_of_else other) (small_arms arms few.1) (small_else other few.2)
  small_in (tree.While given body) few = small_in body few.1
  small_in (tree.Do body given) few = small_in body few.0
  small_in (tree.For init given step body) few = small_in body few.3
  small_in (stmt.Switch' on shape groups) few = small_groups groups few.2
  small_in other few = tt

  small_row : {m : Count} (row : Row_of-Stmt m) → AreSmallStmts row → AllByRecursion IsSmallDecl (declarations_of row)
  small_row end_of-Stmt few = tt
  small_row (more_of-Stmt first rest) few = all_append IsSmallDecl (declarations_in first) (declarations_of rest) (small_in first few.0) (small_row rest few.1)

  small_arms : {m : Count} (arms : Row_of-Arm m) → AreSmallArms arms → AllByRecursion IsSmallDecl (declarations_of_arms arms)
  small_arms end_of-Arm few = tt
  small_arms (more_of-Arm given body rest) few = all_append IsSmallDecl (declarations_in body) (declarations_of_arms rest) (small_in body few.1) (small_arms rest few.2)

  small_else : (other : Held-Stmt-If-1) → IsSmallElse other → AllByRecursion IsSmallDecl (declarations_of_else other)
  small_else tree.NoElse few = tt
  small_else (tree.Else body) few = small_in body few

  small_groups : {m : Count} (groups : Row_of-Group m) → AreSmallGroups groups → AllByRecursion IsSmallDecl (declarations_of_groups groups)
  small_groups end_of-Group few = tt
  small_groups (more_of-Group labels shape body rest) few = all_append IsSmallDecl (declarations_of body) (declarations_of_groups rest) (small_row body few.2) (small_groups rest few.3)

small_body : (body : List Stmt) → AllByRecursion IsSmallStmt body → AllByRecursion IsSmallDecl (flat_map declarations_in body)
small_body [] few = tt
small_body (first ∷ rest) few = all_append IsSmallDecl (declarations_in first) (flat_map declarations_in rest) (small_in first few.0) (small_body rest few.1)

-- ---- variables

-- the initialiser of a variable, if it has one, is small
abbrev pub HasSmallInit : Variable → Type 0
HasSmallInit v = IfSome v.init IsSmallInit

module _ (base : List DbcMessage) where
  small_items : (owner file : ℕ) (what : DeclType) (items : List Declr) → AllByRecursion (λ (d : Declr). IfSome d.init IsSmallInit) items → AllByRecursion HasSmallInit (map (λ (d : Declr). record {
    owner = owner;
    file = file;
    token = d.at;
    name = d.name;
    form = form_of base what d.size;
    init = d.init;
  }) items)
  small_items owner file what [] few = tt
  small_items owner file what (d ∷ items) few = (few.0, small_items owner file what items few.1)

  small_declarations : (owner file : ℕ) (ds : List Decl) → AllByRecursion IsSmallDecl ds → AllByRecursion HasSmallInit (flat_map (variables_of_declaration base owner file) ds)
  small_declarations owner file [] few = tt
  small_declarations owner file (d ∷ ds) few =
      all_append HasSmallInit (variables_of_declaration base owner file d) (flat_map (variables_of_declaration base owner file) ds) (small_items owner file d.what d.items few.0) (small_declarations owner file ds few.1)

  small_parameters : (owner file : ℕ) (ps : List Param) → AllByRecursion HasSmallInit (map (variable_of_parameter owner file) ps)
  small_parameters owner file [] = tt
  small_parameters owner file (p ∷ ps) = (tt, small_parameters owner file ps)

  items_small : (file : ℕ) (items : List TopItem) (number : ℕ) (others : ℕ → List Part) → AllByRecursion IsSmallItem items → ((n : ℕ) → AllByRecursion HasSmallInit (flat_map (variables_of_part base) (others n))) →
      AllByRecursion HasSmallInit (flat_map (variables_of_part base) (parts_of_items file items number others))
  items_small file [] number others few rest = rest number
  items_small file (top.Includes names ∷ items) number others few rest = items_small file items number others few.1 rest
  items_small file (top.Variables declarations ∷ items) number others few rest =
      all_append HasSmallInit (variables_of_part base (Globals file declarations)) _ (small_declarations 0 file declarations few.0) (items_small file items number others few.1 rest)
  items_small file (top.Proc procedure ∷ items) number others few rest =
      all_append HasSmallInit (variables_of_part base (Procedure number file procedure)) _
      (all_append HasSmallInit (map (variable_of_parameter number file) (parameters_of procedure.head)) (flat_map (variables_of_declaration base number file) (flat_map declarations_in procedure.body))
      (small_parameters number file (parameters_of procedure.head)) (small_declarations number file (flat_map declarations_in procedure.body) (small_body procedure.body few.0.statements)))
      (items_small file items (suc number) others few.1 rest)

  files_small : (file : ℕ) (trees : List FileTree) (number : ℕ) → AllByRecursion (λ (tree : FileTree). AllByRecursion IsSmallItem tree.items) trees → AllByRecursion HasSmallInit (flat_map (variables_of_part base) (parts_of_files file trees number))
  files_small file [] number few = tt
  files_small file (tree ∷ trees) number few = items_small file tree.items number (parts_of_files (suc file) trees) few.0 (λ n. files_small (suc file) trees n few.1)

  -- each variable of a readable program
  pub small_init : (program : Program) → IsReadable program → (v : Variable) → IsAmong v (variables_of base program) → IfSome v.init IsSmallInit
  small_init program readable v among = one_among HasSmallInit (variables_of base program) v (files_small 0 program.files 1 readable.small) among
