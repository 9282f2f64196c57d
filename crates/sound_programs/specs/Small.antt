-- Parts of a source whose numbers, characters, texts and lists, as far as a typed program keeps them as they
-- are, fit: numbers below 2^64, bytes, fewer than 2^32 items, and fewer than 2^31 selectors of a procedure.
use Rattle.std.specs.Prelude.{◌<◌, ◌^◌, List, length, IfSome, ⊤}
use Rattle.std.specs.List.{AllByRecursion}
use Rattle.capl_tree.specs.declared.expr.Expr.{Expr, Row_of-Expr, end_of-Expr, more_of-Expr, items-the_row-Expr}
use Rattle.capl_tree.specs.declared.expr.Expr.TheVariants as expr
use Rattle.capl_tree.specs.declared.expr.Field.{Field}
use Rattle.capl_tree.specs.declared.expr.Field.TheVariants.{Named}
use Rattle.capl_tree.specs.declared.declaration.Decl.{Decl}
use Rattle.capl_tree.specs.declared.declaration.Init.{Init}
use Rattle.capl_tree.specs.declared.declaration.Init.TheVariants.{One, Many}
use Rattle.capl_tree.specs.declared.statement.Stmt.{Stmt, Row_of-Stmt, end_of-Stmt, more_of-Stmt, items-the_row-Stmt}
use Rattle.capl_tree.specs.declared.statement.Stmt.TheBlock.{Row_of-Arm, end_of-Arm, more_of-Arm, Row_of-Group, end_of-Group, more_of-Group, Held-Stmt-If-1, items-the_row-Arm, items-the_row-Group}
use Rattle.capl_tree.specs.declared.statement.Stmt.TheVariants as stmt
use Rattle.capl_tree.specs.declared.procedure.Proc.{Proc}
use Rattle.capl_tree.specs.declared.procedure.Head.{Head}
use Rattle.capl_tree.specs.declared.procedure.Head.TheVariants as head
use Rattle.capl_tree.specs.declared.file.TopItem.{TopItem}
use Rattle.capl_tree.specs.declared.file.TopItem.TheVariants as top
use Rattle.capl_tree.specs.declared.file.Program.{Program}
use Rattle.capl_tree.specs.Forms as tree

-- a list has fewer than 2^32 items
abbrev pub IsShortList : {A : Type 0} → List A → Type 0
IsShortList items = length items < 2 ^ 32

abbrev mutual
  -- an expression
  pub IsSmallExpr : Expr → Type 0
  IsSmallExpr (expr.Num value extended at) = IfSome value (λ n. n < 2 ^ 64)
  IsSmallExpr (expr.Char value at) = value < 2 ^ 8
  IsSmallExpr (expr.Str text at) = IsShortList text × AllByRecursion (λ byte. byte < 2 ^ 8) text
  IsSmallExpr (expr.This at) = ⊤
  IsSmallExpr (expr.Name name at) = ⊤
  IsSmallExpr (tree.Paren inner at) = IsSmallExpr inner
  IsSmallExpr (expr.Call' name shape args at) = IsShortList (items-the_row-Expr _ args) × AreSmallExprs args
  IsSmallExpr (tree.Index base index at) = IsSmallExpr base × IsSmallExpr index
  IsSmallExpr (tree.Member base field at) = IsSmallExpr base × IsSmallField field
  IsSmallExpr (tree.Cast kind inner at) = IsSmallExpr inner
  IsSmallExpr (tree.Unary operator inner at) = IsSmallExpr inner
  IsSmallExpr (tree.Post up inner at) = IsSmallExpr inner
  IsSmallExpr (tree.Binary operator left right at) = IsSmallExpr left × IsSmallExpr right
  IsSmallExpr (tree.Cond test one other at) = IsSmallExpr test × IsSmallExpr one × IsSmallExpr other
  IsSmallExpr (tree.Assign operator left right at) = IsSmallExpr left × IsSmallExpr right

  -- a field
  pub IsSmallField : Field → Type 0
  IsSmallField (Named name at) = ⊤
  IsSmallField (tree.Bytes kind index at) = IsSmallExpr index

  -- expressions in a row
  pub AreSmallExprs : {m : _} → Row_of-Expr m → Type 0
  AreSmallExprs end_of-Expr = ⊤
  AreSmallExprs (more_of-Expr first rest) = IsSmallExpr first × AreSmallExprs rest

-- an initialiser; only a text in it is more than a constant
abbrev pub IsSmallInit : Init → Type 0
IsSmallInit (One value) = IsSmallExpr value
IsSmallInit (Many items at) = ⊤

-- a declaration
abbrev pub IsSmallDecl : Decl → Type 0
IsSmallDecl declaration = AllByRecursion (λ declared. IfSome declared.init IsSmallInit) declaration.items

abbrev mutual
  -- a statement
  pub IsSmallStmt : Stmt → Type 0
  IsSmallStmt stmt.Empty = ⊤
  IsSmallStmt (stmt.Block' shape body) = IsShortList (items-the_row-Stmt _ body) × AreSmallStmts body
  IsSmallStmt (stmt.Decl declaration) = IsSmallDecl declaration
  IsSmallStmt (stmt.Expr e) = IsSmallExpr e
  IsSmallStmt (stmt.If' shape arms other) =
      IsShortList (items-the_row-Arm _ arms) × AreSmallArms arms × IsSmallElse other
  IsSmallStmt (tree.While test body) = IsSmallExpr test × IsSmallStmt body
  IsSmallStmt (tree.Do body test) = IsSmallStmt body × IsSmallExpr test
  IsSmallStmt (tree.For init test step body) =
      IfSome init IsSmallExpr × IfSome test IsSmallExpr × IfSome step IsSmallExpr × IsSmallStmt body
  IsSmallStmt (stmt.Switch' on shape groups) =
      IsShortList (items-the_row-Group _ groups) × IsSmallExpr on × AreSmallGroups groups
  IsSmallStmt (stmt.Break at) = ⊤
  IsSmallStmt (stmt.Continue at) = ⊤
  IsSmallStmt (stmt.Return value at) = IfSome value IsSmallExpr

  -- statements in a row
  pub AreSmallStmts : {m : _} → Row_of-Stmt m → Type 0
  AreSmallStmts end_of-Stmt = ⊤
  AreSmallStmts (more_of-Stmt first rest) = IsSmallStmt first × AreSmallStmts rest

  -- the arms of an `if`
  pub AreSmallArms : {m : _} → Row_of-Arm m → Type 0
  AreSmallArms end_of-Arm = ⊤
  AreSmallArms (more_of-Arm test body rest) = IsSmallExpr test × IsSmallStmt body × AreSmallArms rest

  -- what stands behind a last `else`
  pub IsSmallElse : Held-Stmt-If-1 → Type 0
  IsSmallElse tree.NoElse = ⊤
  IsSmallElse (tree.Else body) = IsSmallStmt body

  -- the groups of a `switch`
  pub AreSmallGroups : {m : _} → Row_of-Group m → Type 0
  AreSmallGroups end_of-Group = ⊤
  AreSmallGroups (more_of-Group labels shape body rest) =
      IsShortList labels × IsShortList (items-the_row-Stmt _ body) × AreSmallStmts body × AreSmallGroups rest

-- the head of a procedure; a selector may stand for two ranges of selection keys
abbrev pub IsSmallHead : Head → Type 0
IsSmallHead (head.Message selectors) = length selectors < 2 ^ 31
IsSmallHead (head.Function kind name parameters at) = IsShortList parameters
IsSmallHead _ = ⊤

-- a procedure
pub record IsSmallProcedure (procedure : Proc) : Type 0 where
  pub head : IsSmallHead procedure.head
  pub few_statements : IsShortList procedure.body
  pub statements : AllByRecursion IsSmallStmt procedure.body

-- a part of a file
abbrev pub IsSmallItem : TopItem → Type 0
IsSmallItem (top.Includes names) = ⊤
IsSmallItem (top.Variables declarations) = AllByRecursion IsSmallDecl declarations
IsSmallItem (top.Proc procedure) = IsSmallProcedure procedure

-- a program
abbrev pub IsSmallProgram : Program → Type 0
IsSmallProgram program = AllByRecursion (λ file. AllByRecursion IsSmallItem file.items) program.files
