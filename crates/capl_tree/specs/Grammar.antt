-- Where each part of a tree may stand (CAPL manual, operators, statements and declarations).
--
-- An operand that binds weaker than its place wants stands between parentheses, an `else` belongs to the
-- nearest `if` that has none, and a list that the grammar wants to have an item has one. Whether each `at`
-- is the number of its token is no part of this.
use Rattle.std.specs.Prelude.{◌≡◌, ◌≢◌, ◌≤◌, ◌<◌, false, List, [], Option, All, ⊤}
use Rattle.std.specs.Option.{ForSome}
use Rattle.int_kinds.specs.declared.operators.BinOp.{BinOp}
use Rattle.int_kinds.specs.declared.operators.BinOp.TheVariants as op
use Rattle.capl_tree.specs.declared.expr.Expr.{Expr, Row_of-Expr, end_of-Expr, more_of-Expr}
use Rattle.capl_tree.specs.declared.expr.Expr.TheVariants as expr
use Rattle.capl_tree.specs.declared.expr.Field.{Field}
use Rattle.capl_tree.specs.declared.expr.Field.TheVariants.{Named}
use Rattle.capl_tree.specs.declared.statement.Stmt.{Stmt, Row_of-Stmt, end_of-Stmt, more_of-Stmt}
use Rattle.capl_tree.specs.declared.statement.Stmt.TheBlock.{Row_of-Arm, end_of-Arm, more_of-Arm, Row_of-Group, end_of-Group, more_of-Group, Held-Stmt-If-1}
use Rattle.capl_tree.specs.declared.statement.Stmt.TheVariants as stmt
use Rattle.capl_tree.specs.declared.statement.Label.{Label}
use Rattle.capl_tree.specs.declared.declaration.Decl.{Decl}
use Rattle.capl_tree.specs.declared.declaration.Declr.{Declr}
use Rattle.capl_tree.specs.declared.declaration.Init.{Init}
use Rattle.capl_tree.specs.declared.declaration.Init.TheVariants.{One, Many}
use Rattle.capl_tree.specs.declared.declaration.Item.{Item}
use Rattle.capl_tree.specs.declared.declaration.Item.TheVariants.{Plain, Set}
use Rattle.capl_tree.specs.declared.procedure.Proc.{Proc}
use Rattle.capl_tree.specs.declared.procedure.Head.{Head}
use Rattle.capl_tree.specs.declared.procedure.Head.TheVariants as head
use Rattle.capl_tree.specs.declared.procedure.Sel.{Sel}
use Rattle.capl_tree.specs.declared.procedure.SelWhat.{SelWhat}
use Rattle.capl_tree.specs.declared.procedure.SelWhat.TheVariants as selected
use Rattle.capl_tree.specs.declared.file.TopItem.{TopItem}
use Rattle.capl_tree.specs.declared.file.TopItem.TheVariants as top
use Rattle.capl_tree.specs.declared.file.FileTree.{FileTree}
use Rattle.capl_tree.specs.Forms as form
use Rattle.capl_tree.specs.Binding.{operator_level, choice_level, binary_level, prefix_level, postfix_level, level, takes_else}

-- the operator has a sign with `=`
abbrev pub IsCompound : BinOp → Type 0
IsCompound op.OrElse = ⊥
IsCompound op.AndAlso = ⊥
IsCompound op.Equal = ⊥
IsCompound op.NotEqual = ⊥
IsCompound op.Less = ⊥
IsCompound op.LessEqual = ⊥
IsCompound op.Greater = ⊥
IsCompound op.GreaterEqual = ⊥
IsCompound _ = ⊤

-- each operand in an expression binds as strongly as its place wants
abbrev mutual
  -- an expression
  pub IsExpression : Expr → Type 0
  IsExpression (form.Paren inner at) = IsExpression inner
  IsExpression (expr.Call' name shape args at) = AreExpressions args
  IsExpression (form.Index base index at) =
      IsExpression base × (postfix_level ≤ level base) × IsExpression index
  IsExpression (form.Member base field at) = IsExpression base × (postfix_level ≤ level base) × IsField field
  IsExpression (form.Cast kind inner at) = IsExpression inner × (prefix_level ≤ level inner)
  IsExpression (form.Unary operator inner at) = IsExpression inner × (prefix_level ≤ level inner)
  IsExpression (form.Post up inner at) = IsExpression inner × (postfix_level ≤ level inner)
  IsExpression (form.Binary operator left right at) =
      IsExpression left × (operator_level operator ≤ level left)
      × IsExpression right × (operator_level operator < level right)
  IsExpression (form.Cond test one other at) =
      IsExpression test × (binary_level ≤ level test) × IsExpression one
      × IsExpression other × (choice_level ≤ level other)
  IsExpression (form.Assign operator left right at) =
      ForSome operator IsCompound × IsExpression left × (choice_level ≤ level left) × IsExpression right
  IsExpression (expr.Num value ext at) = ⊤
  IsExpression (expr.Char value at) = ⊤
  IsExpression (expr.Str text at) = ⊤
  IsExpression (expr.This at) = ⊤
  IsExpression (expr.Name name at) = ⊤

  -- a field
  pub IsField : Field → Type 0
  IsField (Named name at) = ⊤
  IsField (form.Bytes kind index at) = IsExpression index

  -- expressions in a row
  pub AreExpressions : {m : _} → Row_of-Expr m → Type 0
  AreExpressions end_of-Expr = ⊤
  AreExpressions (more_of-Expr first rest) = IsExpression first × AreExpressions rest

-- an expression that may be missing
abbrev pub IsOptional : Option Expr → Type 0
IsOptional part = ForSome part IsExpression

-- an expression that is no assignment
abbrev pub IsValue : Expr → Type 0
IsValue e = IsExpression e × (choice_level ≤ level e)

-- an item between the braces of an initialiser
abbrev pub IsInitialItem : Item → Type 0
IsInitialItem (Plain value) = IsValue value
IsInitialItem (Set field value) = IsField field × IsValue value

-- an initialiser
abbrev pub IsInitialiser : Init → Type 0
IsInitialiser (One value) = IsValue value
IsInitialiser (Many items at) = (items ≢ []) × All IsInitialItem items

-- a declared variable
abbrev pub IsDeclared : Declr → Type 0
IsDeclared declared = ForSome declared.size IsValue × ForSome declared.init IsInitialiser

-- a declaration
abbrev pub IsDeclaration : Decl → Type 0
IsDeclaration declaration = (declaration.items ≢ []) × All IsDeclared declaration.items

-- a label
abbrev pub IsLabel : Label → Type 0
IsLabel label = ForSome label.value IsValue

-- no `if`
abbrev pub IsNoIf : Stmt → Type 0
IsNoIf (stmt.If' shape arms other) = ⊥
IsNoIf _ = ⊤

-- the statement may stand before what stands behind a last `else`
abbrev pub IsClosedBefore : Stmt → Held-Stmt-If-1 → Type 0
IsClosedBefore body form.NoElse = ⊤
IsClosedBefore body (form.Else other) = takes_else body ≡ false

-- the labels of a group, at least one
abbrev pub AreLabels : List Label → Type 0
AreLabels labels = (labels ≢ []) × All IsLabel labels

-- the row has a statement
abbrev pub HasStatement : {m : _} → Row_of-Stmt m → Type 0
HasStatement end_of-Stmt = ⊥
HasStatement (more_of-Stmt first rest) = ⊤

-- each statement in a statement stands where it may
abbrev mutual
  -- a statement that is no declaration
  pub IsStatement : Stmt → Type 0
  IsStatement stmt.Empty = ⊤
  IsStatement (stmt.Block' shape body) = AreStatements body
  IsStatement (stmt.Decl declaration) = ⊥
  IsStatement (stmt.Expr e) = IsExpression e
  IsStatement (stmt.If' shape arms other) = AreArms arms other × IsElse other
  IsStatement (form.While test body) = IsExpression test × IsStatement body
  IsStatement (form.Do body test) = IsStatement body × IsExpression test
  IsStatement (form.For init test step body) =
      IsOptional init × IsOptional test × IsOptional step × IsStatement body
  IsStatement (stmt.Switch' on shape groups) = IsExpression on × AreGroups groups
  IsStatement (stmt.Break at) = ⊤
  IsStatement (stmt.Continue at) = ⊤
  IsStatement (stmt.Return value at) = IsOptional value

  -- declarations and statements in a row
  pub AreStatements : {m : _} → Row_of-Stmt m → Type 0
  AreStatements end_of-Stmt = ⊤
  AreStatements (more_of-Stmt (stmt.Decl declaration) rest) = IsDeclaration declaration × AreStatements rest
  AreStatements (more_of-Stmt first rest) = IsStatement first × AreStatements rest

  -- the arms of an `if`, at least one, before what stands behind a last `else`
  pub AreArms : {m : _} → Row_of-Arm m → Held-Stmt-If-1 → Type 0
  AreArms end_of-Arm other = ⊥
  AreArms (more_of-Arm test body end_of-Arm) other =
      IsExpression test × IsStatement body × IsClosedBefore body other
  AreArms (more_of-Arm test body rest) other =
      IsExpression test × IsStatement body × (takes_else body ≡ false) × AreArms rest other

  -- what stands behind a last `else`
  pub IsElse : Held-Stmt-If-1 → Type 0
  IsElse form.NoElse = ⊤
  IsElse (form.Else body) = IsStatement body × IsNoIf body

  -- the groups of a `switch`, of which only the last may be without statements
  pub AreGroups : {m : _} → Row_of-Group m → Type 0
  AreGroups end_of-Group = ⊤
  AreGroups (more_of-Group labels shape body end_of-Group) = AreLabels labels × AreStatements body
  AreGroups (more_of-Group labels shape body rest) =
      AreLabels labels × AreStatements body × HasStatement body × AreGroups rest

-- a declaration or a statement
abbrev pub IsBodyPart : Stmt → Type 0
IsBodyPart (stmt.Decl declaration) = IsDeclaration declaration
IsBodyPart statement = IsStatement statement

-- a number
abbrev pub IsNumeral : Expr → Type 0
IsNumeral (expr.Num value ext at) = ⊤
IsNumeral _ = ⊥

-- which frames of a channel
abbrev pub IsSelection : SelWhat → Type 0
IsSelection (selected.Any at) = ⊤
IsSelection (selected.Name name at) = ⊤
IsSelection (selected.Ids low high at) = IsNumeral low × ForSome high IsNumeral

-- a selector, on one of two channels or on none
abbrev pub IsSelector : Sel → Type 0
IsSelector s = (s.chan ≤ 2) × IsSelection s.what

-- the head of a procedure
abbrev pub IsHead : Head → Type 0
IsHead (head.Message selectors) = (selectors ≢ []) × All IsSelector selectors
IsHead _ = ⊤

-- a procedure
abbrev pub IsProcedure : Proc → Type 0
IsProcedure procedure = IsHead procedure.head × All IsBodyPart procedure.body

-- a part of a file
abbrev pub IsTopItem : TopItem → Type 0
IsTopItem (top.Includes names) = ⊤
IsTopItem (top.Variables declarations) = All IsDeclaration declarations
IsTopItem (top.Proc procedure) = IsProcedure procedure

-- a file
abbrev pub IsFile : FileTree → Type 0
IsFile file = All IsTopItem file.items
