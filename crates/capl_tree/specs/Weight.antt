-- The weight of a program, an upper bound of the number of instructions of its code.
--
-- 8 for each expression, each statement other than a declaration, each arm of an `if` after the first,
-- each label and each procedure. The block of a procedure is no statement. The constants of
-- declarations and of labels weigh nothing, and neither do the numbers of selectors.
use Rattle.std.specs.Prelude.{ℕ, ◌+◌, ◌-◌, ◌*◌, ◌^◌, Option, Some, None, length, sum_by, nat_lt, if◌then◌else◌}
use Rattle.capl_tree.specs.declared.expr.Expr.{Expr, Row_of-Expr, end_of-Expr, more_of-Expr}
use Rattle.capl_tree.specs.declared.expr.Expr.TheVariants as expr
use Rattle.capl_tree.specs.declared.expr.Field.{Field}
use Rattle.capl_tree.specs.declared.expr.Field.TheVariants.{Named}
use Rattle.capl_tree.specs.declared.statement.Stmt.{Stmt, Row_of-Stmt, end_of-Stmt, more_of-Stmt}
use Rattle.capl_tree.specs.declared.statement.Stmt.TheBlock.{Row_of-Arm, end_of-Arm, more_of-Arm, Row_of-Group, end_of-Group, more_of-Group, Held-Stmt-If-1}
use Rattle.capl_tree.specs.declared.statement.Stmt.TheVariants as stmt
use Rattle.capl_tree.specs.declared.procedure.Proc.{Proc}
use Rattle.capl_tree.specs.declared.file.TopItem.{TopItem}
use Rattle.capl_tree.specs.declared.file.TopItem.TheVariants as top
use Rattle.capl_tree.specs.declared.file.FileTree.{FileTree}
use Rattle.capl_tree.specs.declared.file.Program.{Program}
use Rattle.capl_tree.specs.Forms as form

abbrev mutual
  -- an expression, and the expressions in it
  pub expression_weight : Expr → ℕ
  expression_weight (form.Paren inner at) = 8 + expression_weight inner
  expression_weight (expr.Call' name shape args at) = 8 + expressions_weight args
  expression_weight (form.Index base index at) = 8 + expression_weight base + expression_weight index
  expression_weight (form.Member base field at) = 8 + expression_weight base + field_weight field
  expression_weight (form.Cast kind inner at) = 8 + expression_weight inner
  expression_weight (form.Unary op inner at) = 8 + expression_weight inner
  expression_weight (form.Post up inner at) = 8 + expression_weight inner
  expression_weight (form.Binary op left right at) = 8 + expression_weight left + expression_weight right
  expression_weight (form.Cond test one other at) =
      8 + expression_weight test + expression_weight one + expression_weight other
  expression_weight (form.Assign op left right at) = 8 + expression_weight left + expression_weight right
  expression_weight (expr.Num value ext at) = 8
  expression_weight (expr.Char value at) = 8
  expression_weight (expr.Str text at) = 8
  expression_weight (expr.This at) = 8
  expression_weight (expr.Name name at) = 8

  -- the index in a field
  pub field_weight : Field → ℕ
  field_weight (Named name at) = 0
  field_weight (form.Bytes kind index at) = expression_weight index

  -- expressions in a row
  pub expressions_weight : {m : _} → Row_of-Expr m → ℕ
  expressions_weight end_of-Expr = 0
  expressions_weight (more_of-Expr first rest) = expression_weight first + expressions_weight rest

-- an expression that may be missing
abbrev pub part_weight : Option Expr → ℕ
part_weight None = 0
part_weight (Some part) = expression_weight part

abbrev mutual
  -- a statement, and the statements and expressions in it
  pub statement_weight : Stmt → ℕ
  statement_weight stmt.Empty = 8
  statement_weight (stmt.Block' shape body) = 8 + statements_weight body
  statement_weight (stmt.Decl declaration) = 0
  statement_weight (stmt.Expr e) = 8 + expression_weight e
  statement_weight (stmt.If' shape arms other) = 8 + arms_weight arms + else_weight other
  statement_weight (form.While test body) = 8 + expression_weight test + statement_weight body
  statement_weight (form.Do body test) = 8 + statement_weight body + expression_weight test
  statement_weight (form.For init test step body) =
      8 + part_weight init + part_weight test + part_weight step + statement_weight body
  statement_weight (stmt.Switch' on shape groups) = 8 + expression_weight on + groups_weight groups
  statement_weight (stmt.Break at) = 8
  statement_weight (stmt.Continue at) = 8
  statement_weight (stmt.Return value at) = 8 + part_weight value

  -- statements in a row
  pub statements_weight : {m : _} → Row_of-Stmt m → ℕ
  statements_weight end_of-Stmt = 0
  statements_weight (more_of-Stmt first rest) = statement_weight first + statements_weight rest

  -- the arms of an `if`, of which the first weighs what is in it
  pub arms_weight : {m : _} → Row_of-Arm m → ℕ
  arms_weight end_of-Arm = 0
  arms_weight (more_of-Arm test body rest) =
      expression_weight test + statement_weight body + further_arms_weight rest

  -- arms after the first
  pub further_arms_weight : {m : _} → Row_of-Arm m → ℕ
  further_arms_weight end_of-Arm = 0
  further_arms_weight (more_of-Arm test body rest) =
      8 + expression_weight test + statement_weight body + further_arms_weight rest

  -- what stands behind a last `else`
  pub else_weight : Held-Stmt-If-1 → ℕ
  else_weight form.NoElse = 0
  else_weight (form.Else body) = statement_weight body

  -- the groups of a `switch`
  pub groups_weight : {m : _} → Row_of-Group m → ℕ
  groups_weight end_of-Group = 0
  groups_weight (more_of-Group labels shape body rest) =
      8 * length labels + statements_weight body + groups_weight rest

-- a procedure
abbrev pub procedure_weight : Proc → ℕ
procedure_weight procedure = 8 + sum_by statement_weight procedure.body

-- a part of a file
abbrev pub top_item_weight : TopItem → ℕ
top_item_weight (top.Includes names) = 0
top_item_weight (top.Variables declarations) = 0
top_item_weight (top.Proc procedure) = procedure_weight procedure

-- a file
abbrev pub file_weight : FileTree → ℕ
file_weight file = sum_by top_item_weight file.items

-- a program
abbrev pub weight : Program → ℕ
weight program = sum_by file_weight program.files

-- the number, or the greatest of 64 bits where it is above
abbrev pub saturated : ℕ → ℕ
saturated number = if nat_lt number (2 ^ 64) then number else 2 ^ 64 - 1
