-- Each variant with a box, as code makes it, is its pattern.
use Rattle.std.proofs.Common.{◌≡◌, ℕ, Bool, Option, refl}
use Rattle.int_kinds.specs.declared.kinds.Kind.{Kind}
use Rattle.int_kinds.specs.declared.operators.BinOp.{BinOp}
use Rattle.int_kinds.specs.declared.operators.UnOp.{UnOp}
use Rattle.capl_tree.specs.declared.expr.Expr.{Expr}
use Rattle.capl_tree.specs.declared.expr.Expr.TheVariants as expr
use Rattle.capl_tree.specs.declared.expr.Field.{Field}
use Rattle.capl_tree.specs.declared.expr.Field.TheVariants as field
use Rattle.capl_tree.specs.declared.statement.Stmt.{Stmt}
use Rattle.capl_tree.specs.declared.statement.Stmt.TheVariants as stmt
use Rattle.capl_tree.specs.Forms as form

-- an expression between parentheses
pub paren_form : (inner : Expr) (at : ℕ) → expr.Paren inner at ≡ form.Paren inner at
unfolding Rattle.capl_tree.specs.declared.expr.Expr.TheBlock.hidden-the_row-Expr-0 denote.Hole.Carrier.hidden
paren_form inner at = refl

-- an element
pub index_form : (base index : Expr) (at : ℕ) → expr.Index base index at ≡ form.Index base index at
unfolding Rattle.capl_tree.specs.declared.expr.Expr.TheBlock.hidden-the_row-Expr-0 denote.Hole.Carrier.hidden
index_form base index at = refl

-- a member
pub member_form : (base : Expr) (field : Field) (at : ℕ) → expr.Member base field at ≡ form.Member base field at
unfolding Rattle.capl_tree.specs.declared.expr.Expr.TheBlock.hidden-the_row-Expr-0 denote.Hole.Carrier.hidden
member_form base field at = refl

-- bytes of the payload
pub bytes_form : (kind : Kind) (index : Expr) (at : ℕ) → field.Bytes kind index at ≡ form.Bytes kind index at
unfolding Rattle.capl_tree.specs.declared.expr.Expr.TheBlock.hidden-the_row-Expr-0 denote.Hole.Carrier.hidden
bytes_form kind index at = refl

-- a cast
pub cast_form : (kind : Kind) (inner : Expr) (at : ℕ) → expr.Cast kind inner at ≡ form.Cast kind inner at
unfolding Rattle.capl_tree.specs.declared.expr.Expr.TheBlock.hidden-the_row-Expr-0 denote.Hole.Carrier.hidden
cast_form kind inner at = refl

-- a prefix operator
pub unary_form : (op : UnOp) (inner : Expr) (at : ℕ) → expr.Unary op inner at ≡ form.Unary op inner at
unfolding Rattle.capl_tree.specs.declared.expr.Expr.TheBlock.hidden-the_row-Expr-0 denote.Hole.Carrier.hidden
unary_form op inner at = refl

-- a postfix operator
pub post_form : (up : Bool) (inner : Expr) (at : ℕ) → expr.Post up inner at ≡ form.Post up inner at
unfolding Rattle.capl_tree.specs.declared.expr.Expr.TheBlock.hidden-the_row-Expr-0 denote.Hole.Carrier.hidden
post_form up inner at = refl

-- a binary operator
pub binary_form : (op : BinOp) (left right : Expr) (at : ℕ) → expr.Binary op left right at ≡ form.Binary op left right at
unfolding Rattle.capl_tree.specs.declared.expr.Expr.TheBlock.hidden-the_row-Expr-0 denote.Hole.Carrier.hidden
binary_form op left right at = refl

-- a choice
pub cond_form : (test one other : Expr) (at : ℕ) → expr.Cond test one other at ≡ form.Cond test one other at
unfolding Rattle.capl_tree.specs.declared.expr.Expr.TheBlock.hidden-the_row-Expr-0 denote.Hole.Carrier.hidden
cond_form test one other at = refl

-- an assignment
pub assign_form : (op : Option BinOp) (left right : Expr) (at : ℕ) → expr.Assign op left right at ≡ form.Assign op left right at
unfolding Rattle.capl_tree.specs.declared.expr.Expr.TheBlock.hidden-the_row-Expr-0 denote.Hole.Carrier.hidden
assign_form op left right at = refl

-- `while`
pub while_form : (test : Expr) (body : Stmt) → stmt.While test body ≡ form.While test body
unfolding Rattle.capl_tree.specs.declared.statement.Stmt.TheBlock.hidden-the_row-Stmt-2 denote.Hole.Carrier.hidden
while_form test body = refl

-- `do`
pub do_form : (body : Stmt) (test : Expr) → stmt.Do body test ≡ form.Do body test
unfolding Rattle.capl_tree.specs.declared.statement.Stmt.TheBlock.hidden-the_row-Stmt-2 denote.Hole.Carrier.hidden
do_form body test = refl

-- `for`
pub for_form : (init test step : Option Expr) (body : Stmt) → stmt.For init test step body ≡ form.For init test step body
unfolding Rattle.capl_tree.specs.declared.statement.Stmt.TheBlock.hidden-the_row-Stmt-2 denote.Hole.Carrier.hidden
for_form init test step body = refl
