-- The list in a call, and its row.
use Rattle.std.proofs.Common.{◌≡◌, ℕ, List, [], ◌∷◌, refl, ap}
use Rattle.capl_tree.specs.declared.expr.Expr.{Expr, Row_of-Expr, end_of-Expr, more_of-Expr, items-the_row-Expr}
use Rattle.capl_tree.specs.declared.expr.Expr.TheVariants as expr

-- a call with one argument more
abbrev grown : Expr → Expr → Expr
grown first (expr.Call' name shape row at) = expr.Call' name (tt ∷ shape) (more_of-Expr first row) at
grown first e = e

-- a call is made of the list of its row
pub call_form : (name : List ℕ) (shape : _) (row : _) (at : ℕ) → expr.Call name (items-the_row-Expr _ row) at ≡ expr.Call' name shape row at
unfolding Rattle.capl_tree.specs.declared.expr.Expr.TheBlock.hidden-the_row-Expr-1 denote.Hole.Carrier.hidden
call_form name [] end_of-Expr at = refl
call_form name (one ∷ shape) (more_of-Expr first row) at = ap (grown first) (call_form name shape row at)
