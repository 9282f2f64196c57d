-- The place of a part in its file, by the number of its first token.
use Rattle.std.specs.Prelude.{ℕ}
use Rattle.capl_tree.specs.declared.expr.Expr.{Expr}
use Rattle.capl_tree.specs.declared.expr.Expr.TheVariants as expr
use Rattle.capl_tree.specs.declared.expr.Field.{Field}
use Rattle.capl_tree.specs.declared.expr.Field.TheVariants.{Named, Bytes'}

-- the place of an expression
abbrev pub expression_place : Expr → ℕ
expression_place (expr.Num value ext at) = at
expression_place (expr.Char value at) = at
expression_place (expr.Str text at) = at
expression_place (expr.This at) = at
expression_place (expr.Name name at) = at
expression_place (expr.Paren' _ inner at) = at
expression_place (expr.Call' name _ args at) = at
expression_place (expr.Index' _ base _ index at) = at
expression_place (expr.Member' _ base field at) = at
expression_place (expr.Cast' kind _ inner at) = at
expression_place (expr.Unary' operator _ inner at) = at
expression_place (expr.Post' up _ inner at) = at
expression_place (expr.Binary' operator _ left _ right at) = at
expression_place (expr.Cond' _ test _ one _ other at) = at
expression_place (expr.Assign' operator _ left _ right at) = at

-- the place of a field
abbrev pub field_place : Field → ℕ
field_place (Named name at) = at
field_place (Bytes' kind _ index at) = at
