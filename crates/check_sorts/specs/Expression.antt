-- Which expressions have parts.
use Rattle.std.specs.Prelude.{Bool, true, false}
use Rattle.capl_tree.specs.declared.expr.Expr.{Expr}
use Rattle.capl_tree.specs.declared.expr.Expr.TheVariants as expr

-- an expression is no number, character, text, `this` or name
abbrev pub has_parts : Expr → Bool
has_parts (expr.Num value extended at) = false
has_parts (expr.Char value at) = false
has_parts (expr.Str text at) = false
has_parts (expr.This at) = false
has_parts (expr.Name name at) = false
has_parts _ = true
