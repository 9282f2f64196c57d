-- Messages in expressions.
use Rattle.std.proofs.Common.{◌≡◌, ◌∙◌, ℕ, List, true, false, Option, None, Some, refl, ap, sym}
use Rattle.std.specs.Option.{option_map_or}
use Rattle.int_kinds.specs.declared.kinds.Kind.{Kind}
use Rattle.dbc_reader.specs.declared.signals.DbcSignal.{DbcSignal}
use Rattle.capl_tree.specs.declared.expr.Expr.{Expr}
use Rattle.capl_tree.specs.declared.expr.Expr.TheVariants as expr
use Rattle.capl_tree.specs.declared.expr.Field.{Field}
use Rattle.capl_tree.specs.declared.expr.Field.TheVariants as field
use Rattle.capl_tree.proofs.FormLemmas as form
use Rattle.capl_meaning.specs.Expression.{timer_in}
use Rattle.capl_meaning.specs.Format.{quoted_text}
use Rattle.capl_meaning.specs.Message.{array_in, is_number_place, is_open_array, is_open_field, is_open_part, message_in}
use Rattle.capl_meaning.specs.Names.{Scope}

-- a text under parentheses
pub paren_text : (e inner : Expr) (at : ℕ) → e ≡ expr.Paren inner at → quoted_text e ≡ quoted_text inner
paren_text e inner at is = ap quoted_text (is ∙ form.paren_form inner at)

-- a message under parentheses
pub paren_message : (s : Scope) (e inner : Expr) (at : ℕ) → e ≡ expr.Paren inner at → message_in s e ≡ message_in s inner
paren_message s e inner at is = ap (message_in s) (is ∙ form.paren_form inner at)

-- an array under parentheses
pub paren_array : (s : Scope) (e inner : Expr) (at : ℕ) → e ≡ expr.Paren inner at → array_in s e ≡ array_in s inner
paren_array s e inner at is = ap (array_in s) (is ∙ form.paren_form inner at)

-- a timer under parentheses
pub paren_timer : (s : Scope) (e inner : Expr) (at : ℕ) → e ≡ expr.Paren inner at → timer_in s e ≡ timer_in s inner
paren_timer s e inner at is = ap (timer_in s) (is ∙ form.paren_form inner at)
