-- An expression weighs at most eight times as much as there are tokens that spell it.
use Rattle.std.proofs.Common.{◌+◌, ◌*◌, ◌≤◌, List, ◌∷◌, length, Option, Some, None, arith}
use Rattle.capl_lexer.specs.declared.token.Tok.{Tok}
use Rattle.capl_lexer.specs.declared.token.Tok.TheVariants as tok
use Rattle.capl_lexer.specs.declared.token.Sign.TheVariants as sign
use Rattle.capl_tree.specs.declared.expr.Expr.{Expr, Row_of-Expr, end_of-Expr, more_of-Expr, items-the_row-Expr}
use Rattle.capl_tree.specs.declared.expr.Expr.TheVariants as expr
use Rattle.capl_tree.specs.declared.expr.Field.{Field}
use Rattle.capl_tree.specs.declared.expr.Field.TheVariants.{Named}
use Rattle.capl_tree.specs.Forms as form
use Rattle.capl_tree.specs.Spelling as spell
use Rattle.capl_tree.specs.Binding.{assignment_sign, operator_sign, postfix_sign}
use Rattle.capl_tree.specs.Spelling.{expression}
use Rattle.capl_tree.specs.FileSpelling.{part}
use Rattle.capl_tree.specs.Weight.{expression_weight, expressions_weight, field_weight, part_weight}

mutual
  -- an expression
  pub expression_light : (e : Expr) (ts : List Tok) → expression_weight e + 8 * length ts ≤ 8 * length (expression e ts)
  expression_light (expr.Num value ext at) ts = omega arith
  expression_light (expr.Char value at) ts = omega arith
  expression_light (expr.Str text at) ts = omega arith
  expression_light (expr.This at) ts = omega arith
  expression_light (expr.Name name at) ts = omega arith
  expression_light (form.Paren inner at) ts = omega (arith, expression_light inner (tok.Sign sign.CloseParen ∷ ts))
  expression_light (expr.Call' name shape args at) ts = omega (arith, arguments_light args (tok.Sign sign.CloseParen ∷ ts))
  expression_light (form.Index base index at) ts =
      let behind = tok.Sign sign.CloseBracket ∷ ts in
      omega (arith, expression_light base (tok.Sign sign.OpenBracket ∷ expression index behind), expression_light index behind)
  expression_light (form.Member base inner at) ts =
      omega (arith, expression_light base (tok.Sign sign.Dot ∷ spell.field inner ts), field_light inner ts)
  expression_light (form.Cast k inner at) ts = omega (arith, expression_light inner ts)
  expression_light (form.Unary operator inner at) ts = omega (arith, expression_light inner ts)
  expression_light (form.Post up inner at) ts = omega (arith, expression_light inner (tok.Sign (postfix_sign up) ∷ ts))
  expression_light (form.Binary operator left right at) ts =
      omega (arith, expression_light left (tok.Sign (operator_sign operator) ∷ expression right ts), expression_light right ts)
  expression_light (form.Cond test one other at) ts =
      let behind = tok.Sign sign.Colon ∷ expression other ts in
      omega (
        arith,
        expression_light test (tok.Sign sign.Question ∷ expression one behind),
        expression_light one behind,
        expression_light other ts,
      )
  expression_light (form.Assign operator left right at) ts =
      omega (arith, expression_light left (tok.Sign (assignment_sign operator) ∷ expression right ts), expression_light right ts)

  -- a field
  pub field_light : (f : Field) (ts : List Tok) → field_weight f + 8 * length ts ≤ 8 * length (spell.field f ts)
  field_light (Named name at) ts = omega arith
  field_light (form.Bytes k index at) ts = omega (arith, expression_light index (tok.Sign sign.CloseParen ∷ ts))

  -- arguments
  pub arguments_light : {m : _} (row : Row_of-Expr m) (ts : List Tok) → expressions_weight row + 8 * length ts ≤ 8 * length (spell.arguments row ts)
  arguments_light end_of-Expr ts = omega arith
  arguments_light (more_of-Expr first others) ts =
      omega (arith, expression_light first (spell.further_arguments others ts), further_light others ts)

  -- arguments behind the first
  pub further_light : {m : _} (row : Row_of-Expr m) (ts : List Tok) → expressions_weight row + 8 * length ts ≤ 8 * length (spell.further_arguments row ts)
  further_light end_of-Expr ts = omega arith
  further_light (more_of-Expr first others) ts =
      omega (arith, expression_light first (spell.further_arguments others ts), further_light others ts)

-- each expression weighs something
pub expression_weighs : (e : Expr) → 8 ≤ expression_weight e
expression_weighs (expr.Num value ext at) = omega arith
expression_weighs (expr.Char value at) = omega arith
expression_weighs (expr.Str text at) = omega arith
expression_weighs (expr.This at) = omega arith
expression_weighs (expr.Name name at) = omega arith
expression_weighs (form.Paren inner at) = omega arith
expression_weighs (expr.Call' name shape args at) = omega arith
expression_weighs (form.Index base index at) = omega arith
expression_weighs (form.Member base inner at) = omega arith
expression_weighs (form.Cast k inner at) = omega arith
expression_weighs (form.Unary operator inner at) = omega arith
expression_weighs (form.Post up inner at) = omega arith
expression_weighs (form.Binary operator left right at) = omega arith
expression_weighs (form.Cond test one other at) = omega arith
expression_weighs (form.Assign operator left right at) = omega arith

-- so does each of a row
pub row_weighs : {m : _} (row : Row_of-Expr m) → 8 * length (items-the_row-Expr m row) ≤ expressions_weight row
row_weighs end_of-Expr = omega arith
row_weighs (more_of-Expr first others) = omega (arith, expression_weighs first, row_weighs others)

-- an expression that may be missing
pub part_light : (value : Option Expr) (ts : List Tok) → part_weight value + 8 * length ts ≤ 8 * length (part value ts)
part_light None ts = omega arith
part_light (Some value) ts = expression_light value ts
