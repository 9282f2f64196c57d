-- An expression that small tokens spell is small.
use Rattle.std.proofs.Common.{List, ◌∷◌, Option, Some, None, arith}
use Rattle.std.specs.Prelude.{IfSome}
use Rattle.capl_lexer.specs.declared.token.Tok.{Tok}
use Rattle.capl_lexer.specs.declared.token.Tok.TheVariants as tok
use Rattle.capl_lexer.specs.declared.token.Sign.TheVariants as sign
use Rattle.capl_tree.specs.declared.expr.Expr.{Expr, Row_of-Expr, end_of-Expr, more_of-Expr}
use Rattle.capl_tree.specs.declared.expr.Expr.TheVariants as expr
use Rattle.capl_tree.specs.declared.expr.Field.{Field}
use Rattle.capl_tree.specs.declared.expr.Field.TheVariants.{Named}
use Rattle.capl_tree.specs.Forms as form
use Rattle.capl_tree.specs.Spelling as spell
use Rattle.capl_tree.specs.Binding.{assignment_sign, operator_sign, postfix_sign}
use Rattle.capl_tree.specs.Spelling.{expression}
use Rattle.capl_tree.specs.FileSpelling.{part}
use Rattle.sound_programs.specs.Small.{AreSmallExprs, IsShortList, IsSmallExpr, IsSmallField}
use Rattle.small_trees.specs.Tokens.{AreSmallToks}
use Rattle.small_trees.proofs.LightExpressions.{arguments_light, expression_light, row_weighs}

mutual
  -- an expression
  pub expression_small : (e : Expr) (ts : List Tok) → IsShortList (expression e ts) → AreSmallToks (expression e ts) → IsSmallExpr e × AreSmallToks ts
  expression_small (expr.Num value ext at) ts short small = (small.0, small.1)
  expression_small (expr.Char value at) ts short small = (small.0, small.1)
  expression_small (expr.Str text at) ts short small = (small.0, small.1)
  expression_small (expr.This at) ts short small = (tt, small.1)
  expression_small (expr.Name name at) ts short small = (tt, small.1)
  expression_small (form.Paren inner at) ts short small =
      let it = expression_small inner (tok.Sign sign.CloseParen ∷ ts) (omega (arith, short)) small.1 in (it.0, it.1.1)
  expression_small (expr.Call' name shape args at) ts short small =
      let behind = tok.Sign sign.CloseParen ∷ ts in
      let it = arguments_small args behind (omega (arith, short)) small.1.1 in
      ((omega (arith, short, arguments_light args behind, row_weighs args), it.0), it.1.1)
  expression_small (form.Index base index at) ts short small =
      let last = tok.Sign sign.CloseBracket ∷ ts in
      let behind = tok.Sign sign.OpenBracket ∷ expression index last in
      let one = expression_small base behind short small in
      let two = expression_small index last (omega (arith, short, expression_light base behind)) one.1.1 in
      ((one.0, two.0), two.1.1)
  expression_small (form.Member base inner at) ts short small =
      let behind = tok.Sign sign.Dot ∷ spell.field inner ts in
      let one = expression_small base behind short small in
      let two = field_small inner ts (omega (arith, short, expression_light base behind)) one.1.1 in
      ((one.0, two.0), two.1)
  expression_small (form.Cast k inner at) ts short small = expression_small inner ts (omega (arith, short)) small.1.1.1
  expression_small (form.Unary operator inner at) ts short small = expression_small inner ts (omega (arith, short)) small.1
  expression_small (form.Post up inner at) ts short small =
      let it = expression_small inner (tok.Sign (postfix_sign up) ∷ ts) short small in (it.0, it.1.1)
  expression_small (form.Binary operator left right at) ts short small =
      let behind = tok.Sign (operator_sign operator) ∷ expression right ts in
      let one = expression_small left behind short small in
      let two = expression_small right ts (omega (arith, short, expression_light left behind)) one.1.1 in
      ((one.0, two.0), two.1)
  expression_small (form.Cond test kept other at) ts short small =
      let last = tok.Sign sign.Colon ∷ expression other ts in
      let behind = tok.Sign sign.Question ∷ expression kept last in
      let one = expression_small test behind short small in
      let two = expression_small kept last (omega (arith, short, expression_light test behind)) one.1.1 in
      let three = expression_small other ts (omega (arith, short, expression_light test behind, expression_light kept last)) two.1.1 in
      ((one.0, two.0, three.0), three.1)
  expression_small (form.Assign operator left right at) ts short small =
      let behind = tok.Sign (assignment_sign operator) ∷ expression right ts in
      let one = expression_small left behind short small in
      let two = expression_small right ts (omega (arith, short, expression_light left behind)) one.1.1 in
      ((one.0, two.0), two.1)

  -- a field
  pub field_small : (f : Field) (ts : List Tok) → IsShortList (spell.field f ts) → AreSmallToks (spell.field f ts) → IsSmallField f × AreSmallToks ts
  field_small (Named name at) ts short small = (tt, small.1)
  field_small (form.Bytes k index at) ts short small =
      let it = expression_small index (tok.Sign sign.CloseParen ∷ ts) (omega (arith, short)) small.1.1 in (it.0, it.1.1)

  -- arguments
  pub arguments_small : {m : _} (row : Row_of-Expr m) (ts : List Tok) → IsShortList (spell.arguments row ts) → AreSmallToks (spell.arguments row ts) →
      AreSmallExprs row × AreSmallToks ts
  arguments_small end_of-Expr ts short small = (tt, small)
  arguments_small (more_of-Expr first others) ts short small =
      let behind = spell.further_arguments others ts in
      let one = expression_small first behind short small in
      let two = further_small others ts (omega (arith, short, expression_light first behind)) one.1 in
      ((one.0, two.0), two.1)

  -- arguments behind the first
  pub further_small : {m : _} (row : Row_of-Expr m) (ts : List Tok) → IsShortList (spell.further_arguments row ts) → AreSmallToks (spell.further_arguments row ts) →
      AreSmallExprs row × AreSmallToks ts
  further_small end_of-Expr ts short small = (tt, small)
  further_small (more_of-Expr first others) ts short small =
      let behind = spell.further_arguments others ts in
      let one = expression_small first behind (omega (arith, short)) small.1 in
      let two = further_small others ts (omega (arith, short, expression_light first behind)) one.1 in
      ((one.0, two.0), two.1)

-- an expression that may be missing
pub part_small : (value : Option Expr) (ts : List Tok) → IsShortList (part value ts) → AreSmallToks (part value ts) → IfSome value IsSmallExpr × AreSmallToks ts
part_small None ts short small = (tt, small)
part_small (Some value) ts short small = expression_small value ts short small
