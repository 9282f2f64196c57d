-- Expressions are what their pieces say.
use Rattle.std.proofs.Common.{◌≡◌, ℕ, suc, ◌≤◌, ◌<◌, ◌∷◌, Option, Some, None, refl, subst, arith}
use Rattle.std.specs.Option.{ForSome}
use Rattle.int_kinds.specs.declared.operators.BinOp.{BinOp}
use Rattle.int_kinds.specs.declared.operators.BinOp.TheVariants as op
use Rattle.capl_lexer.specs.declared.token.Tok.TheVariants as tok
use Rattle.capl_lexer.specs.declared.token.Word.TheVariants as word
use Rattle.capl_lexer.specs.declared.token.Sign.{Sign}
use Rattle.capl_lexer.specs.declared.token.Sign.TheVariants as sign
use Rattle.capl_tree.specs.declared.expr.Expr.{Expr, Row_of-Expr, end_of-Expr, more_of-Expr}
use Rattle.capl_tree.specs.declared.expr.Expr.TheVariants as expr
use Rattle.capl_tree.specs.declared.expr.Field.{Field}
use Rattle.capl_tree.specs.declared.expr.Field.TheVariants.{Named}
use Rattle.capl_tree.specs.Forms as form
use Rattle.capl_tree.specs.Binding.{operator_level, assignment_level, choice_level, binary_level, prefix_level, postfix_level, operand_level, level, kind_word, prefix_sign, postfix_sign, operator_sign, assignment_sign}
use Rattle.capl_tree.specs.Grammar.{IsExpression, IsField, AreExpressions, IsCompound}
use Rattle.capl_tree.specs.Spelling as spelled
use Rattle.capl_tree.specs.Placed.{IsPlaced, IsFieldPlaced, ArePlaced}
use Rattle.capl_grammar.specs.Expression.{a_sign, assignment, expression, field, arguments, further_arguments}
use Rattle.capl_grammar.proofs.Same.{Same, ItemSame, nothing, token, only, both, ended, became, placed, asked, never, enough}

-- a binary operator binds more strongly than `?:`, and less than a prefix operator. The clause for one makes
-- each of the others be looked at for itself
operator_bounds : (of : BinOp) → (binary_level ≤ operator_level of) × (operator_level of < prefix_level)
operator_bounds op.OrElse = (omega arith, omega arith)
operator_bounds _ = (omega arith, omega arith)

-- every expression binds at least as strongly as an assignment
level_some : (e : Expr) → assignment_level ≤ level e
level_some (form.Index base index at) = omega arith
level_some (form.Member base inner at) = omega arith
level_some (form.Post up inner at) = omega arith
level_some (form.Cast of inner at) = omega arith
level_some (form.Unary operator inner at) = omega arith
level_some (form.Binary operator left right at) = omega (arith, operator_bounds operator)
level_some (form.Cond test one other at) = omega arith
level_some (form.Assign operator left right at) = omega arith
level_some _ = omega arith

-- the sign of an operator that has one with `=`
compound : {total : ℕ} {found : Sign} {of : BinOp} → IsCompound of
    → Same total (λ behind. a_sign found ∷ behind) (λ rest. tok.Sign found ∷ rest)
    (λ rest. ForSome (Some of) IsCompound)
compound {found} {of} is =
    became (only (tok.Sign found))
    (λ choice rest. (λ h other is_other. let same : of ≡ other = cc in subst IsCompound same is, λ h. tt))

-- the sign of an assignment
sign_same : (total : ℕ) (operator : Option BinOp)
    → Same total (assignment operator) (λ rest. tok.Sign (assignment_sign operator) ∷ rest)
    (λ rest. ForSome operator IsCompound)
sign_same total None = became (only (tok.Sign sign.Assign)) (λ choice rest. (λ h of is. absurd cc, λ h. tt))
sign_same total (Some op.Or) = compound tt
sign_same total (Some op.Xor) = compound tt
sign_same total (Some op.And) = compound tt
sign_same total (Some op.Shl) = compound tt
sign_same total (Some op.Shr) = compound tt
sign_same total (Some op.Add) = compound tt
sign_same total (Some op.Sub) = compound tt
sign_same total (Some op.Mul) = compound tt
sign_same total (Some op.Div) = compound tt
sign_same total (Some op.Rem) = compound tt
sign_same total (Some other) = never (λ choice rest h. h other refl)

-- what is to be shown of an expression
abbrev ExpressionSame : ℕ → ℕ → Expr → Type 0
ExpressionSame total least e =
    Same total (expression least e) (spelled.expression e)
    (λ rest. (least ≤ level e) × IsExpression e × IsPlaced total e rest)

-- an operand binds most strongly
operand : {least : ℕ} → least ≤ postfix_level → least ≤ operand_level
operand low = omega (arith, low)

module _ (total : ℕ) where
  -- an expression in any place, by what is shown of it at each level
  any : (e : Expr) → ((least : ℕ) → least ≤ postfix_level → ExpressionSame total least e)
      → ItemSame total (expression assignment_level) spelled.expression IsExpression (IsPlaced total) e
  any e same = became (same assignment_level (omega arith)) (assumption (level_some e))

  mutual
    -- an expression of at least this level
    pub expression_same : (e : Expr) (least : ℕ) → least ≤ postfix_level → ExpressionSame total least e
    expression_same (expr.Num value ext at) least low =
        became (placed at (only (tok.Num ext value))) (assumption (operand low))
    expression_same (expr.Char value at) least low =
        became (placed at (only (tok.Char value))) (assumption (operand low))
    expression_same (expr.Str text at) least low =
        became (placed at (only (tok.Str text))) (assumption (operand low))
    expression_same (expr.This at) least low =
        became (placed at (only (tok.Word word.This))) (assumption (operand low))
    expression_same (expr.Name name at) least low =
        became (placed at (only (tok.Name name))) (assumption (operand low))
    expression_same (form.Paren inner at) least low =
        became
        (placed at
        (token (tok.Sign sign.OpenParen)
        (ended (any inner (expression_same inner)) (tok.Sign sign.CloseParen))))
        (assumption (operand low))
    expression_same (expr.Call' name shape args at) least low =
        became
        (placed at
        (token (tok.Name name)
        (token (tok.Sign sign.OpenParen) (ended (arguments_same args) (tok.Sign sign.CloseParen)))))
        (assumption (operand low))
    expression_same (form.Index base index at) least low =
        became
        (placed at
        (both (expression_same base postfix_level (omega arith))
        (token (tok.Sign sign.OpenBracket)
        (ended (any index (expression_same index)) (tok.Sign sign.CloseBracket)))))
        (assumption low)
    expression_same (form.Member base inner at) least low =
        became
        (placed at
        (both (expression_same base postfix_level (omega arith))
        (token (tok.Sign sign.Dot) (field_same inner))))
        (assumption low)
    expression_same (form.Post up inner at) least low =
        became
        (placed at
        (ended (expression_same inner postfix_level (omega arith)) (tok.Sign (postfix_sign up))))
        (assumption low)
    expression_same (form.Cast of inner at) least low =
        became
        (asked (enough least prefix_level)
        (placed at
        (token (tok.Sign sign.OpenParen)
        (token (tok.Word (kind_word of))
        (token (tok.Sign sign.CloseParen) (expression_same inner prefix_level (omega arith)))))))
        assumption
    expression_same (form.Unary operator inner at) least low =
        became
        (asked (enough least prefix_level)
        (placed at
        (token (tok.Sign (prefix_sign operator)) (expression_same inner prefix_level (omega arith)))))
        assumption
    expression_same (form.Binary operator left right at) least low =
        let bounds = operator_bounds operator in
        became
        (asked (enough least (operator_level operator))
        (placed at
        (both (expression_same left (operator_level operator) (omega (arith, bounds)))
        (token (tok.Sign (operator_sign operator))
        (expression_same right (suc (operator_level operator)) (omega (arith, bounds)))))))
        assumption
    expression_same (form.Cond test one other at) least low =
        became
        (asked (enough least choice_level)
        (placed at
        (both (ended (expression_same test binary_level (omega arith)) (tok.Sign sign.Question))
        (both (ended (any one (expression_same one)) (tok.Sign sign.Colon))
        (expression_same other choice_level (omega arith))))))
        assumption
    expression_same (form.Assign operator left right at) least low =
        became
        (asked (enough least assignment_level)
        (placed at
        (both (expression_same left choice_level (omega arith))
        (both (sign_same total operator) (any right (expression_same right))))))
        assumption

    -- a field
    pub field_same : (f : Field) → ItemSame total field spelled.field IsField (IsFieldPlaced total) f
    field_same (Named name at) = became (placed at (only (tok.Name name))) assumption
    field_same (form.Bytes of index at) =
        became
        (placed at
        (token (tok.Word (kind_word of))
        (token (tok.Sign sign.OpenParen)
        (ended (any index (expression_same index)) (tok.Sign sign.CloseParen)))))
        assumption

    -- expressions with commas between them
    arguments_same : {m : _} (row : Row_of-Expr m)
        → Same total (arguments row) (spelled.arguments row)
        (λ rest. AreExpressions row × ArePlaced total row rest)
    arguments_same end_of-Expr = became nothing assumption
    arguments_same (more_of-Expr first others) =
        became (both (any first (expression_same first)) (further_arguments_same others)) assumption

    -- expressions, each behind a comma
    further_arguments_same : {m : _} (row : Row_of-Expr m)
        → Same total (further_arguments row) (spelled.further_arguments row)
        (λ rest. AreExpressions row × ArePlaced total row rest)
    further_arguments_same end_of-Expr = became nothing assumption
    further_arguments_same (more_of-Expr first others) =
        became
        (token (tok.Sign sign.Comma)
        (both (any first (expression_same first)) (further_arguments_same others)))
        assumption

  -- an expression in any place
  pub any_same : (e : Expr)
      → ItemSame total (expression assignment_level) spelled.expression IsExpression (IsPlaced total) e
  any_same e = any e (expression_same e)
