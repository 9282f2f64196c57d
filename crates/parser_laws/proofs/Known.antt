-- What is known of the readers of expressions and of declarations.
use Rattle.std.proofs.Common.{◌≡◌, ℕ, ◌<◌, Bool, true, false, List, ◌∷◌, length, Some}
use Rattle.capl_lexer.specs.declared.token.Tok.{Tok}
use Rattle.capl_lexer.specs.declared.token.Tok.TheVariants as tok
use Rattle.capl_lexer.specs.declared.token.Sign.{Sign}
use Rattle.capl_lexer.specs.declared.token.Sign.TheVariants as sign
use Rattle.capl_tree.specs.declared.expr.Expr.{Expr}
use Rattle.capl_tree.specs.declared.declaration.Decl.{Decl}
use Rattle.capl_tree.specs.Binding.{assignment_level, choice_level}
use Rattle.capl_tree.specs.Grammar.{IsExpression, IsValue, IsDeclaration}
use Rattle.capl_tree.specs.Spelling.{expression, declaration}
use Rattle.capl_tree.specs.Placed.{IsPlaced, IsDeclarationPlaced}
use Rattle.parser_laws.specs.Statement.{Parts}

-- a sign that stands behind an expression in a statement
abbrev pub closes : Sign → Bool
closes sign.Semi = true
closes sign.CloseParen = true
closes sign.Colon = true
closes _ = false

-- what stands in its place is read before what may stand behind it
pub record AreComplete (parts : Parts) : Type 0 where
  pub value : (e : Expr) (end : Sign) (ts : List Tok) → closes end ≡ true → IsExpression e → IsPlaced parts.total e (tok.Sign end ∷ ts)
      → parts.value assignment_level (expression e (tok.Sign end ∷ ts)) ≡ Some (e, tok.Sign end ∷ ts)
  pub constant : (e : Expr) (end : Sign) (ts : List Tok) → closes end ≡ true → IsValue e → IsPlaced parts.total e (tok.Sign end ∷ ts)
      → parts.value choice_level (expression e (tok.Sign end ∷ ts)) ≡ Some (e, tok.Sign end ∷ ts)
  pub value_longer : (e : Expr) (ts : List Tok) → length ts < length (expression e ts)
  pub declared : (d : Decl) (ts : List Tok) → IsDeclaration d → IsDeclarationPlaced parts.total d ts
      → parts.declared (declaration d ts) ≡ Some (d, ts)
  pub declared_longer : (d : Decl) (ts : List Tok) → length ts < length (declaration d ts)
