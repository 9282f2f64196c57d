-- What is read from tokens, in the words of the grammar.
use Rattle.std.specs.Prelude.{◌≡◌, ◌≤◌, ◌<◌, ℕ, List, length, Some}
use Rattle.capl_lexer.specs.declared.token.Tok.{Tok}
use Rattle.capl_tree.specs.declared.expr.Expr.{Expr}
use Rattle.capl_tree.specs.Binding.{level, prefix_level, assignment_level}
use Rattle.capl_tree.specs.Grammar.{IsExpression}
use Rattle.capl_tree.specs.Spelling as spelled
use Rattle.capl_tree.specs.Placed.{IsPlaced}
use Rattle.expr_parser.specs.Operators.{binding}
use Rattle.expr_parser.specs.Expression as read

-- the tokens begin with an expression at its place, which binds at a level or more strongly, and no operator
-- behind it does
pub record Reads (total least : ℕ) (ts : List Tok) (e : Expr) (rest : List Tok) : Type 0 where
  pub spelled : ts ≡ spelled.expression e rest
  pub well : IsExpression e
  pub placed : IsPlaced total e rest
  pub low : least ≤ level e
  pub ends : binding rest < least

-- a well formed expression is read from its tokens, where no operator behind them goes on with it
abbrev pub ReadsEachSpelling : Type 0
ReadsEachSpelling =
    (total : ℕ) (e : Expr) (least depth : ℕ) (rest : List Tok) → IsExpression e → IsPlaced total e rest
    → least ≤ level e → binding rest < least → length (spelled.expression e rest) < depth
    → read.expression total depth least (spelled.expression e rest) ≡ Some (e, rest)

-- and nothing else is read
abbrev pub ReadsOnlySpellings : Type 0
ReadsOnlySpellings =
    (total depth least : ℕ) (ts : List Tok) (e : Expr) (rest : List Tok) → assignment_level ≤ least
    → least ≤ prefix_level → length ts ≤ total → read.expression total depth least ts ≡ Some (e, rest)
    → Reads total least ts e rest
