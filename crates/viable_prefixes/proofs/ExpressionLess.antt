-- An expression that was read leaves less than it was read from.
use Rattle.std.proofs.Common.{ℕ, zero, suc, ◌+◌, ◌-◌, nat_lt, List, [], ◌∷◌, length, Option, Some, None, arith}
use Rattle.int_kinds.specs.declared.kinds.Kind.{Kind}
use Rattle.int_kinds.specs.declared.operators.UnOp.{UnOp}
use Rattle.capl_lexer.specs.declared.token.Tok.{Tok}
use Rattle.capl_lexer.specs.declared.token.Tok.TheVariants as tok
use Rattle.capl_lexer.specs.declared.token.Word.TheVariants as word
use Rattle.capl_lexer.specs.declared.token.Sign.TheVariants as sign
use Rattle.capl_tree.specs.declared.expr.Expr.{Expr}
use Rattle.capl_tree.specs.declared.expr.Expr.TheVariants as expr
use Rattle.capl_tree.specs.declared.expr.Field.TheVariants.{Bytes}
use Rattle.capl_tree.specs.Binding.{assignment_level, choice_level, prefix_level, operator_level}
use Rattle.capl_tree.specs.Place.{expression_place}
use Rattle.expr_parser.specs.declared.operator.Operator.{Operator}
use Rattle.expr_parser.specs.declared.operator.Operator.TheVariants as behind
use Rattle.expr_parser.specs.Operators.{operator_at, binding, prefix_operator, kind_at}
use Rattle.expr_parser.specs.Reading.{Read, and_then, begins, after, items}
use Rattle.expr_parser.specs.Reading as reading
use Rattle.expr_parser.specs.Expression as read
use Rattle.expr_parser.specs.Expression.{Reader}
use Rattle.viable_prefixes.proofs.StepFollows.{Leaves, leaves_more, leaves_on, either_leaves, after_leaves, behind_below, made_leaves, closed_leaves}
use Rattle.viable_prefixes.proofs.ListFollows.{items_leave}

module _ (inner : Reader) (less : (level : ℕ) (ts : List Tok) → Leaves (inner level ts) (length ts)) where
  arguments_leave : (ts : List Tok) → Leaves (read.arguments inner ts) (suc (length ts))
  unfolding read.arguments
  arguments_leave ts =
      either_leaves (begins sign.CloseParen ts) (Some ([], reading.behind ts))
      (and_then (items (inner assignment_level) ts) (λ found rest. and_then (after sign.CloseParen rest) (λ _ rest. Some (found, rest)))) (suc (length ts))
      (omega (arith, behind_below ts))
      (closed_leaves (items (inner assignment_level) ts) sign.CloseParen (λ found. found) (suc (length ts))
      (leaves_more (items (inner assignment_level) ts) (length ts) (suc (length ts)) (omega arith) (items_leave (inner assignment_level) (less assignment_level) ts)))

  -- behind a name there may be nothing more
  named_leaves : (at : ℕ) (name : List ℕ) (ts : List Tok) → Leaves (read.named inner at name ts) (suc (length ts))
  unfolding read.named
  named_leaves at name ts =
      either_leaves (begins sign.OpenParen ts) (and_then (read.arguments inner (reading.behind ts)) (λ found rest. Some (expr.Call name found at, rest)))
      (Some (expr.Name name at, ts)) (suc (length ts))
      (made_leaves (read.arguments inner (reading.behind ts)) (λ found. expr.Call name found at) (suc (length ts))
      (leaves_more (read.arguments inner (reading.behind ts)) (suc (length (reading.behind ts))) (suc (length ts)) (omega (arith, behind_below ts))
      (arguments_leave (reading.behind ts))))
      (omega arith)

  enclosed_leaves : (at : ℕ) (of : Option Kind) (ts : List Tok) → Leaves (read.enclosed inner at of ts) (length ts)
  unfolding read.enclosed
  enclosed_leaves at None ts = closed_leaves (inner assignment_level ts) sign.CloseParen (λ e. expr.Paren e at) (length ts) (less assignment_level ts)
  enclosed_leaves at (Some of) ts =
      leaves_on (after sign.CloseParen (reading.behind ts)) (λ _ rest. and_then (inner prefix_level rest) (λ e rest. Some (expr.Cast of e at, rest)))
      (length (reading.behind ts)) (length ts) (after_leaves sign.CloseParen (reading.behind ts)) (λ _ rest below.
      leaves_more (and_then (inner prefix_level rest) (λ e rest. Some (expr.Cast of e at, rest))) (length rest) (length ts) (omega (arith, behind_below ts))
      (made_leaves (inner prefix_level rest) (λ e. expr.Cast of e at) (length rest) (less prefix_level rest)))

  unary_leaves : (at : ℕ) (of : Option UnOp) (ts : List Tok) → Leaves (read.unary inner at of ts) (length ts)
  unfolding read.unary
  unary_leaves at None ts = tt
  unary_leaves at (Some of) ts = made_leaves (inner prefix_level ts) (λ e. expr.Unary of e at) (length ts) (less prefix_level ts)

  pub operand_leaves : (at : ℕ) (ts : List Tok) → Leaves (read.operand inner at ts) (length ts)
  unfolding read.operand
  operand_leaves at [] = tt
  operand_leaves at (tok.Name name ∷ ts) = named_leaves at name ts
  operand_leaves at (tok.Num ext value ∷ ts) = omega arith
  operand_leaves at (tok.Char value ∷ ts) = omega arith
  operand_leaves at (tok.Str text ∷ ts) = omega arith
  operand_leaves at (tok.Word word.This ∷ ts) = omega arith
  operand_leaves at (tok.Sign sign.OpenParen ∷ ts) =
      leaves_more (read.enclosed inner at (kind_at ts) ts) (length ts) (suc (length ts)) (omega arith) (enclosed_leaves at (kind_at ts) ts)
  operand_leaves at (tok.Sign of ∷ ts) =
      leaves_more (read.unary inner at (prefix_operator of) ts) (length ts) (suc (length ts)) (omega arith) (unary_leaves at (prefix_operator of) ts)
  operand_leaves at _ = tt

  bytes_leave : (at : ℕ) (of : Kind) (ts : List Tok) → Leaves (read.bytes inner at of ts) (length ts)
  unfolding read.bytes
  bytes_leave at of ts =
      leaves_on (after sign.OpenParen ts) (λ _ rest. and_then (inner assignment_level rest) (λ index rest. and_then (after sign.CloseParen rest) (λ _ rest. Some (Bytes of index at, rest))))
      (length ts) (length ts) (after_leaves sign.OpenParen ts) (λ _ rest below.
      closed_leaves (inner assignment_level rest) sign.CloseParen (λ index. Bytes of index at) (length ts)
      (leaves_more (inner assignment_level rest) (length rest) (length ts) (omega arith) (less assignment_level rest)))

  named_field_leaves : (at : ℕ) (ts : List Tok) → Leaves (read.named_field at ts) (length ts)
  unfolding read.named_field
  named_field_leaves at (tok.Name name ∷ ts) = omega arith
  named_field_leaves at _ = tt

  field_at_leaves : (at : ℕ) (of : Option Kind) (ts : List Tok) → Leaves (read.field_at inner at of ts) (length ts)
  unfolding read.field_at
  field_at_leaves at None ts = named_field_leaves at ts
  field_at_leaves at (Some of) ts =
      leaves_more (read.bytes inner at of (reading.behind ts)) (length (reading.behind ts)) (length ts) (behind_below ts) (bytes_leave at of (reading.behind ts))

  pub field_leaves : (total : ℕ) (ts : List Tok) → Leaves (read.field total inner ts) (length ts)
  unfolding read.field
  field_leaves total ts = field_at_leaves (total - length ts) (kind_at ts) ts

  choice_leaves : (left : Expr) (ts : List Tok) → Leaves (read.choice inner left ts) (length ts)
  unfolding read.choice
  choice_leaves left ts =
      leaves_on (inner assignment_level ts) (λ one rest. and_then (after sign.Colon rest) (λ _ rest. and_then (inner choice_level rest) (λ other rest. Some (expr.Cond left one other (expression_place left), rest))))
      (length ts) (length ts) (less assignment_level ts) (λ one rest below.
      leaves_on (after sign.Colon rest) (λ _ rest. and_then (inner choice_level rest) (λ other rest. Some (expr.Cond left one other (expression_place left), rest)))
      (length rest) (length ts) (after_leaves sign.Colon rest) (λ _ last under.
      leaves_more (and_then (inner choice_level last) (λ other rest. Some (expr.Cond left one other (expression_place left), rest))) (length last) (length ts) (omega arith)
      (made_leaves (inner choice_level last) (λ other. expr.Cond left one other (expression_place left)) (length last) (less choice_level last))))

  -- what an operator makes of an operand may leave all that is behind the operator
  pub operated_leaves : (total : ℕ) (left : Expr) (of : Option Operator) (ts : List Tok) → Leaves (read.operated total inner left of ts) (suc (length ts))
  unfolding read.operated read.assign read.binary read.index read.member
  operated_leaves total left (Some (behind.Assign of)) ts =
      made_leaves (inner assignment_level ts) (λ right. expr.Assign of left right (expression_place left)) (suc (length ts))
      (leaves_more (inner assignment_level ts) (length ts) (suc (length ts)) (omega arith) (less assignment_level ts))
  operated_leaves total left (Some behind.Choice) ts = leaves_more (read.choice inner left ts) (length ts) (suc (length ts)) (omega arith) (choice_leaves left ts)
  operated_leaves total left (Some (behind.Binary of)) ts =
      made_leaves (inner (operator_level of + 1) ts) (λ right. expr.Binary of left right (expression_place left)) (suc (length ts))
      (leaves_more (inner (operator_level of + 1) ts) (length ts) (suc (length ts)) (omega arith) (less (operator_level of + 1) ts))
  operated_leaves total left (Some behind.Index) ts =
      closed_leaves (inner assignment_level ts) sign.CloseBracket (λ e. expr.Index left e (expression_place left)) (suc (length ts))
      (leaves_more (inner assignment_level ts) (length ts) (suc (length ts)) (omega arith) (less assignment_level ts))
  operated_leaves total left (Some behind.Member) ts =
      made_leaves (read.field total inner ts) (λ of. expr.Member left of (expression_place left)) (suc (length ts))
      (leaves_more (read.field total inner ts) (length ts) (suc (length ts)) (omega arith) (field_leaves total ts))
  operated_leaves total left (Some (behind.Post up)) ts = omega arith
  operated_leaves total left (Some behind.Call) ts = tt
  operated_leaves total left None ts = tt

  -- the same behind a token that may be an operator
  next_operated : (total : ℕ) (left : Expr) (ts : List Tok) → Leaves (read.operated total inner left (operator_at ts) (reading.behind ts)) (length ts)
  unfolding read.operated
  next_operated total left [] = tt
  next_operated total left (t ∷ ts) = operated_leaves total left (operator_at (t ∷ ts)) ts

  climb_leaves : (total least n : ℕ) (left : Expr) (ts : List Tok) → Leaves (read.climb total inner least n left ts) (suc (length ts))
  unfolding read.climb
  climb_leaves total least zero left ts = omega arith
  climb_leaves total least (suc n) left ts =
      either_leaves (nat_lt (binding ts) least) (Some (left, ts))
      (and_then (read.operated total inner left (operator_at ts) (reading.behind ts)) (λ e rest. read.climb total inner least n e rest)) (suc (length ts))
      (omega arith)
      (leaves_on (read.operated total inner left (operator_at ts) (reading.behind ts)) (λ e rest. read.climb total inner least n e rest) (length ts) (suc (length ts))
      (next_operated total left ts) (λ e rest below.
      leaves_more (read.climb total inner least n e rest) (suc (length rest)) (suc (length ts)) (omega arith) (climb_leaves total least n e rest)))

  -- an operand and operators behind it
  pub joined_leaves : (total least at : ℕ) (ts : List Tok)
      → Leaves (and_then (read.operand inner at ts) (λ e rest. read.climbs total inner least e rest)) (length ts)
  unfolding read.climbs
  joined_leaves total least at ts =
      leaves_on (read.operand inner at ts) (λ e rest. read.climbs total inner least e rest) (length ts) (length ts) (operand_leaves at ts) (λ e rest below.
      leaves_more (read.climbs total inner least e rest) (suc (length rest)) (length ts) (omega arith) (climb_leaves total least (length rest) e rest))

-- an expression leaves less
pub expression_leaves : (total depth level : ℕ) (ts : List Tok) → Leaves (read.expression total depth level ts) (length ts)
unfolding read.expression
expression_leaves total zero level ts = tt
expression_leaves total (suc depth) level ts =
    joined_leaves (read.expression total depth) (λ level ts. expression_leaves total depth level ts) total level (total - length ts) ts
