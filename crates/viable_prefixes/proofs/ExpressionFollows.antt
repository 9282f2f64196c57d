-- The goals of expressions go the way of their readers.
use Rattle.std.proofs.Common.{◌≡◌, ℕ, zero, suc, ◌+◌, ◌-◌, ◌≤◌, ◌<◌, nat_lt, if◌then◌else◌, List, [], ◌∷◌, length, Option, Some, None, is_some, refl, sym, ap, ◌∙◌, arith}
use borrow.Author.Tests.{lt-ltb}
use Rattle.int_kinds.specs.declared.kinds.Kind.{Kind}
use Rattle.int_kinds.specs.declared.operators.UnOp.{UnOp}
use Rattle.capl_lexer.specs.declared.token.Tok.{Tok}
use Rattle.capl_lexer.specs.declared.token.Tok.TheVariants as tok
use Rattle.capl_lexer.specs.declared.token.Word.{Word}
use Rattle.capl_lexer.specs.declared.token.Word.TheVariants as word
use Rattle.capl_lexer.specs.declared.token.Sign.TheVariants as sign
use Rattle.capl_tree.specs.declared.expr.Expr.{Expr}
use Rattle.capl_tree.specs.declared.expr.Expr.TheVariants as expr
use Rattle.capl_tree.specs.declared.expr.Field.TheVariants.{Bytes}
use Rattle.capl_tree.specs.Binding.{assignment_level, choice_level, prefix_level, operator_level}
use Rattle.capl_tree.specs.Place.{expression_place}
use Rattle.expr_parser.specs.declared.operator.Operator.{Operator}
use Rattle.expr_parser.specs.declared.operator.Operator.TheVariants as behind
use Rattle.expr_parser.specs.Operators.{binding_of, prefix_operator, kind_of, kind_at}
use Rattle.expr_parser.specs.Reading.{and_then, begins, after, items}
use Rattle.expr_parser.specs.Expression as read
use Rattle.expr_parser.specs.Expression.{Reader}
use Rattle.viable_prefixes.specs.declared.goal.Goal.TheVariants as goal
use Rattle.viable_prefixes.specs.Inside.Token.{is_sign, kind_in, operator_in}
use Rattle.viable_prefixes.specs.Inside.Stack.{Stack, when}
use Rattle.viable_prefixes.specs.Inside.Expression.{prefix_from, expression_from, operator_from, bytes}
use Rattle.viable_prefixes.specs.Inside.Goals.{moved, accepts, accepts_behind}
use Rattle.viable_prefixes.proofs.Follows.{goes, GoesAt, IsFollowed, sign_first, kind_first, operator_first}
use Rattle.viable_prefixes.proofs.StepFollows.{Leaves, leaves_some, some_leaves, goes_leaving, made_goes, closed_goes, sign_then, either_goes, optional_goes}
use Rattle.viable_prefixes.proofs.ListFollows.{Follows, items_followed, ends_by}
use Rattle.viable_prefixes.proofs.ExpressionLess.{operand_leaves, operated_leaves, expression_leaves}

-- the equation at a level above 0
above : (inner : Reader) (level : ℕ) (ts : List Tok) (stack : Stack) → 0 < level → GoesAt inner level ts stack
    → accepts (goal.Expression level ∷ stack) ts ≡ goes (inner level ts) stack
above inner zero ts stack some same = absurd (omega arith)
above inner (suc level) ts stack some same = same

-- and the other way round
at_level : (inner : Reader) (level : ℕ) (ts : List Tok) (stack : Stack) → (0 < level → accepts (goal.Expression level ∷ stack) ts ≡ goes (inner level ts) stack)
    → GoesAt inner level ts stack
at_level inner zero ts stack same = tt
at_level inner (suc level) ts stack same = same (omega arith)

module _ (inner : Reader) (most : ℕ) (known : IsFollowed inner most) where
  -- a reading leaves less
  inner_leaves : (level : ℕ) (ts : List Tok) → Leaves (inner level ts) (length ts)
  inner_leaves level ts = some_leaves (inner level ts) (length ts) (known.less level ts)

  argument_follows : Follows (goal.Expression assignment_level) (inner assignment_level) most
  argument_follows = record { same = λ ts stack fits. known.same assignment_level ts stack fits; less = λ ts. inner_leaves assignment_level ts }

  -- an argument and further ones up to a closing parenthesis
  list_followed : (ts : List Tok) (stack : Stack) → length ts ≤ most
      → accepts (goal.Expression assignment_level ∷ goal.FurtherArguments ∷ stack) ts
      ≡ goes (and_then (items (inner assignment_level) ts) (λ found rest. and_then (after sign.CloseParen rest) (λ _ rest. Some (found, rest)))) stack
  list_followed ts stack fits =
      items_followed (goal.Expression assignment_level) goal.FurtherArguments (inner assignment_level) most argument_follows stack (goal.Sign sign.CloseParen ∷ stack)
      (ends_by (goal.Expression assignment_level) goal.FurtherArguments sign.CloseParen stack refl (λ t stack. refl)) ts fits
      ∙ closed_goes (items (inner assignment_level) ts) sign.CloseParen (λ found. found) stack

  -- arguments behind an opening parenthesis
  arguments_followed : (ts : List Tok) (stack : Stack) → length ts ≤ most → accepts (goal.Arguments ∷ stack) ts ≡ goes (read.arguments inner ts) stack
  unfolding read.arguments
  arguments_followed [] stack fits = list_followed [] stack fits
  arguments_followed (t ∷ ts) stack fits =
      either_goes (is_sign sign.CloseParen t) (begins sign.CloseParen (t ∷ ts)) (sym (sign_first sign.CloseParen t ts))
      (Some stack) (expression_from assignment_level t (goal.FurtherArguments ∷ stack)) ts (Some ([], ts))
      (and_then (items (inner assignment_level) (t ∷ ts)) (λ found rest. and_then (after sign.CloseParen rest) (λ _ rest. Some (found, rest)))) stack
      refl (list_followed (t ∷ ts) stack fits)

  -- behind a name
  named_followed : (at : ℕ) (name : List ℕ) (ts : List Tok) (stack : Stack) → length ts ≤ most → accepts (goal.Call ∷ stack) ts ≡ goes (read.named inner at name ts) stack
  unfolding read.named
  named_followed at name [] stack fits = refl
  named_followed at name (t ∷ ts) stack fits =
      optional_goes (is_sign sign.OpenParen t) (begins sign.OpenParen (t ∷ ts)) (sym (sign_first sign.OpenParen t ts)) t ts (goal.Arguments ∷ stack) stack
      (and_then (read.arguments inner ts) (λ found rest. Some (expr.Call name found at, rest))) (expr.Name name at)
      (arguments_followed ts stack (omega arith) ∙ made_goes (read.arguments inner ts) (λ found. expr.Call name found at) stack)

  -- an expression before a closing parenthesis
  paren_followed : (at : ℕ) (ts : List Tok) (stack : Stack) → length ts ≤ most
      → accepts (goal.Expression assignment_level ∷ goal.Sign sign.CloseParen ∷ stack) ts ≡ goes (read.enclosed inner at None ts) stack
  unfolding read.enclosed
  paren_followed at ts stack fits =
      known.same assignment_level ts (goal.Sign sign.CloseParen ∷ stack) fits ∙ closed_goes (inner assignment_level ts) sign.CloseParen (λ e. expr.Paren e at) stack

  enclosed_by : (at : ℕ) (of : Option Kind) (t : Tok) (ts : List Tok) (stack : Stack) → length (t ∷ ts) ≤ most
      → accepts_behind (if is_some of then Some (goal.Sign sign.CloseParen ∷ goal.Expression prefix_level ∷ stack) else expression_from assignment_level t (goal.Sign sign.CloseParen ∷ stack)) ts
      ≡ goes (read.enclosed inner at of (t ∷ ts)) stack
  unfolding read.enclosed
  enclosed_by at None t ts stack fits = paren_followed at (t ∷ ts) stack fits
  enclosed_by at (Some of) t ts stack fits =
      sign_then sign.CloseParen ts (λ rest. and_then (inner prefix_level rest) (λ e rest. Some (expr.Cast of e at, rest))) (goal.Expression prefix_level ∷ stack) stack (λ rest below.
      known.same prefix_level rest stack (omega arith) ∙ made_goes (inner prefix_level rest) (λ e. expr.Cast of e at) stack)

  -- behind an opening parenthesis
  enclosed_followed : (at : ℕ) (ts : List Tok) (stack : Stack) → length ts ≤ most
      → accepts (goal.Enclosed ∷ stack) ts ≡ goes (read.enclosed inner at (kind_at ts) ts) stack
  enclosed_followed at [] stack fits = paren_followed at [] stack fits
  enclosed_followed at (t ∷ ts) stack fits =
      enclosed_by at (kind_in t) t ts stack fits ∙ ap (λ of. goes (read.enclosed inner at of (t ∷ ts)) stack) (sym (kind_first t ts))

  -- behind a prefix operator
  unary_followed : (at level : ℕ) (of : Option UnOp) (ts : List Tok) (stack : Stack) → length ts ≤ most
      → accepts_behind (prefix_from level of stack) ts ≡ goes (read.unary inner at of ts) (goal.Operators level ∷ stack)
  unfolding read.unary
  unary_followed at level None ts stack fits = refl
  unary_followed at level (Some of) ts stack fits =
      known.same prefix_level ts (goal.Operators level ∷ stack) fits ∙ made_goes (inner prefix_level ts) (λ e. expr.Unary of e at) (goal.Operators level ∷ stack)

  -- an operand, and then operators
  operand_followed : (at level : ℕ) (ts : List Tok) (stack : Stack) → length ts ≤ suc most
      → accepts (goal.Expression level ∷ stack) ts ≡ goes (read.operand inner at ts) (goal.Operators level ∷ stack)
  unfolding read.operand
  operand_followed at level [] stack fits = refl
  operand_followed at level (tok.Name name ∷ ts) stack fits = named_followed at name ts (goal.Operators level ∷ stack) (omega arith)
  operand_followed at level (tok.Num ext value ∷ ts) stack fits = refl
  operand_followed at level (tok.Char value ∷ ts) stack fits = refl
  operand_followed at level (tok.Str text ∷ ts) stack fits = refl
  operand_followed at level (tok.Word word.This ∷ ts) stack fits = refl
  operand_followed at level (tok.Sign sign.OpenParen ∷ ts) stack fits = enclosed_followed at ts (goal.Operators level ∷ stack) (omega arith)
  operand_followed at level (tok.Sign of ∷ ts) stack fits = unary_followed at level (prefix_operator of) ts stack (omega arith)
  operand_followed at level _ stack fits = refl

  -- bytes of the payload, behind the word of a kind
  bytes_followed : (at : ℕ) (of : Kind) (ts : List Tok) (stack : Stack) → length ts ≤ most → accepts (bytes stack) ts ≡ goes (read.bytes inner at of ts) stack
  unfolding read.bytes
  bytes_followed at of ts stack fits =
      sign_then sign.OpenParen ts (λ rest. and_then (inner assignment_level rest) (λ index rest. and_then (after sign.CloseParen rest) (λ _ rest. Some (Bytes of index at, rest))))
      (goal.Expression assignment_level ∷ goal.Sign sign.CloseParen ∷ stack) stack (λ rest below.
      known.same assignment_level rest (goal.Sign sign.CloseParen ∷ stack) (omega arith)
      ∙ closed_goes (inner assignment_level rest) sign.CloseParen (λ index. Bytes of index at) stack)

  kind_followed : (at : ℕ) (of : Option Kind) (w : Word) (ts : List Tok) (stack : Stack) → length ts ≤ most
      → accepts_behind (when (is_some of) (bytes stack)) ts ≡ goes (read.field_at inner at of (tok.Word w ∷ ts)) stack
  unfolding read.field_at read.named_field
  kind_followed at None w ts stack fits = refl
  kind_followed at (Some of) w ts stack fits = bytes_followed at of ts stack fits

  -- a field
  pub field_followed : (total : ℕ) (ts : List Tok) (stack : Stack) → length ts ≤ most → accepts (goal.Field ∷ stack) ts ≡ goes (read.field total inner ts) stack
  unfolding read.field read.field_at read.named_field
  field_followed total [] stack fits = refl
  field_followed total (tok.Name name ∷ ts) stack fits = refl
  field_followed total (tok.Word w ∷ ts) stack fits = kind_followed (total - length (tok.Word w ∷ ts)) (kind_of w) w ts stack (omega arith)
  field_followed total (_ ∷ ts) stack fits = refl

  -- behind the test of a `?:`
  choice_followed : (level : ℕ) (left : Expr) (ts : List Tok) (stack : Stack) → length ts ≤ most
      → accepts (goal.Expression assignment_level ∷ goal.Sign sign.Colon ∷ goal.Expression choice_level ∷ goal.Operators level ∷ stack) ts
      ≡ goes (read.choice inner left ts) (goal.Operators level ∷ stack)
  unfolding read.choice
  choice_followed level left ts stack fits =
      let end : Stack = goal.Operators level ∷ stack in
      known.same assignment_level ts (goal.Sign sign.Colon ∷ goal.Expression choice_level ∷ end) fits
      ∙ goes_leaving (inner assignment_level ts) (λ one rest. and_then (after sign.Colon rest) (λ _ rest. and_then (inner choice_level rest) (λ other rest. Some (expr.Cond left one other (expression_place left), rest))))
      (goal.Sign sign.Colon ∷ goal.Expression choice_level ∷ end) end (length ts) (inner_leaves assignment_level ts) (λ one rest below.
      sign_then sign.Colon rest (λ rest. and_then (inner choice_level rest) (λ other rest. Some (expr.Cond left one other (expression_place left), rest)))
      (goal.Expression choice_level ∷ end) end (λ last under.
      known.same choice_level last end (omega arith) ∙ made_goes (inner choice_level last) (λ other. expr.Cond left one other (expression_place left)) end))

  -- behind an operator
  operated_followed : (total level : ℕ) (left : Expr) (of : Option Operator) (ts : List Tok) (stack : Stack) → length ts ≤ most
      → accepts_behind (operator_from level of stack) ts ≡ goes (read.operated total inner left of ts) (goal.Operators level ∷ stack)
  unfolding read.operated read.assign read.binary read.index read.member
  operated_followed total level left (Some (behind.Assign of)) ts stack fits =
      known.same assignment_level ts (goal.Operators level ∷ stack) fits
      ∙ made_goes (inner assignment_level ts) (λ right. expr.Assign of left right (expression_place left)) (goal.Operators level ∷ stack)
  operated_followed total level left (Some behind.Choice) ts stack fits = choice_followed level left ts stack fits
  operated_followed total level left (Some (behind.Binary of)) ts stack fits =
      above inner (operator_level of + 1) ts (goal.Operators level ∷ stack) (omega arith) (known.same (operator_level of + 1) ts (goal.Operators level ∷ stack) fits)
      ∙ made_goes (inner (operator_level of + 1) ts) (λ right. expr.Binary of left right (expression_place left)) (goal.Operators level ∷ stack)
  operated_followed total level left (Some behind.Index) ts stack fits =
      known.same assignment_level ts (goal.Sign sign.CloseBracket ∷ goal.Operators level ∷ stack) fits
      ∙ closed_goes (inner assignment_level ts) sign.CloseBracket (λ e. expr.Index left e (expression_place left)) (goal.Operators level ∷ stack)
  operated_followed total level left (Some behind.Member) ts stack fits =
      field_followed total ts (goal.Operators level ∷ stack) fits
      ∙ made_goes (read.field total inner ts) (λ of. expr.Member left of (expression_place left)) (goal.Operators level ∷ stack)
  operated_followed total level left (Some (behind.Post up)) ts stack fits = refl
  operated_followed total level left (Some behind.Call) ts stack fits = refl
  operated_followed total level left None ts stack fits = refl

  climb_by : (total level n : ℕ) (left : Expr) (of : Option Operator) (t : Tok) (ts : List Tok) (stack : Stack) → length ts ≤ most
      → ((e : Expr) (rest : List Tok) → length rest ≤ length ts → accepts (goal.Operators level ∷ stack) rest ≡ goes (read.climb total inner level n e rest) stack)
      → accepts_behind (if nat_lt (binding_of of) level then moved t stack else operator_from level of stack) ts
      ≡ goes (if nat_lt (binding_of of) level then Some (left, t ∷ ts) else and_then (read.operated total inner left of ts) (λ e rest. read.climb total inner level n e rest)) stack
  climb_by total level n left of t ts stack fits again =
      either_goes (nat_lt (binding_of of) level) (nat_lt (binding_of of) level) refl (moved t stack) (operator_from level of stack) ts (Some (left, t ∷ ts))
      (and_then (read.operated total inner left of ts) (λ e rest. read.climb total inner level n e rest)) stack refl
      (operated_followed total level left of ts stack fits
      ∙ goes_leaving (read.operated total inner left of ts) (λ e rest. read.climb total inner level n e rest) (goal.Operators level ∷ stack) stack (suc (length ts))
      (operated_leaves inner inner_leaves total left of ts) (λ e rest below. again e rest (omega arith)))

  -- operators behind an operand; the number bounds them
  climb_followed : (total level n : ℕ) → 0 < level → (left : Expr) (ts : List Tok) (stack : Stack) → length ts ≤ n → length ts ≤ most
      → accepts (goal.Operators level ∷ stack) ts ≡ goes (read.climb total inner level n left ts) stack
  unfolding read.climb
  climb_followed total level zero some left [] stack short fits = refl
  climb_followed total level zero some left (t ∷ ts) stack short fits = absurd (omega arith)
  climb_followed total level (suc n) some left [] stack short fits = rw (lt-ltb 0 level some) refl
  climb_followed total level (suc n) some left (t ∷ ts) stack short fits =
      climb_by total level n left (operator_in t) t ts stack (omega arith) (λ e rest below. climb_followed total level n some e rest stack (omega arith) (omega arith))
      ∙ ap (λ of. goes (if nat_lt (binding_of of) level then Some (left, t ∷ ts) else and_then (read.operated total inner left of ts) (λ e rest. read.climb total inner level n e rest)) stack)
      (sym (operator_first t ts))

  -- as many operators as there are tokens
  climbs_followed : (total level : ℕ) → 0 < level → (left : Expr) (ts : List Tok) (stack : Stack) → length ts ≤ most
      → accepts (goal.Operators level ∷ stack) ts ≡ goes (read.climbs total inner level left ts) stack
  unfolding read.climbs
  climbs_followed total level some left ts stack fits = climb_followed total level (length ts) some left ts stack (omega arith) fits

  -- an operand, and the operators behind it
  joined_followed : (total at level : ℕ) → 0 < level → (ts : List Tok) (stack : Stack) → length ts ≤ suc most
      → accepts (goal.Expression level ∷ stack) ts ≡ goes (and_then (read.operand inner at ts) (λ e rest. read.climbs total inner level e rest)) stack
  joined_followed total at level some ts stack fits =
      operand_followed at level ts stack fits
      ∙ goes_leaving (read.operand inner at ts) (λ e rest. read.climbs total inner level e rest) (goal.Operators level ∷ stack) stack (length ts)
      (operand_leaves inner inner_leaves at ts) (λ e rest below. climbs_followed total level some e rest stack (omega arith))

nothing_follows : (total level : ℕ) (ts : List Tok) (stack : Stack) → length ts ≤ zero → accepts (goal.Expression level ∷ stack) ts ≡ goes (read.expression total zero level ts) stack
unfolding read.expression
nothing_follows total level [] stack fits = refl
nothing_follows total level (t ∷ ts) stack fits = absurd (omega arith)

-- expressions that nest no deeper than the tokens are many go the way of their goal
pub expression_followed : (total depth : ℕ) → IsFollowed (read.expression total depth) depth
unfolding read.expression
expression_followed total zero = record {
  same = λ level ts stack fits. at_level (read.expression total zero) level ts stack (λ some. nothing_follows total level ts stack fits);
  less = λ level ts e rest is. leaves_some (read.expression total zero level ts) (length ts) e rest (expression_leaves total zero level ts) is;
}
expression_followed total (suc depth) = record {
  same = λ level ts stack fits. at_level (read.expression total (suc depth)) level ts stack (λ some.
      joined_followed (read.expression total depth) depth (expression_followed total depth) total (total - length ts) level some ts stack fits);
  less = λ level ts e rest is. leaves_some (read.expression total (suc depth) level ts) (length ts) e rest (expression_leaves total (suc depth) level ts) is;
}
