-- The goals of an initialiser's items go the way of their reader.
--
-- Only a name that stands alone is the name of a field before `=`.
use Rattle.std.proofs.Common.{◌≡◌, ℕ, zero, suc, ◌+◌, ◌-◌, ◌≤◌, Bool, true, false, ◌&&◌, nat_lt, if◌then◌else◌, List, [], ◌∷◌, length, Option, Some, None, is_some, refl, sym, ap, ◌∙◌, arith}
use Rattle.std.specs.Prelude.{⊤}
use Rattle.int_kinds.specs.declared.kinds.Kind.{Kind}
use Rattle.int_kinds.specs.declared.operators.UnOp.{UnOp}
use Rattle.capl_lexer.specs.declared.token.Tok.{Tok}
use Rattle.capl_lexer.specs.declared.token.Tok.TheVariants as tok
use Rattle.capl_lexer.specs.declared.token.Word.{Word}
use Rattle.capl_lexer.specs.declared.token.Word.TheVariants as word
use Rattle.capl_lexer.specs.declared.token.Sign.TheVariants as sign
use Rattle.capl_tree.specs.declared.expr.Expr.{Expr}
use Rattle.capl_tree.specs.declared.expr.Expr.TheVariants as expr
use Rattle.capl_tree.specs.declared.expr.Field.{Field}
use Rattle.capl_tree.specs.declared.expr.Field.TheVariants.{Named}
use Rattle.capl_tree.specs.declared.declaration.Item.TheVariants.{Plain, Set}
use Rattle.capl_tree.specs.Binding.{assignment_level, choice_level, prefix_level, operator_level}
use Rattle.capl_tree.specs.Place.{expression_place}
use Rattle.expr_parser.specs.declared.operator.Operator.{Operator}
use Rattle.expr_parser.specs.declared.operator.Operator.TheVariants as behind
use Rattle.expr_parser.specs.Operators.{operator_at, binding, prefix_operator, kind_of, kind_at}
use Rattle.expr_parser.specs.Reading.{Read, and_then, begins, after}
use Rattle.expr_parser.specs.Reading as reading
use Rattle.expr_parser.specs.Expression as read
use Rattle.expr_parser.specs.Expression.{Reader, expression, field}
use Rattle.decl_parser.specs.Declaration.{value, set, set_name, plain, item_at, item}
use Rattle.viable_prefixes.specs.declared.goal.Goal.TheVariants as goal
use Rattle.viable_prefixes.specs.Inside.Stack.{Stack, when}
use Rattle.viable_prefixes.specs.Inside.Expression.{expression_from, bytes}
use Rattle.viable_prefixes.specs.Inside.File.{is_name}
use Rattle.viable_prefixes.specs.Inside.Goals.{accepts, accepts_behind}
use Rattle.viable_prefixes.proofs.Follows.{goes, IsFollowed}
use Rattle.viable_prefixes.proofs.StepFollows.{goes_leaving, made_goes, sign_then}
use Rattle.viable_prefixes.proofs.ListFollows.{Follows}
use Rattle.viable_prefixes.proofs.ExpressionLess.{field_leaves, expression_leaves}
use Rattle.viable_prefixes.proofs.ExpressionFollows.{field_followed}
use Rattle.viable_prefixes.proofs.DeclarationLess.{item_leaves}

-- whether an expression is a name
abbrev is_bare : Expr → Bool
is_bare (expr.Name name at) = true
is_bare _ = false

-- what was read, if anything, is no name
abbrev IsMore : Read Expr → Type 0
IsMore None = ⊤
IsMore (Some found) = is_bare found.0 ≡ false

-- what was read, if anything, is no name before `=`
abbrev IsUnset : Read Expr → Type 0
IsUnset None = ⊤
IsUnset (Some found) = (is_bare found.0 && begins sign.Assign found.1) ≡ false

-- what is always more than a name
more_on : {A : Type 0} (read : Read A) (next : A → List Tok → Read Expr) → ((a : A) (rest : List Tok) → IsMore (next a rest)) → IsMore (and_then read next)
more_on None next more = tt
more_on (Some found) next more = more found.0 found.1

unset_on : (read : Read Expr) (next : Expr → List Tok → Read Expr) → IsMore read
    → ((e : Expr) (rest : List Tok) → is_bare e ≡ false → IsUnset (next e rest)) → IsUnset (and_then read next)
unset_on None next more unset = tt
unset_on (Some found) next more unset = unset found.0 found.1 more

more_unset : (e : Expr) (ts : List Tok) → is_bare e ≡ false → (is_bare e && begins sign.Assign ts) ≡ false
more_unset e ts more = rw more refl

either_unset : (test : Bool) (one other : Read Expr) → IsUnset one → IsUnset other → IsUnset (if test then one else other)
either_unset true one other here there = here
either_unset false one other here there = there

module _ (inner : Reader) where
  -- what an operator makes is more than a name
  operated_more : (total : ℕ) (left : Expr) (of : Option Operator) (ts : List Tok) → IsMore (read.operated total inner left of ts)
  unfolding read.operated read.assign read.choice read.binary read.index read.member
  operated_more total left (Some (behind.Assign of)) ts =
      more_on (inner assignment_level ts) (λ right rest. Some (expr.Assign of left right (expression_place left), rest)) (λ right rest. refl)
  operated_more total left (Some behind.Choice) ts =
      more_on (inner assignment_level ts) (λ one rest. and_then (after sign.Colon rest) (λ _ rest. and_then (inner choice_level rest) (λ other rest. Some (expr.Cond left one other (expression_place left), rest)))) (λ one rest.
      more_on (after sign.Colon rest) (λ _ rest. and_then (inner choice_level rest) (λ other rest. Some (expr.Cond left one other (expression_place left), rest))) (λ _ rest.
      more_on (inner choice_level rest) (λ other rest. Some (expr.Cond left one other (expression_place left), rest)) (λ other rest. refl)))
  operated_more total left (Some (behind.Binary of)) ts =
      more_on (inner (operator_level of + 1) ts) (λ right rest. Some (expr.Binary of left right (expression_place left), rest)) (λ right rest. refl)
  operated_more total left (Some behind.Index) ts =
      more_on (inner assignment_level ts) (λ e rest. and_then (after sign.CloseBracket rest) (λ _ rest. Some (expr.Index left e (expression_place left), rest))) (λ e rest.
      more_on (after sign.CloseBracket rest) (λ _ rest. Some (expr.Index left e (expression_place left), rest)) (λ _ rest. refl))
  operated_more total left (Some behind.Member) ts =
      more_on (read.field total inner ts) (λ of rest. Some (expr.Member left of (expression_place left), rest)) (λ of rest. refl)
  operated_more total left (Some (behind.Post up)) ts = refl
  operated_more total left (Some behind.Call) ts = tt
  operated_more total left None ts = tt

  climb_unset : (total least n : ℕ) (left : Expr) (ts : List Tok) → (is_bare left && begins sign.Assign ts) ≡ false → IsUnset (read.climb total inner least n left ts)
  unfolding read.climb
  climb_unset total least zero left ts unset = unset
  climb_unset total least (suc n) left ts unset =
      either_unset (nat_lt (binding ts) least) (Some (left, ts))
      (and_then (read.operated total inner left (operator_at ts) (reading.behind ts)) (λ e rest. read.climb total inner least n e rest)) unset
      (unset_on (read.operated total inner left (operator_at ts) (reading.behind ts)) (λ e rest. read.climb total inner least n e rest)
      (operated_more total left (operator_at ts) (reading.behind ts)) (λ e rest more. climb_unset total least n e rest (more_unset e rest more)))

  climbs_unset : (total least : ℕ) (left : Expr) (ts : List Tok) → (is_bare left && begins sign.Assign ts) ≡ false → IsUnset (read.climbs total inner least left ts)
  unfolding read.climbs
  climbs_unset total least left ts unset = climb_unset total least (length ts) left ts unset

  enclosed_more : (at : ℕ) (of : Option Kind) (ts : List Tok) → IsMore (read.enclosed inner at of ts)
  unfolding read.enclosed
  enclosed_more at None ts =
      more_on (inner assignment_level ts) (λ e rest. and_then (after sign.CloseParen rest) (λ _ rest. Some (expr.Paren e at, rest))) (λ e rest.
      more_on (after sign.CloseParen rest) (λ _ rest. Some (expr.Paren e at, rest)) (λ _ rest. refl))
  enclosed_more at (Some of) ts =
      more_on (after sign.CloseParen (reading.behind ts)) (λ _ rest. and_then (inner prefix_level rest) (λ e rest. Some (expr.Cast of e at, rest))) (λ _ rest.
      more_on (inner prefix_level rest) (λ e rest. Some (expr.Cast of e at, rest)) (λ e rest. refl))

  unary_more : (at : ℕ) (of : Option UnOp) (ts : List Tok) → IsMore (read.unary inner at of ts)
  unfolding read.unary
  unary_more at None ts = tt
  unary_more at (Some of) ts = more_on (inner prefix_level ts) (λ e rest. Some (expr.Unary of e at, rest)) (λ e rest. refl)

  -- an operand that does not begin with a name is more than a name
  operand_more : (at : ℕ) (t : Tok) (ts : List Tok) → is_name t ≡ false → IsMore (read.operand inner at (t ∷ ts))
  unfolding read.operand
  operand_more at (tok.Name name) ts other = absurd cc
  operand_more at (tok.Num ext value) ts other = refl
  operand_more at (tok.Char value) ts other = refl
  operand_more at (tok.Str text) ts other = refl
  operand_more at (tok.Word word.This) ts other = refl
  operand_more at (tok.Sign sign.OpenParen) ts other = enclosed_more at (kind_at ts) ts
  operand_more at (tok.Sign of) ts other = unary_more at (prefix_operator of) ts
  operand_more at _ ts other = tt

  named_unset : (total least at : ℕ) (name : List ℕ) (ts : List Tok) → begins sign.Assign ts ≡ false → (paren : Bool)
      → IsUnset (and_then (if paren then and_then (read.arguments inner (reading.behind ts)) (λ found rest. Some (expr.Call name found at, rest)) else Some (expr.Name name at, ts))
      (λ e rest. read.climbs total inner least e rest))
  named_unset total least at name ts bare true =
      unset_on (and_then (read.arguments inner (reading.behind ts)) (λ found rest. Some (expr.Call name found at, rest))) (λ e rest. read.climbs total inner least e rest)
      (more_on (read.arguments inner (reading.behind ts)) (λ found rest. Some (expr.Call name found at, rest)) (λ found rest. refl))
      (λ e rest more. climbs_unset total least e rest (more_unset e rest more))
  named_unset total least at name ts bare false = climbs_unset total least (expr.Name name at) ts bare

-- an expression that begins with a name before another token than `=`
name_unset : (total depth level : ℕ) (name : List ℕ) (ts : List Tok) → begins sign.Assign ts ≡ false → IsUnset (expression total depth level (tok.Name name ∷ ts))
unfolding read.expression read.operand read.named
name_unset total zero level name ts bare = tt
name_unset total (suc depth) level name ts bare =
    named_unset (expression total depth) total level (total - length (tok.Name name ∷ ts)) name ts bare (begins sign.OpenParen ts)

-- an expression that does not begin with a name
other_unset : (total depth level : ℕ) (t : Tok) (ts : List Tok) → is_name t ≡ false → IsUnset (expression total depth level (t ∷ ts))
unfolding read.expression
other_unset total zero level t ts other = tt
other_unset total (suc depth) level t ts other =
    unset_on (read.operand (expression total depth) (total - length (t ∷ ts)) (t ∷ ts)) (λ e rest. read.climbs total (expression total depth) level e rest)
    (operand_more (expression total depth) (total - length (t ∷ ts)) t ts other)
    (λ e rest more. climbs_unset (expression total depth) total level e rest (more_unset e rest more))

nothing_unset : (total depth level : ℕ) → IsUnset (expression total depth level [])
unfolding read.expression read.operand
nothing_unset total zero level = tt
nothing_unset total (suc depth) level = tt

module _ (total depth : ℕ) where
  assigned_goes : (name : List ℕ) (at : ℕ) (ts : List Tok) (stack : Stack) → (assign : Bool) → assign ≡ false
      → accepts stack ts ≡ goes (if assign then set_name total depth (expr.Name name at) ts else Some (Plain (expr.Name name at), ts)) stack
  assigned_goes name at ts stack true unset = absurd cc
  assigned_goes name at ts stack false unset = refl

  other_goes : (e : Expr) (ts : List Tok) (stack : Stack) → (assign : Bool)
      → accepts stack ts ≡ goes (if assign then Some (Plain e, ts) else Some (Plain e, ts)) stack
  other_goes e ts stack true = refl
  other_goes e ts stack false = refl

  plain_one : (e : Expr) (ts : List Tok) (stack : Stack) → (is_bare e && begins sign.Assign ts) ≡ false → accepts stack ts ≡ goes (plain total depth e ts) stack
  unfolding plain set_name
  plain_one (expr.Name name at) ts stack unset = assigned_goes name at ts stack (begins sign.Assign ts) unset
  plain_one e ts stack unset = other_goes e ts stack (begins sign.Assign ts)

  -- a value that is no name before `=` is an item
  plain_goes : (read : Read Expr) (stack : Stack) → IsUnset read → goes read stack ≡ goes (and_then read (λ e rest. plain total depth e rest)) stack
  plain_goes None stack unset = refl
  plain_goes (Some found) stack unset = plain_one found.0 found.1 stack unset

module _ (total depth : ℕ) (known : IsFollowed (expression total (suc depth)) (suc depth)) where
  -- behind a field of an item
  set_followed : (of : Field) (ts : List Tok) (stack : Stack) → length ts ≤ suc depth
      → accepts (goal.Sign sign.Assign ∷ goal.Expression choice_level ∷ stack) ts ≡ goes (set total (suc depth) of ts) stack
  unfolding set
  set_followed of ts stack fits =
      sign_then sign.Assign ts (λ rest. and_then (value total (suc depth) rest) (λ e rest. Some (Set of e, rest))) (goal.Expression choice_level ∷ stack) stack (λ rest below.
      known.same choice_level rest stack (omega arith) ∙ made_goes (value total (suc depth) rest) (λ e. Set of e) stack)

  -- a value that is no name before `=`
  value_followed : (ts : List Tok) (stack : Stack) → length ts ≤ suc depth → IsUnset (value total (suc depth) ts)
      → accepts (goal.Expression choice_level ∷ stack) ts ≡ goes (item_at total (suc depth) None ts) stack
  unfolding item_at
  value_followed ts stack fits unset = known.same choice_level ts stack fits ∙ plain_goes total (suc depth) (value total (suc depth) ts) stack unset

  -- an item that begins with a name
  name_followed : (name : List ℕ) (ts : List Tok) (stack : Stack) → length (tok.Name name ∷ ts) ≤ suc depth
      → accepts (goal.Named ∷ stack) ts ≡ goes (item_at total (suc depth) None (tok.Name name ∷ ts)) stack
  unfolding item_at plain set_name set read.expression read.operand read.named read.climbs read.climb after
  name_followed name [] stack fits = refl
  name_followed name (tok.Sign sign.Assign ∷ ts) stack fits =
      known.same choice_level ts stack (omega arith) ∙ made_goes (value total (suc depth) ts) (λ e. Set (Named name (total - suc (suc (length ts)))) e) stack
  name_followed name (t ∷ ts) stack fits = value_followed (tok.Name name ∷ t ∷ ts) stack fits (name_unset total (suc depth) choice_level name (t ∷ ts) refl)

  kind_followed : (w : Word) (of : Option Kind) (ts : List Tok) (stack : Stack) → kind_of w ≡ of → length (tok.Word w ∷ ts) ≤ suc depth
      → accepts_behind (if is_some of then Some (bytes (goal.Sign sign.Assign ∷ goal.Expression choice_level ∷ stack)) else expression_from choice_level (tok.Word w) stack) ts
      ≡ goes (item_at total (suc depth) of (tok.Word w ∷ ts)) stack
  unfolding item_at
  kind_followed w None ts stack is fits = value_followed (tok.Word w ∷ ts) stack fits (other_unset total (suc depth) choice_level (tok.Word w) ts refl)
  kind_followed w (Some of) ts stack is fits =
      let inner : Reader = expression total (suc depth) in
      let front : Stack = goal.Sign sign.Assign ∷ goal.Expression choice_level ∷ stack in
      ap (λ found. accepts_behind (when (is_some found) (bytes front)) ts) (sym is)
      ∙ field_followed inner (suc depth) known total (tok.Word w ∷ ts) front fits
      ∙ goes_leaving (field total inner (tok.Word w ∷ ts)) (λ f rest. set total (suc depth) f rest) front stack (length (tok.Word w ∷ ts))
      (field_leaves inner (λ level ts. expression_leaves total (suc depth) level ts) total (tok.Word w ∷ ts)) (λ f rest below. set_followed f rest stack (omega arith))

  item_followed : (ts : List Tok) (stack : Stack) → length ts ≤ suc depth → accepts (goal.Item ∷ stack) ts ≡ goes (item total (suc depth) ts) stack
  item_followed [] stack fits = value_followed [] stack fits (nothing_unset total (suc depth) choice_level)
  item_followed (tok.Name name ∷ ts) stack fits = name_followed name ts stack fits
  item_followed (tok.Word w ∷ ts) stack fits = kind_followed w (kind_of w) ts stack refl fits
  item_followed (t ∷ ts) stack fits = value_followed (t ∷ ts) stack fits (other_unset total (suc depth) choice_level t ts refl)

  -- an item between the braces of an initialiser
  pub item_follows : Follows goal.Item (item total (suc depth)) (suc depth)
  item_follows = record { same = λ ts stack fits. item_followed ts stack fits; less = λ ts. item_leaves total (suc depth) ts }
