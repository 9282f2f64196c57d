-- A declaration that was read leaves less than it was read from.
use Rattle.std.proofs.Common.{ℕ, suc, ◌-◌, Bool, true, false, List, [], ◌∷◌, length, Option, Some, None, arith}
use Rattle.int_kinds.specs.declared.kinds.Kind.{Kind}
use Rattle.capl_lexer.specs.declared.token.Tok.{Tok}
use Rattle.capl_lexer.specs.declared.token.Tok.TheVariants as tok
use Rattle.capl_lexer.specs.declared.token.Word.TheVariants as word
use Rattle.capl_lexer.specs.declared.token.Sign.TheVariants as sign
use Rattle.capl_tree.specs.declared.expr.Expr.{Expr}
use Rattle.capl_tree.specs.declared.expr.Expr.TheVariants as expr
use Rattle.capl_tree.specs.declared.expr.Field.{Field}
use Rattle.capl_tree.specs.declared.expr.Field.TheVariants.{Named}
use Rattle.capl_tree.specs.declared.declaration.Init.TheVariants.{One, Many}
use Rattle.capl_tree.specs.declared.declaration.Item.TheVariants.{Plain, Set}
use Rattle.capl_tree.specs.Binding.{choice_level}
use Rattle.expr_parser.specs.Operators.{kind_at, kind_of}
use Rattle.expr_parser.specs.Reading.{and_then, begins, behind, after, items}
use Rattle.expr_parser.specs.Expression.{expression, field}
use Rattle.decl_parser.specs.Declaration as read
use Rattle.decl_parser.specs.Declaration.{value, item}
use Rattle.viable_prefixes.proofs.StepFollows.{Leaves, leaves_more, leaves_on, either_leaves, after_leaves, behind_below, made_leaves, closed_leaves}
use Rattle.viable_prefixes.proofs.ListFollows.{items_leave}
use Rattle.viable_prefixes.proofs.ExpressionLess.{expression_leaves, field_leaves}

-- the type of a declaration leaves less

number_leaves : (fixed : Bool) (of : Option Kind) (ts : List Tok) → Leaves (read.number_type fixed of ts) (suc (length ts))
unfolding read.number_type
number_leaves fixed None ts = tt
number_leaves fixed (Some of) ts = omega arith

message_leaves : (at : ℕ) (ts : List Tok) → Leaves (read.message at ts) (length ts)
unfolding read.message
message_leaves at [] = tt
message_leaves at (tok.Sign sign.Star ∷ ts) = omega arith
message_leaves at (tok.Num ext value ∷ ts) = omega arith
message_leaves at (tok.Name name ∷ ts) = omega arith
message_leaves at _ = tt

-- the type of a declaration leaves less
pub type_leaves : (total : ℕ) (ts : List Tok) → Leaves (read.declared_type total ts) (length ts)
unfolding read.declared_type
type_leaves total [] = tt
type_leaves total (tok.Word word.Const ∷ ts) =
    leaves_more (read.number_type true (kind_at ts) (behind ts)) (suc (length (behind ts))) (suc (length ts)) (omega (arith, behind_below ts))
    (number_leaves true (kind_at ts) (behind ts))
type_leaves total (tok.Word word.Message ∷ ts) =
    leaves_more (read.message (total - length ts) ts) (length ts) (suc (length ts)) (omega arith) (message_leaves (total - length ts) ts)
type_leaves total (tok.Word word.Timer ∷ ts) = omega arith
type_leaves total (tok.Word word.MsTimer ∷ ts) = omega arith
type_leaves total (tok.Word of ∷ ts) = number_leaves false (kind_of of) ts
type_leaves total _ = tt

module _ (total depth : ℕ) where
  value_leaves : (ts : List Tok) → Leaves (value total depth ts) (length ts)
  value_leaves ts = expression_leaves total depth choice_level ts

  set_leaves : (of : Field) (ts : List Tok) → Leaves (read.set total depth of ts) (length ts)
  unfolding read.set
  set_leaves of ts =
      leaves_on (after sign.Assign ts) (λ _ rest. and_then (value total depth rest) (λ e rest. Some (Set of e, rest))) (length ts) (length ts)
      (after_leaves sign.Assign ts) (λ _ rest below.
      made_leaves (value total depth rest) (λ e. Set of e) (length ts) (leaves_more (value total depth rest) (length rest) (length ts) (omega arith) (value_leaves rest)))

  set_name_leaves : (e : Expr) (ts : List Tok) → Leaves (read.set_name total depth e ts) (suc (length ts))
  unfolding read.set_name
  set_name_leaves (expr.Name name at) ts = leaves_more (read.set total depth (Named name at) ts) (length ts) (suc (length ts)) (omega arith) (set_leaves (Named name at) ts)
  set_name_leaves _ ts = omega arith

  plain_leaves : (e : Expr) (ts : List Tok) → Leaves (read.plain total depth e ts) (suc (length ts))
  unfolding read.plain
  plain_leaves e ts = either_leaves (begins sign.Assign ts) (read.set_name total depth e ts) (Some (Plain e, ts)) (suc (length ts)) (set_name_leaves e ts) (omega arith)

  item_at_leaves : (of : Option Kind) (ts : List Tok) → Leaves (read.item_at total depth of ts) (length ts)
  unfolding read.item_at
  item_at_leaves None ts =
      leaves_on (value total depth ts) (λ e rest. read.plain total depth e rest) (length ts) (length ts) (value_leaves ts) (λ e rest below.
      leaves_more (read.plain total depth e rest) (suc (length rest)) (length ts) (omega arith) (plain_leaves e rest))
  item_at_leaves (Some of) ts =
      leaves_on (field total (expression total depth) ts) (λ f rest. read.set total depth f rest) (length ts) (length ts)
      (field_leaves (expression total depth) (λ level ts. expression_leaves total depth level ts) total ts) (λ f rest below.
      leaves_more (read.set total depth f rest) (length rest) (length ts) (omega arith) (set_leaves f rest))

  -- an item leaves less
  pub item_leaves : (ts : List Tok) → Leaves (item total depth ts) (length ts)
  item_leaves ts = item_at_leaves (kind_at ts) ts

  -- an initialiser leaves less
  initialiser_leaves : (ts : List Tok) → Leaves (read.initialiser total depth ts) (length ts)
  unfolding read.initialiser
  initialiser_leaves ts =
      either_leaves (begins sign.OpenBrace ts)
      (and_then (items (item total depth) (behind ts)) (λ all rest. and_then (after sign.CloseBrace rest) (λ _ rest. Some (Many all (total - length ts), rest))))
      (and_then (value total depth ts) (λ e rest. Some (One e, rest))) (length ts)
      (closed_leaves (items (item total depth) (behind ts)) sign.CloseBrace (λ all. Many all (total - length ts)) (length ts)
      (leaves_more (items (item total depth) (behind ts)) (length (behind ts)) (length ts) (behind_below ts) (items_leave (item total depth) item_leaves (behind ts))))
      (made_leaves (value total depth ts) (λ e. One e) (length ts) (value_leaves ts))

  -- the size of a variable may be missing
  pub size_leaves : (ts : List Tok) → Leaves (read.size_part total depth ts) (suc (length ts))
  unfolding read.size_part
  size_leaves ts =
      either_leaves (begins sign.OpenBracket ts)
      (and_then (value total depth (behind ts)) (λ e rest. and_then (after sign.CloseBracket rest) (λ _ rest. Some (Some e, rest)))) (Some (None, ts)) (suc (length ts))
      (closed_leaves (value total depth (behind ts)) sign.CloseBracket (λ e. Some e) (suc (length ts))
      (leaves_more (value total depth (behind ts)) (length (behind ts)) (suc (length ts)) (omega (arith, behind_below ts)) (value_leaves (behind ts))))
      (omega arith)

  -- and what it is given at first
  first_leaves : (ts : List Tok) → Leaves (read.first_part total depth ts) (suc (length ts))
  unfolding read.first_part
  first_leaves ts =
      either_leaves (begins sign.Assign ts) (and_then (read.initialiser total depth (behind ts)) (λ init rest. Some (Some init, rest))) (Some (None, ts)) (suc (length ts))
      (made_leaves (read.initialiser total depth (behind ts)) (λ init. Some init) (suc (length ts))
      (leaves_more (read.initialiser total depth (behind ts)) (length (behind ts)) (suc (length ts)) (omega (arith, behind_below ts)) (initialiser_leaves (behind ts))))
      (omega arith)

  named_leaves : (name : List ℕ) (at : ℕ) (ts : List Tok) → Leaves (read.named total depth name at ts) (suc (length ts))
  unfolding read.named
  named_leaves name at ts =
      leaves_on (read.size_part total depth ts) (λ size rest. and_then (read.first_part total depth rest) (λ init rest. Some (read.declared name at size init, rest)))
      (suc (length ts)) (suc (length ts)) (size_leaves ts) (λ size rest below.
      made_leaves (read.first_part total depth rest) (λ init. read.declared name at size init) (suc (length ts))
      (leaves_more (read.first_part total depth rest) (suc (length rest)) (suc (length ts)) (omega arith) (first_leaves rest)))

  -- a declared variable leaves less
  pub declarator_leaves : (ts : List Tok) → Leaves (read.declarator total depth ts) (length ts)
  unfolding read.declarator
  declarator_leaves [] = tt
  declarator_leaves (tok.Name name ∷ ts) = named_leaves name (total - length (tok.Name name ∷ ts)) ts
  declarator_leaves _ = tt

  -- a declaration leaves less
  pub declaration_leaves : (ts : List Tok) → Leaves (read.declaration total depth ts) (length ts)
  unfolding read.declaration
  declaration_leaves ts =
      leaves_on (read.declared_type total ts)
      (λ what rest. and_then (items (read.declarator total depth) rest) (λ all rest. and_then (after sign.Semi rest) (λ _ rest. Some (read.made what all (total - length ts), rest))))
      (length ts) (length ts) (type_leaves total ts) (λ what rest below.
      closed_leaves (items (read.declarator total depth) rest) sign.Semi (λ all. read.made what all (total - length ts)) (length ts)
      (leaves_more (items (read.declarator total depth) rest) (length rest) (length ts) (omega arith) (items_leave (read.declarator total depth) declarator_leaves rest)))
