-- The goals of declarations go the way of their reader.
use Rattle.std.proofs.Common.{◌≡◌, ℕ, zero, suc, ◌+◌, ◌-◌, ◌≤◌, Bool, true, false, List, [], ◌∷◌, length, Option, Some, None, is_some, refl, sym, ap, ◌∙◌, arith}
use Rattle.int_kinds.specs.declared.kinds.Kind.{Kind}
use Rattle.capl_lexer.specs.declared.token.Tok.{Tok}
use Rattle.capl_lexer.specs.declared.token.Tok.TheVariants as tok
use Rattle.capl_lexer.specs.declared.token.Word.TheVariants as word
use Rattle.capl_lexer.specs.declared.token.Sign.TheVariants as sign
use Rattle.capl_tree.specs.declared.declaration.Init.TheVariants.{One, Many}
use Rattle.capl_tree.specs.Binding.{choice_level}
use Rattle.expr_parser.specs.Operators.{kind_at, kind_of}
use Rattle.expr_parser.specs.Reading.{and_then, begins, behind, after, items}
use Rattle.expr_parser.specs.Expression.{expression}
use Rattle.decl_parser.specs.Declaration as read
use Rattle.decl_parser.specs.Declaration.{value, item}
use Rattle.parser_laws.specs.Statement.{parts_of}
use Rattle.viable_prefixes.specs.declared.goal.Goal.TheVariants as goal
use Rattle.viable_prefixes.specs.Inside.Token.{is_sign, kind_in}
use Rattle.viable_prefixes.specs.Inside.Stack.{Stack, when}
use Rattle.viable_prefixes.specs.Inside.Expression.{expression_from, declarators, declaration_from}
use Rattle.viable_prefixes.specs.Inside.Goals.{accepts, accepts_behind}
use Rattle.viable_prefixes.proofs.Follows.{goes, IsFollowed, AreFollowed, sign_first, kind_first}
use Rattle.viable_prefixes.proofs.StepFollows.{leaves_some, goes_leaving, made_goes, closed_goes, either_goes, optional_goes}
use Rattle.viable_prefixes.proofs.ListFollows.{Follows, items_followed, ends_by}
use Rattle.viable_prefixes.proofs.ExpressionFollows.{expression_followed}
use Rattle.viable_prefixes.proofs.DeclarationLess.{type_leaves, size_leaves, declarator_leaves, declaration_leaves}
use Rattle.viable_prefixes.proofs.ItemFollows.{item_follows}

number_by : (fixed : Bool) (of : Option Kind) (ts : List Tok) (stack : Stack)
    → accepts_behind (when (is_some of) stack) ts ≡ goes (read.number_type fixed of ts) stack
unfolding read.number_type
number_by fixed None ts stack = refl
number_by fixed (Some of) ts stack = refl

-- the word of a kind
kind_followed : (fixed : Bool) (ts : List Tok) (stack : Stack) → accepts (goal.Kind ∷ stack) ts ≡ goes (read.number_type fixed (kind_at ts) (behind ts)) stack
unfolding read.number_type
kind_followed fixed [] stack = refl
kind_followed fixed (t ∷ ts) stack =
    number_by fixed (kind_in t) ts stack ∙ ap (λ of. goes (read.number_type fixed of ts) stack) (sym (kind_first t ts))

-- which message
message_followed : (at : ℕ) (ts : List Tok) (stack : Stack) → accepts (goal.Message ∷ stack) ts ≡ goes (read.message at ts) stack
unfolding read.message
message_followed at [] stack = refl
message_followed at (tok.Sign sign.Star ∷ ts) stack = refl
message_followed at (tok.Num ext value ∷ ts) stack = refl
message_followed at (tok.Name name ∷ ts) stack = refl
message_followed at (_ ∷ ts) stack = refl

-- the type of a declaration
type_followed : (total : ℕ) (t : Tok) (ts : List Tok) (stack : Stack)
    → accepts_behind (declaration_from t stack) ts ≡ goes (read.declared_type total (t ∷ ts)) (declarators stack)
unfolding read.declared_type
type_followed total (tok.Word word.Const) ts stack = kind_followed true ts (declarators stack)
type_followed total (tok.Word word.Message) ts stack = message_followed (total - length ts) ts (declarators stack)
type_followed total (tok.Word word.Timer) ts stack = refl
type_followed total (tok.Word word.MsTimer) ts stack = refl
type_followed total (tok.Word of) ts stack = number_by false (kind_of of) ts (declarators stack)
type_followed total _ ts stack = refl

module _ (total depth : ℕ) (known : IsFollowed (expression total (suc depth)) (suc depth)) where
  items_goes : (ts : List Tok) (stack : Stack) → length ts ≤ suc depth
      → accepts (goal.Item ∷ goal.FurtherItems ∷ stack) ts ≡ goes (items (item total (suc depth)) ts) (goal.Sign sign.CloseBrace ∷ stack)
  items_goes ts stack fits =
      items_followed goal.Item goal.FurtherItems (item total (suc depth)) (suc depth) (item_follows total depth known) stack (goal.Sign sign.CloseBrace ∷ stack)
      (ends_by goal.Item goal.FurtherItems sign.CloseBrace stack refl (λ t stack. refl)) ts fits

  one_followed : (ts : List Tok) (stack : Stack) → length ts ≤ suc depth
      → accepts (goal.Expression choice_level ∷ stack) ts ≡ goes (and_then (value total (suc depth) ts) (λ e rest. Some (One e, rest))) stack
  one_followed ts stack fits = known.same choice_level ts stack fits ∙ made_goes (value total (suc depth) ts) (λ e. One e) stack

  -- what a variable is given at first
  initialiser_followed : (ts : List Tok) (stack : Stack) → length ts ≤ suc depth → accepts (goal.Initialiser ∷ stack) ts ≡ goes (read.initialiser total (suc depth) ts) stack
  unfolding read.initialiser
  initialiser_followed [] stack fits = one_followed [] stack fits
  initialiser_followed (t ∷ ts) stack fits =
      either_goes (is_sign sign.OpenBrace t) (begins sign.OpenBrace (t ∷ ts)) (sym (sign_first sign.OpenBrace t ts))
      (Some (goal.Item ∷ goal.FurtherItems ∷ stack)) (expression_from choice_level t stack) ts
      (and_then (items (item total (suc depth)) ts) (λ all rest. and_then (after sign.CloseBrace rest) (λ _ rest. Some (Many all (total - length (t ∷ ts)), rest))))
      (and_then (value total (suc depth) (t ∷ ts)) (λ e rest. Some (One e, rest))) stack
      (items_goes ts stack (omega arith) ∙ closed_goes (items (item total (suc depth)) ts) sign.CloseBrace (λ all. Many all (total - length (t ∷ ts))) stack)
      (one_followed (t ∷ ts) stack fits)

  -- the number of elements, or nothing
  size_followed : (ts : List Tok) (stack : Stack) → length ts ≤ suc depth → accepts (goal.Size ∷ stack) ts ≡ goes (read.size_part total (suc depth) ts) stack
  unfolding read.size_part
  size_followed [] stack fits = refl
  size_followed (t ∷ ts) stack fits =
      optional_goes (is_sign sign.OpenBracket t) (begins sign.OpenBracket (t ∷ ts)) (sym (sign_first sign.OpenBracket t ts)) t ts
      (goal.Expression choice_level ∷ goal.Sign sign.CloseBracket ∷ stack) stack
      (and_then (value total (suc depth) ts) (λ e rest. and_then (after sign.CloseBracket rest) (λ _ rest. Some (Some e, rest)))) None
      (known.same choice_level ts (goal.Sign sign.CloseBracket ∷ stack) (omega arith) ∙ closed_goes (value total (suc depth) ts) sign.CloseBracket (λ e. Some e) stack)

  -- `=` and what a variable is given at first, or nothing
  first_followed : (ts : List Tok) (stack : Stack) → length ts ≤ suc depth → accepts (goal.First ∷ stack) ts ≡ goes (read.first_part total (suc depth) ts) stack
  unfolding read.first_part
  first_followed [] stack fits = refl
  first_followed (t ∷ ts) stack fits =
      optional_goes (is_sign sign.Assign t) (begins sign.Assign (t ∷ ts)) (sym (sign_first sign.Assign t ts)) t ts (goal.Initialiser ∷ stack) stack
      (and_then (read.initialiser total (suc depth) ts) (λ init rest. Some (Some init, rest))) None
      (initialiser_followed ts stack (omega arith) ∙ made_goes (read.initialiser total (suc depth) ts) (λ init. Some init) stack)

  -- behind the name of a declared variable
  named_followed : (name : List ℕ) (at : ℕ) (ts : List Tok) (stack : Stack) → length ts ≤ suc depth
      → accepts (goal.Size ∷ goal.First ∷ stack) ts ≡ goes (read.named total (suc depth) name at ts) stack
  unfolding read.named
  named_followed name at ts stack fits =
      size_followed ts (goal.First ∷ stack) fits
      ∙ goes_leaving (read.size_part total (suc depth) ts) (λ size rest. and_then (read.first_part total (suc depth) rest) (λ init rest. Some (read.declared name at size init, rest)))
      (goal.First ∷ stack) stack (suc (length ts)) (size_leaves total (suc depth) ts) (λ size rest below.
      first_followed rest stack (omega arith) ∙ made_goes (read.first_part total (suc depth) rest) (λ init. read.declared name at size init) stack)

  declarator_followed : (ts : List Tok) (stack : Stack) → length ts ≤ suc depth → accepts (goal.Declarator ∷ stack) ts ≡ goes (read.declarator total (suc depth) ts) stack
  unfolding read.declarator
  declarator_followed [] stack fits = refl
  declarator_followed (tok.Name name ∷ ts) stack fits = named_followed name (total - length (tok.Name name ∷ ts)) ts stack (omega arith)
  declarator_followed (_ ∷ ts) stack fits = refl

  -- a declared variable
  declarator_follows : Follows goal.Declarator (read.declarator total (suc depth)) (suc depth)
  declarator_follows = record { same = λ ts stack fits. declarator_followed ts stack fits; less = λ ts. declarator_leaves total (suc depth) ts }

  declarators_followed : (ts : List Tok) (stack : Stack) → length ts ≤ suc depth
      → accepts (declarators stack) ts ≡ goes (items (read.declarator total (suc depth)) ts) (goal.Sign sign.Semi ∷ stack)
  declarators_followed ts stack fits =
      items_followed goal.Declarator goal.FurtherDeclarators (read.declarator total (suc depth)) (suc depth) declarator_follows stack (goal.Sign sign.Semi ∷ stack)
      (ends_by goal.Declarator goal.FurtherDeclarators sign.Semi stack refl (λ t stack. refl)) ts fits

  -- a declaration
  declaration_goes : (t : Tok) (ts : List Tok) (stack : Stack) → length (t ∷ ts) ≤ suc depth
      → accepts_behind (declaration_from t stack) ts ≡ goes (read.declaration total (suc depth) (t ∷ ts)) stack
  unfolding read.declaration
  declaration_goes t ts stack fits =
      type_followed total t ts stack
      ∙ goes_leaving (read.declared_type total (t ∷ ts))
      (λ what rest. and_then (items (read.declarator total (suc depth)) rest) (λ all rest. and_then (after sign.Semi rest) (λ _ rest. Some (read.made what all (total - length (t ∷ ts)), rest))))
      (declarators stack) stack (length (t ∷ ts)) (type_leaves total (t ∷ ts)) (λ what rest below.
      declarators_followed rest stack (omega arith)
      ∙ closed_goes (items (read.declarator total (suc depth)) rest) sign.Semi (λ all. read.made what all (total - length (t ∷ ts))) stack)

-- declarations whose expressions nest no deeper than the tokens are many go the way of their goals
declaration_followed : (total depth : ℕ) (t : Tok) (ts : List Tok) (stack : Stack) → length (t ∷ ts) ≤ depth
    → accepts_behind (declaration_from t stack) ts ≡ goes (read.declaration total depth (t ∷ ts)) stack
declaration_followed total zero t ts stack fits = absurd (omega arith)
declaration_followed total (suc depth) t ts stack fits = declaration_goes total depth (expression_followed total (suc depth)) t ts stack fits

-- the readers of expressions and of declarations go the way of their goals in a file of so many tokens
pub parts_followed : (total : ℕ) → AreFollowed (parts_of total)
parts_followed total =
    let values : IsFollowed (expression total (total + 1)) (total + 1) = expression_followed total (total + 1) in
    record {
      value = record { same = λ level ts stack fits. values.same level ts stack (omega arith); less = values.less };
      declared_same = λ t ts stack fits. declaration_followed total (total + 1) t ts stack (omega arith);
      declared_less = λ ts d rest is. leaves_some (read.declaration total (total + 1) ts) (length ts) d rest (declaration_leaves total (total + 1) ts) is;
    }
