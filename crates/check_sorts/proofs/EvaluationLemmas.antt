-- Constants, evaluated in one pass.
use Rattle.std.proofs.Common.{◌≡◌, ◌<◌, ◌≤◌, ◌^◌, ◌-◌, ◌∙◌, ℕ, Bool, true, false, List, Option, Some, None, refl, ap, subst, sym, arith}
use Rattle.std.specs.Prelude.{IfSome, ℤ, pos, negsuc, neg_ℤ, FitsSigned, ◌||◌, codes, if◌then◌else◌}
use Rattle.std.specs.Option.{option_and_then, option_map}
use Rattle.std.specs.Int.{cast_signed, cast_unsigned, w128}
use Rattle.std.specs.Ordering.{int_eq}
use Rattle.std.proofs.lemmas.Bool.Decides.{nat_tests}
use Rattle.std.proofs.lemmas.Int.{ints, to_z-of_z}
use Rattle.int_kinds.specs.declared.kinds.Kind.{Kind}
use Rattle.int_kinds.specs.declared.kinds.Kind.TheVariants.{Long}
use Rattle.int_kinds.specs.declared.operators.BinOp.{BinOp}
use Rattle.int_kinds.specs.declared.operators.BinOp.TheVariants as op
use Rattle.int_kinds.specs.declared.operators.UnOp.{UnOp}
use Rattle.int_kinds.specs.declared.operators.UnOp.TheVariants as prefix
use Rattle.int_kinds.specs.Arithmetic.{residue, truth, value}
use Rattle.int_kinds.specs.Kind.{IsNumber, join, width, wrap}
use Rattle.int_kinds.proofs.Values.{Holds-truth, Holds-value, IsNumber-held, IsNumber-wrap}
use Rattle.dbc_reader.specs.declared.message.DbcMessage.{DbcMessage}
use Rattle.capl_tree.specs.declared.expr.Expr.{Expr}
use Rattle.capl_tree.specs.declared.expr.Expr.TheVariants as expr
use Rattle.capl_tree.proofs.FormLemmas as form
use Rattle.capl_meaning.specs.Constant.{chosen, operator_value}
use Rattle.capl_meaning.specs.Names.{Scope, direction}
use Rattle.capl_meaning.specs.Operator.{prefix_value, truth_of}
use Rattle.capl_meaning.specs.Sort.{kind_in}
use Rattle.capl_meaning.specs.declared.sort.Sort.TheVariants as sort
use Rattle.std.specs.Str.{bytes_eq}
use Rattle.check_names.specs.Variable.{variable_by, variable_in}
use Rattle.check_names.specs.declared.variable.Declared.{Declared}
use Rattle.check_names.specs.declared.variable.Place.{Place}
use Rattle.check_names.specs.declared.variable.Source.{Source}
use Rattle.check_names.specs.declared.variable.Source.TheVariants as source
use Rattle.check_sorts.specs.declared.evaluation.Evaluated.{Evaluated}
use Rattle.check_sorts.specs.Constant.{HasNumber, binary_by, cast_by, choice_by, evaluated, name_by, prefix_by}

-- a variable is in the file of its declaration
file_by : (base : List DbcMessage) (place : Place) (s : Source) → (variable_by base place s).file ≡ place.file
file_by base place (source.Item what item) = refl
file_by base place (source.Parameter parameter) = refl

-- the same of what is listed
pub declared_place : (base : List DbcMessage) (d : Declared) → (variable_in base d).file ≡ d.place.file
declared_place base d = file_by base d.place d.source

-- a variable is in the procedure of its declaration
owner_by : (base : List DbcMessage) (place : Place) (s : Source) → (variable_by base place s).owner ≡ place.owner
owner_by base place (source.Item what item) = refl
owner_by base place (source.Parameter parameter) = refl

-- the same of what is listed
pub declared_owner : (base : List DbcMessage) (d : Declared) → (variable_in base d).owner ≡ d.place.owner
declared_owner base d = owner_by base d.place d.source

-- what is listed
pub ruleset declared = (declared_place, declared_owner)

-- ---- forms

-- an expression between parentheses
pub paren_evaluated : (values : ℕ → ℕ → Option ℤ) (s : Scope) (e inner : Expr) (at : ℕ) → e ≡ expr.Paren inner at
    → evaluated values s e ≡ evaluated values s inner
paren_evaluated values s e inner at is = ap (evaluated values s) (is ∙ form.paren_form inner at)

-- a cast
pub cast_evaluated : (values : ℕ → ℕ → Option ℤ) (s : Scope) (e : Expr) (k : Kind) (inner : Expr) (at : ℕ) → e ≡ expr.Cast k inner at
    → evaluated values s e ≡ cast_by k (evaluated values s inner)
cast_evaluated values s e k inner at is = ap (evaluated values s) (is ∙ form.cast_form k inner at)

-- a prefix operator
pub unary_evaluated : (values : ℕ → ℕ → Option ℤ) (s : Scope) (e : Expr) (o : UnOp) (inner : Expr) (at : ℕ) → e ≡ expr.Unary o inner at
    → evaluated values s e ≡ prefix_by o (evaluated values s inner)
unary_evaluated values s e o inner at is = ap (evaluated values s) (is ∙ form.unary_form o inner at)

-- a binary operator
pub binary_evaluated : (values : ℕ → ℕ → Option ℤ) (s : Scope) (e : Expr) (o : BinOp) (left right : Expr) (at : ℕ)
    → e ≡ expr.Binary o left right at
    → evaluated values s e ≡ binary_by o (evaluated values s left) (evaluated values s right)
binary_evaluated values s e o left right at is = ap (evaluated values s) (is ∙ form.binary_form o left right at)

-- a choice
pub cond_evaluated : (values : ℕ → ℕ → Option ℤ) (s : Scope) (e test one other : Expr) (at : ℕ)
    → e ≡ expr.Cond test one other at
    → evaluated values s e ≡ choice_by (evaluated values s test) (evaluated values s one) (evaluated values s other)
cond_evaluated values s e test one other at is = ap (evaluated values s) (is ∙ form.cond_form test one other at)

-- ---- numbers

-- a number fits a word of 128 bits
pub fits_number : (n : ℤ) → IsNumber n → FitsSigned w128 n
fits_number (pos n) h = record { sfits = omega (arith, ints, h.below) }
fits_number (negsuc n) h = record { sfits = omega (arith, ints, h.at_least) }

-- a number is read as it was written
pub back : (n : ℤ) → IsNumber n → cast_signed w128 (cast_unsigned w128 n) ≡ n
back n h = to_z-of_z w128 n (fits_number n h)

-- a number that is read as it was written
pub number_back : (n : ℤ) → IsNumber n → IsNumber (cast_signed w128 (cast_unsigned w128 n))
number_back n h = subst IsNumber (sym (to_z-of_z w128 n (fits_number n h))) h

-- a wrapped number
wrapped_number : (k : Kind) (o : Option ℤ) → IfSome (option_map (wrap k) o) IsNumber
wrapped_number k None = tt
wrapped_number k (Some n) = IsNumber-wrap k n

-- a truth
truth_number : (b : Bool) → IsNumber (truth b)
truth_number b = IsNumber-held Long (truth b) (Holds-truth Long b)

-- RX and TX are 0 and 1
directions : (name : List ℕ) → IfSome (direction name) (λ n. n < 2)
directions name = by (bytes_eq name (codes "RX") || bytes_eq name (codes "rx")) (bytes_eq name (codes "TX") || bytes_eq name (codes "tx"))
  where
    by : (a b : Bool) → IfSome (if a then Some 0 else if b then Some 1 else None) (λ n. n < 2)
    by true b = omega arith
    by false true = omega arith
    by false false = tt

-- a cast
pub cast_number : (k : Kind) (inner : Option Evaluated) → HasNumber (cast_by k inner)
cast_number k None = tt
cast_number k (Some v) = wrapped_number k v.value

-- the value of a prefix operator
prefix_numbers : (o : UnOp) (k : Kind) (n : Option ℤ) → IfSome n IsNumber → IfSome (option_map (prefix_value o k) n) IsNumber
prefix_numbers o k None is = tt
prefix_numbers prefix.Minus k (Some n) is = IsNumber-wrap k (neg_ℤ (wrap k n))
prefix_numbers prefix.Plus k (Some n) is = IsNumber-wrap k n
prefix_numbers prefix.Not k (Some n) is = truth_number (int_eq n (pos 0))
prefix_numbers prefix.Inv k (Some n) is = IsNumber-wrap k (pos (2 ^ width k - 1 - residue k n))
prefix_numbers prefix.Up k (Some n) is = is
prefix_numbers prefix.Down k (Some n) is = is

-- a prefix operator
pub prefix_number : (o : UnOp) (inner : Option Evaluated) → HasNumber inner → HasNumber (prefix_by o inner)
prefix_number o None is = tt
prefix_number prefix.Up (Some v) is = tt
prefix_number prefix.Down (Some v) is = tt
prefix_number prefix.Minus (Some v) is = prefix_numbers prefix.Minus (join (kind_in v.sort) (kind_in v.sort)) v.value is
prefix_number prefix.Plus (Some v) is = prefix_numbers prefix.Plus (join (kind_in v.sort) (kind_in v.sort)) v.value is
prefix_number prefix.Not (Some v) is = prefix_numbers prefix.Not (join (kind_in v.sort) (kind_in v.sort)) v.value is
prefix_number prefix.Inv (Some v) is = prefix_numbers prefix.Inv (join (kind_in v.sort) (kind_in v.sort)) v.value is

-- one of two
chosen_number : (test one other : Option ℤ) → IfSome one IsNumber → IfSome other IsNumber → IfSome (chosen test one other) IsNumber
chosen_number None one other is_one is_other = tt
chosen_number (Some n) one other is_one is_other = by (int_eq n (pos 0))
  where
    by : (b : Bool) → IfSome (if b then other else one) IsNumber
    by true = is_other
    by false = is_one

-- the truth of a number
truths : (o : Option ℤ) → IfSome (option_map truth_of o) IsNumber
truths None = tt
truths (Some n) = truth_number _

-- the value of an operator on both operands
both_number : (o : BinOp) (k : Kind) (left right : Option ℤ)
    → IfSome (option_and_then (λ m. option_and_then (λ n. value o k m n) right) left) IsNumber
both_number o k None right = tt
both_number o k (Some m) None = tt
both_number o k (Some m) (Some n) = by (value o k m n) refl
  where
    by : (r : Option ℤ) → value o k m n ≡ r → IfSome r IsNumber
    by None is = tt
    by (Some r) is = IsNumber-held k r (Holds-value o k m n r is)

-- the value of an operator
operator_number : (o : BinOp) (k : Kind) (left right : Option ℤ) → IfSome (operator_value o k left right) IsNumber
operator_number op.AndAlso k left right = chosen_number left (option_map truth_of right) (Some (pos 0)) (truths right) (truth_number false)
operator_number op.OrElse k left right = chosen_number left (Some (pos 1)) (option_map truth_of right) (truth_number true) (truths right)
operator_number o k left right = both_number o k left right

-- a binary operator
pub binary_number : (o : BinOp) (left right : Option Evaluated) → HasNumber (binary_by o left right)
binary_number o None right = tt
binary_number o (Some l) None = tt
binary_number o (Some l) (Some r) = operator_number o _ l.value r.value

-- `?:`
pub choice_number : (test one other : Option Evaluated) → HasNumber (choice_by test one other)
choice_number None one other = tt
choice_number (Some t) None other = tt
choice_number (Some t) (Some a) None = tt
choice_number (Some t) (Some a) (Some b) = wrapped_number (join (kind_in a.sort) (kind_in b.sort)) (chosen t.value a.value b.value)

-- RX and TX
pub word_number : (values : ℕ → ℕ → Option ℤ) (name : List ℕ) → HasNumber (name_by values name None)
word_number values name = by (direction name) (directions name)
  where
    by : (o : Option ℕ) → IfSome o (λ n. n < 2)
        → IfSome (option_map {U = Evaluated} (λ n. record { sort = sort.Number Long; value = Some (pos n) }) o) (λ v. IfSome v.value IsNumber)
    by None small = tt
    by (Some n) small = record { at_least = omega (arith, ints); below = omega (arith, ints, small) }
