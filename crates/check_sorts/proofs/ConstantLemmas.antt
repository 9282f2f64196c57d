-- What is evaluated is what constants are.
use Rattle.std.proofs.Common.{◌≡◌, ◌∙◌, ◌==◌, ◌&&◌, ℕ, Bool, true, false, not, cond, List, [], ◌∷◌, ◌++◌, Option, Some, None, is_some, refl, ap, sym, arith}
use Rattle.std.specs.Prelude.{IfSome, ℤ, pos, filter, find, if◌then◌else◌, nat_lt, ◌||◌}
use Rattle.std.specs.Option.{option_and_then, option_map, option_or}
use Rattle.std.proofs.lemmas.Bool.Decides.{nat_tests}
use Rattle.int_kinds.specs.declared.kinds.Kind.{Kind}
use Rattle.int_kinds.specs.declared.kinds.Kind.TheVariants.{Long}
use Rattle.int_kinds.specs.declared.operators.BinOp.{BinOp}
use Rattle.int_kinds.specs.declared.operators.UnOp.{UnOp}
use Rattle.int_kinds.specs.declared.operators.UnOp.TheVariants as prefix
use Rattle.int_kinds.specs.Kind.{join, wrap}
use Rattle.capl_tree.specs.declared.expr.Expr.{Expr}
use Rattle.capl_tree.specs.declared.expr.Expr.TheVariants as expr
use Rattle.capl_tree.specs.Forms as tree
use Rattle.capl_meaning.specs.declared.sort.Sort.{Sort}
use Rattle.capl_meaning.specs.declared.sort.Sort.TheVariants as sort
use Rattle.capl_meaning.specs.Constant.{Constant, chosen, constant, constant_value, is_before, is_constant, operator_value, constant_of_name}
use Rattle.capl_meaning.specs.Names.{Scope, direction, means}
use Rattle.capl_meaning.specs.Operator.{prefix_value}
use Rattle.capl_meaning.specs.Sort.{is_bad, kind_in, number_from, sort_of, sort_of_binary, sort_of_choice, sort_of_direction, sort_of_form, sort_of_name, sort_of_number, sort_of_prefix, working_kind}
use Rattle.capl_meaning.specs.Variable.{Variable, identifier}
use Rattle.check_sorts.specs.declared.evaluation.Evaluated.{Evaluated}
use Rattle.check_sorts.specs.Constant.{AreValues, binary_by, cast_by, choice_by, evaluated, name_by, number_by, precedes, prefix_by, stands_at}

-- what was found says of an expression whether it is a constant, its sort and its value
record Says (is : Bool) (of : Sort) (number : Option ℤ) (r : Option Evaluated) : Type 0 where
  constant : is_some r ≡ is
  sort : IfSome r (λ v. v.sort ≡ of)
  value : IfSome r (λ v. v.value ≡ number)

-- the same, where const integers are known
abbrev SaysOf : List Constant → Scope → Expr → Option Evaluated → Type 0
SaysOf known s e r = Says (is_constant known s e) (sort_of s e) (constant_value known s e) r

-- a number in the source
number_says : (n : Option ℕ) (extended : Bool)
    → Says (not (is_bad (sort_of_number n extended))) (sort_of_number n extended)
    (option_map (λ n. pos (identifier n extended)) n) (number_by n extended)
number_says n extended = by (is_bad (sort_of_number n extended))
  where
    by : (b : Bool) → Says (not b) (sort_of_number n extended) (option_map (λ n. pos (identifier n extended)) n)
        (if b then None else Some (record { sort = sort_of_number n extended; value = option_map (λ n. pos (identifier n extended)) n }))
    by true = record { constant = refl; sort = tt; value = tt }
    by false = record { constant = refl; sort = refl; value = refl }

-- what has a sort, and the value that there is
found_says : (of : Sort) (x y : Option ℤ) → x ≡ y
    → Says (is_some y) of y (option_map {U = Evaluated} (λ n. record { sort = of; value = Some n }) x)
found_says of None y is = record { constant = ap is_some is; sort = tt; value = tt }
found_says of (Some n) y is = record { constant = ap is_some is; sort = refl; value = is }

-- RX and TX
direction_says : (d : Option ℕ) → Says (is_some (option_map pos d)) (sort_of_direction d) (option_map pos d)
    (option_map {U = Evaluated} (λ n. record { sort = sort.Number Long; value = Some (pos n) }) d)
direction_says None = record { constant = refl; sort = tt; value = tt }
direction_says (Some n) = record { constant = refl; sort = refl; value = refl }

-- a name
name_says : (values : ℕ → ℕ → Option ℤ) (known : List Constant) → AreValues values known → (name : List ℕ) (m : Option Variable)
    → Says (is_some (constant_of_name known name m)) (sort_of_name name m) (constant_of_name known name m) (name_by values name m)
name_says values known are name None = direction_says (direction name)
name_says values known are name (Some v) = found_says (sort_of_form v.form) (values v.file v.token) _ (are v.file v.token)

-- a cast
cast_says : (known : List Constant) (s : Scope) (k : Kind) (inner : Expr) (at : ℕ) (r : Option Evaluated)
    → SaysOf known s inner r → SaysOf known s (tree.Cast k inner at) (cast_by k r)
cast_says known s k inner at None h = record { constant = h.constant; sort = tt; value = tt }
cast_says known s k inner at (Some v) h =
    record { constant = h.constant; sort = ap (λ t. number_from t k) h.sort; value = ap (option_map (wrap k)) h.value }

-- nothing follows from what is no constant
neither : (b c : Bool) → false ≡ c → false ≡ (b && c)
neither true c is = is
neither false c is = refl

-- the value of a prefix operator
prefix_values : (o : UnOp) (s : Sort) (k : Kind) (x y : Option ℤ) → join (kind_in s) (kind_in s) ≡ k → x ≡ y
    → option_map (prefix_value o (join (kind_in s) (kind_in s))) x ≡ option_map (prefix_value o k) y
prefix_values o s k x y kind is = ap (λ (k : Kind). option_map (prefix_value o k) x) kind ∙ ap (option_map (prefix_value o k)) is

-- a prefix operator
prefix_says : (known : List Constant) (s : Scope) (o : UnOp) (inner : Expr) (at : ℕ) (r : Option Evaluated)
    → SaysOf known s inner r → SaysOf known s (tree.Unary o inner at) (prefix_by o r)
prefix_says known s o inner at None h = record { constant = neither _ _ h.constant; sort = tt; value = tt }
prefix_says known s prefix.Up inner at (Some v) h = record { constant = refl; sort = tt; value = tt }
prefix_says known s prefix.Down inner at (Some v) h = record { constant = refl; sort = tt; value = tt }
prefix_says known s prefix.Not inner at (Some v) h = record {
  constant = h.constant;
  sort = ap (λ (t : Sort). sort_of_prefix prefix.Not false t) h.sort;
  value = prefix_values prefix.Not v.sort _ v.value _ (ap (λ (t : Sort). join (kind_in t) (kind_in t)) h.sort) h.value;
}
prefix_says known s prefix.Minus inner at (Some v) h = record {
  constant = h.constant;
  sort = ap (λ (t : Sort). sort_of_prefix prefix.Minus false t) h.sort;
  value = prefix_values prefix.Minus v.sort _ v.value _ (ap (λ (t : Sort). join (kind_in t) (kind_in t)) h.sort) h.value;
}
prefix_says known s prefix.Plus inner at (Some v) h = record {
  constant = h.constant;
  sort = ap (λ (t : Sort). sort_of_prefix prefix.Plus false t) h.sort;
  value = prefix_values prefix.Plus v.sort _ v.value _ (ap (λ (t : Sort). join (kind_in t) (kind_in t)) h.sort) h.value;
}
prefix_says known s prefix.Inv inner at (Some v) h = record {
  constant = h.constant;
  sort = ap (λ (t : Sort). sort_of_prefix prefix.Inv false t) h.sort;
  value = prefix_values prefix.Inv v.sort _ v.value _ (ap (λ (t : Sort). join (kind_in t) (kind_in t)) h.sort) h.value;
}

-- the right side is no constant
first_only : (b c : Bool) → true ≡ b → false ≡ c → false ≡ (b && c)
first_only b c one two = neither b c two

-- the left side is no constant
second_only : (b c : Bool) → false ≡ b → false ≡ (b && c)
second_only true c is = cc
second_only false c is = refl

-- both are
both : (b c : Bool) → true ≡ b → true ≡ c → true ≡ (b && c)
both true c one two = two
both false c one two = one

-- the value of a binary operator
binary_values : (o : BinOp) (a b : Sort) (p q : Sort) (x y u w : Option ℤ) → a ≡ p → b ≡ q → x ≡ u → y ≡ w
    → operator_value o (working_kind o (kind_in a) (kind_in b)) x y ≡ operator_value o (working_kind o (kind_in p) (kind_in q)) u w
binary_values o a b p q x y u w is_a is_b is_x is_y =
    ap (λ (t : Sort). operator_value o (working_kind o (kind_in t) (kind_in b)) x y) is_a
    ∙ ap (λ (t : Sort). operator_value o (working_kind o (kind_in p) (kind_in t)) x y) is_b
    ∙ ap (λ (t : Option ℤ). operator_value o (working_kind o (kind_in p) (kind_in q)) t y) is_x
    ∙ ap (operator_value o (working_kind o (kind_in p) (kind_in q)) u) is_y

-- a binary operator
binary_says : (known : List Constant) (s : Scope) (o : BinOp) (left right : Expr) (at : ℕ) (l r : Option Evaluated)
    → SaysOf known s left l → SaysOf known s right r → SaysOf known s (tree.Binary o left right at) (binary_by o l r)
binary_says known s o left right at None r h g = record { constant = second_only _ _ h.constant; sort = tt; value = tt }
binary_says known s o left right at (Some v) None h g = record { constant = neither _ _ g.constant; sort = tt; value = tt }
binary_says known s o left right at (Some v) (Some w) h g = record {
  constant = both _ _ h.constant g.constant;
  sort = ap (λ (t : Sort). sort_of_binary o t w.sort) h.sort ∙ ap (sort_of_binary o (sort_of s left)) g.sort;
  value = binary_values o v.sort w.sort (sort_of s left) (sort_of s right) v.value w.value _ _ h.sort g.sort h.value g.value;
}

-- `?:`
choice_says : (known : List Constant) (s : Scope) (test one other : Expr) (at : ℕ) (t a b : Option Evaluated)
    → SaysOf known s test t → SaysOf known s one a → SaysOf known s other b
    → SaysOf known s (tree.Cond test one other at) (choice_by t a b)
choice_says known s test one other at None a b h i j = record { constant = second_only _ _ h.constant; sort = tt; value = tt }
choice_says known s test one other at (Some t) None b h i j =
    record { constant = neither _ _ (second_only _ _ i.constant); sort = tt; value = tt }
choice_says known s test one other at (Some t) (Some a) None h i j =
    record { constant = neither _ _ (neither _ _ j.constant); sort = tt; value = tt }
choice_says known s test one other at (Some t) (Some a) (Some b) h i j = record {
  constant = both _ _ h.constant (both _ _ i.constant j.constant);
  sort = ap (λ (x : Sort). sort_of_choice x a.sort b.sort) h.sort
      ∙ ap (λ (x : Sort). sort_of_choice (sort_of s test) x b.sort) i.sort
      ∙ ap (sort_of_choice (sort_of s test) (sort_of s one)) j.sort;
  value = ap (λ (x : Sort). option_map (wrap (join (kind_in x) (kind_in b.sort))) (chosen t.value a.value b.value)) i.sort
      ∙ ap (λ (x : Sort). option_map (wrap (join (kind_in (sort_of s one)) (kind_in x))) (chosen t.value a.value b.value)) j.sort
      ∙ ap (λ (x : Option ℤ). option_map (wrap (join (kind_in (sort_of s one)) (kind_in (sort_of s other)))) (chosen x a.value b.value)) h.value
      ∙ ap (λ (x : Option ℤ). option_map (wrap (join (kind_in (sort_of s one)) (kind_in (sort_of s other)))) (chosen (constant_value known s test) x b.value)) i.value
      ∙ ap (λ (x : Option ℤ). option_map (wrap (join (kind_in (sort_of s one)) (kind_in (sort_of s other)))) (chosen (constant_value known s test) (constant_value known s one) x)) j.value;
}

-- what is no constant
nothing_says : (of : Sort) → Says false of None None
nothing_says of = record { constant = refl; sort = tt; value = tt }

-- any expression
says : (values : ℕ → ℕ → Option ℤ) (known : List Constant) → AreValues values known → (s : Scope) (e : Expr)
    → SaysOf known s e (evaluated values s e)
says values known are s (expr.Num n extended at) = number_says n extended
says values known are s (expr.Char byte at) = record { constant = refl; sort = refl; value = refl }
says values known are s (expr.Name name at) = name_says values known are name (means s name at)
says values known are s (tree.Paren inner at) =
    let h = says values known are s inner in record { constant = h.constant; sort = h.sort; value = h.value }
says values known are s (tree.Cast k inner at) = cast_says known s k inner at (evaluated values s inner) (says values known are s inner)
says values known are s (tree.Unary o inner at) = prefix_says known s o inner at (evaluated values s inner) (says values known are s inner)
says values known are s (tree.Binary o left right at) =
    binary_says known s o left right at (evaluated values s left) (evaluated values s right)
    (says values known are s left) (says values known are s right)
says values known are s (tree.Cond test one other at) =
    choice_says known s test one other at (evaluated values s test) (evaluated values s one) (evaluated values s other)
    (says values known are s test) (says values known are s one) (says values known are s other)
says values known are s e = nothing_says (sort_of s e)

-- the number of a constant
pub constant_is : (values : ℕ → ℕ → Option ℤ) (known : List Constant) → AreValues values known → (s : Scope) (e : Expr)
    → option_and_then (λ v. v.value) (evaluated values s e) ≡ constant known s e
constant_is values known are s e = by (evaluated values s e) (is_constant known s e) (says values known are s e)
  where
    by : (r : Option Evaluated) (b : Bool) → Says b (sort_of s e) (constant_value known s e) r
        → option_and_then (λ v. v.value) r ≡ (if b then constant_value known s e else None)
    by None true h = let no_constant = h.constant in cc
    by None false h = refl
    by (Some v) true h = h.value
    by (Some v) false h = let a_constant = h.constant in cc

-- ---- what is known before a place

-- the first const integer at a place among those before another
pub found_before : (file token f t : ℕ) (cs : List Constant)
    → find (stands_at f t) (filter (is_before file token) cs) ≡ (if precedes file token f t then find (stands_at f t) cs else None)
found_before file token f t [] = by (precedes file token f t)
  where
    by : (b : Bool) → ◌≡◌ {A = Option Constant} None (if b then None else None)
    by true = refl
    by false = refl
found_before file token f t (c ∷ cs) = by (is_before file token c) (stands_at f t c) refl refl (found_before file token f t cs)
  where
    same : stands_at f t c ≡ true → is_before file token c ≡ precedes file token f t
    same at =
        let is_file : c.file ≡ f = grind (arith, nat_tests, at) in
        let is_token : c.token ≡ t = grind (arith, nat_tests, at) in
        ap (λ (n : ℕ). precedes file token n c.token) is_file ∙ ap (precedes file token f) is_token

    by : (a b : Bool) → is_before file token c ≡ a → stands_at f t c ≡ b
        → find (stands_at f t) (filter (is_before file token) cs) ≡ (if precedes file token f t then find (stands_at f t) cs else None)
        → find (stands_at f t) (cond a (c ∷ filter (is_before file token) cs) (filter (is_before file token) cs))
        ≡ (if precedes file token f t then cond b (Some c) (find (stands_at f t) cs) else None)
    by true true before at rest =
        ap (λ (b : Bool). cond b (Some c) (find (stands_at f t) (filter (is_before file token) cs))) at
        ∙ ap (λ (b : Bool). if b then Some c else None) (sym before ∙ same at)
    by true false before at rest =
        ap (λ (b : Bool). cond b (Some c) (find (stands_at f t) (filter (is_before file token) cs))) at ∙ rest
    by false true before at rest =
        let none : precedes file token f t ≡ false = sym (same at) ∙ before in
        rest ∙ ap (λ (b : Bool). if b then find (stands_at f t) cs else None) none
        ∙ sym (ap (λ (b : Bool). if b then Some c else None) none)
    by false false before at rest = rest
