-- The const integers that a table knows.
use Rattle.std.proofs.Common.{◌≡◌, ◌∙◌, ◌==◌, ◌&&◌, ◌+◌, ◌<◌, length, get_or, drop, add-one, ℕ, zero, suc, Bool, true, false, cond, List, [], ◌∷◌, ◌++◌, Option, Some, None, refl, ap, subst, sym, arith, append-nil}
use Rattle.std.specs.Prelude.{ℤ, pos, map, filter, find, if◌then◌else◌}
use Rattle.std.specs.Borrow.{Bor}
use Rattle.std.specs.Option.{option_map, option_map_or, option_or}
use Rattle.std.proofs.lemmas.Bool.Decides.{nat_tests}
use Rattle.std.proofs.lemmas.Int.{ints}
use Rattle.int_kinds.specs.Kind.{IsNumber, wrap}
use Rattle.int_kinds.proofs.Values.{IsNumber-wrap}
use Rattle.capl_tree.specs.declared.declaration.Init.{Init}
use Rattle.capl_tree.specs.declared.declaration.Init.TheVariants.{One, Many}
use Rattle.int_kinds.specs.declared.kinds.Kind.{Kind}
use Rattle.capl_meaning.specs.Constant.{Constant, constant, constant_by, constants_behind, first_number, is_before}
use Rattle.capl_meaning.specs.Names.{Names, Scope}
use Rattle.capl_meaning.specs.Variable.{Form, Number, Array, Message, Timer, Misfit, Variable}
use Rattle.std.proofs.Math.Seq.{drop-cons}
use Rattle.dbc_reader.specs.declared.message.DbcMessage.{DbcMessage}
use Rattle.check_names.specs.Variable.{variable_in, variables_in}
use Rattle.check_names.specs.declared.variable.Declared.{Declared}
use Rattle.check_sorts.specs.declared.values.ValueTable.{ValueTable}
use Rattle.check_sorts.specs.Constant.{AreNumbers, AreValues, constant_of, fixed_kind, held, known_at, precedes, stands_at}
use Rattle.check_sorts.proofs.ConstantLemmas.{found_before}

-- 0 is a number
zero_number : IsNumber (pos 0)
zero_number = record { at_least = omega (arith, ints); below = omega (arith, ints) }

-- what is known before a place are numbers
pub numbers_before : (table : Bor ValueTable) (file token : ℕ) → AreNumbers (held table.now)
    → AreNumbers (known_at (record { table = table; before = Some (file, token) }))
numbers_before table file token are f t n is = by (precedes file token f t) is
  where
    by : (b : Bool) → (if b then held table.now f t else None) ≡ Some n → IsNumber n
    by true is = are f t n is
    by false is = cc

-- the values that are known before a place
pub values_before : (table : Bor ValueTable) (file token : ℕ) (cs : List Constant) → AreValues (held table.now) cs
    → AreValues (known_at (record { table = table; before = Some (file, token) })) (filter (is_before file token) cs)
values_before table file token cs are f t =
    by (precedes file token f t) ∙ sym (ap (option_map (λ c. c.value)) (found_before file token f t cs))
  where
    by : (b : Bool) → (if b then held table.now f t else None)
        ≡ option_map (λ (c : Constant). c.value) (if b then find (stands_at f t) cs else None)
    by true = are f t
    by false = refl

-- one more item, behind the others
find-push : {X : Type 0} (p : X → Bool) (xs : List X) (x : X) →
    find p (xs ++ x ∷ []) ≡ option_or (find p xs) (if p x then Some x else None)
find-push p [] x = refl
find-push p (y ∷ xs) x = by (p y) (find-push p xs x)
  where
    by : (b : Bool) → find p (xs ++ x ∷ []) ≡ option_or (find p xs) (if p x then Some x else None)
        → cond b (Some y) (find p (xs ++ x ∷ [])) ≡ option_or (cond b (Some y) (find p xs)) (if p x then Some x else None)
    by true rest = refl
    by false rest = rest

-- equality is that of the other side
swap : (a b : ℕ) → (a == b) ≡ (b == a)
swap a b = by (a == b) (b == a) refl refl
  where
    by : (x y : Bool) → (a == b) ≡ x → (b == a) ≡ y → x ≡ y
    by true true p q = refl
    by false false p q = refl
    by true false p q = grind (arith, nat_tests, p, q)
    by false true p q = grind (arith, nat_tests, p, q)

-- the value of the first of two, or that of one more
mapped : (o : Option Constant) (b : Bool) (c : Constant)
    → option_map (λ (c : Constant). c.value) (option_or o (if b then Some c else None))
    ≡ option_or (option_map (λ (c : Constant). c.value) o) (if b then Some c.value else None)
mapped None true c = refl
mapped None false c = refl
mapped (Some d) b c = refl

-- one more const integer
pub noted : (values after : ℕ → ℕ → Option ℤ) (known : List Constant) (c : Constant) → AreValues values known
    → ((f t : ℕ) → after f t ≡ option_or (values f t) (if f == c.file && t == c.token then Some c.value else None))
    → AreValues after (known ++ c ∷ [])
noted values after known c are is f t =
    is f t ∙ ap (λ (o : Option ℤ). option_or o (if f == c.file && t == c.token then Some c.value else None)) (are f t)
    ∙ ap (λ (b : Bool). option_or (option_map (λ (c : Constant). c.value) (find (stands_at f t) known))
    (if b && t == c.token then Some c.value else None)) (swap f c.file)
    ∙ ap (λ (b : Bool). option_or (option_map (λ (c : Constant). c.value) (find (stands_at f t) known))
    (if (c.file == f) && b then Some c.value else None)) (swap t c.token)
    ∙ sym (ap (option_map (λ (c : Constant). c.value)) (find-push (stands_at f t) known c)
    ∙ mapped (find (stands_at f t) known) (stands_at f t c) c)

-- a const integer, by its kind
pub fixed : (known : List Constant) (s : Scope) (v : Variable) (form : Form) (k : Kind) → fixed_kind form ≡ Some k
    → constant_by known s v form
    ≡ record { file = v.file; token = v.token; value = first_number known s k v.init } ∷ []
fixed known s v (Number j true) k is =
    let same : j ≡ k = cc in
    ap (λ (k : Kind). let one : Constant = record { file = v.file; token = v.token; value = first_number known s k v.init } in one ∷ []) same
fixed known s v (Number j false) k is = cc
fixed known s v (Array j b size) k is = cc
fixed known s v (Message m) k is = cc
fixed known s v (Timer unit) k is = cc
fixed known s v Misfit k is = cc

-- what is no const integer
pub not_fixed : (known : List Constant) (s : Scope) (v : Variable) (form : Form) → fixed_kind form ≡ None
    → constant_by known s v form ≡ []
not_fixed known s v (Number j true) is = cc
not_fixed known s v (Number j false) is = refl
not_fixed known s v (Array j b size) is = refl
not_fixed known s v (Message m) is = refl
not_fixed known s v (Timer unit) is = refl
not_fixed known s v Misfit is = refl

-- nothing is added
pub unchanged : (values : ℕ → ℕ → Option ℤ) (known more : List Constant) → AreValues values known → more ≡ []
    → AreValues values (known ++ more)
unchanged values known more are none f t =
    are f t ∙ ap (λ (cs : List Constant). option_map (λ (c : Constant). c.value) (find (stands_at f t) cs))
    (sym (append-nil known) ∙ ap (λ (cs : List Constant). known ++ cs) (sym none))

-- the first value of a number variable is a number
pub first_is_number : (known : List Constant) (s : Scope) (k : Kind) (init : Option Init) → IsNumber (first_number known s k init)
first_is_number known s k None = zero_number
first_is_number known s k (Some (Many items at)) = zero_number
first_is_number known s k (Some (One e)) = by (constant known s e)
  where
    by : (o : Option ℤ) → IsNumber (option_map_or (wrap k) o (pos 0))
    by None = zero_number
    by (Some n) = IsNumber-wrap k n

-- one more number
pub more_numbers : (values after : ℕ → ℕ → Option ℤ) (file token : ℕ) (z : ℤ) → AreNumbers values → IsNumber z
    → ((f t : ℕ) → after f t ≡ option_or (values f t) (if f == file && t == token then Some z else None)) → AreNumbers after
more_numbers values after file token z are number is f t n found =
    by (values f t) (f == file && t == token) (are f t n) (sym (is f t) ∙ found)
  where
    by : (o : Option ℤ) (b : Bool) → (o ≡ Some n → IsNumber n) → option_or o (if b then Some z else None) ≡ Some n → IsNumber n
    by (Some m) b known is = known is
    by None true known is = let same : z ≡ n = cc in subst IsNumber same number
    by None false known is = cc

-- a function of each item that another made
pub map_both : {X Y Z : Type 0} (f : Y → Z) (g : X → Y) (xs : List X) → map (λ x. f (g x)) xs ≡ map f (map g xs)
map_both f g [] = refl
map_both f g (x ∷ xs) = ap (λ zs. f (g x) ∷ zs) (map_both f g xs)

-- the const integers behind one more variable
pub behind : (names : Names) (base : List DbcMessage) (known : List Constant) (ds : List Declared) (i : ℕ) (d : Declared)
    → i < length ds → d ≡ get_or ds i d
    → constants_behind names known (variables_in base (drop i ds))
    ≡ constants_behind names (known ++ constant_of names known (variable_in base d)) (variables_in base (drop (i + 1) ds))
behind names base known ds i d within is =
    ap (λ (l : List Declared). constants_behind names known (variables_in base l))
    (drop-cons ds i d within ∙ ap (λ (x : Declared). x ∷ drop (suc i) ds) (sym is))
    ∙ ap (λ (j : ℕ). constants_behind names (known ++ constant_of names known (variable_in base d)) (variables_in base (drop j ds)))
    (sym (add-one i))
