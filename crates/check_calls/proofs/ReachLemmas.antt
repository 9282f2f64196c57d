-- What is reached by calls is reached by no more calls than there are functions.
use Rattle.std.proofs.Common.{◌≡◌, ◌⊎◌, ◌+◌, ◌-◌, ◌<◌, ◌≤◌, ◌==◌, ◌||◌, ◌∙◌, ℕ, zero, suc, Bool, true, false, cond, List, [], ◌∷◌, Option, None, Some, inl, inr, refl, ap, sym, subst, arith, length, eq-eqb}
use Rattle.std.specs.Prelude.{find, slice_get}
use Rattle.std.specs.List.{cons_option, filter_map, flat_map, list_any}
use Rattle.std.specs.Option.{option_map_or}
use Rattle.std.specs.Str.{bytes_eq}
use Rattle.std.proofs.lemmas.Bool.{false≢true}
use Rattle.std.proofs.lemmas.Bool.Decides.{nat_tests}
use Rattle.capl_meaning.specs.declared.builtin.Builtin.{Builtin}
use Rattle.capl_meaning.specs.Names.{Function, Names, builtin_named, callee, OfLanguage, OfProgram, Unknown}
use Rattle.capl_meaning.specs.Calls.{called_by, called_by_number, names_called, function_numbered, number_of_callee, reaches, reaches_within}
use Rattle.check_calls.specs.Graph.{Has}
use Rattle.check_calls.proofs.CountLemmas.{AllPass, counted, counted_length, settles}

-- what passes among a list
pub any_has : {X : Type 0} (p : X → Bool) (xs : List X) → list_any p xs ≡ true → (x : X) × Has xs x × (p x ≡ true)
any_has p [] is = absurd (false≢true is)
any_has {X} p (x ∷ xs) is = by (p x) refl is (any_has p xs)
  where
    by : (b : Bool) → p x ≡ b → b || list_any p xs ≡ true → (list_any p xs ≡ true → (y : X) × Has xs y × (p y ≡ true))
        → (y : X) × Has (x ∷ xs) y × (p y ≡ true)
    by true same h rest = (x, (0, refl), same)
    by false same h rest = let r = rest h in (r.0, (suc r.1.0, r.1.1), r.2)

-- where something passes, the list has one that passes
pub has_any : {X : Type 0} (p : X → Bool) (xs : List X) (k : ℕ) (x : X) → slice_get xs k ≡ Some x → p x ≡ true → list_any p xs ≡ true
has_any p [] k x at is = cc
has_any {X} p (y ∷ xs) zero x at is = let same : y ≡ x = cc in ap (λ b. b || list_any p xs) (ap p same ∙ is)
has_any {X} p (y ∷ xs) (suc k) x at is = by (p y) (has_any p xs k x at is)
  where
    by : (b : Bool) → list_any p xs ≡ true → b || list_any p xs ≡ true
    by true rest = refl
    by false rest = rest

-- a call from one number to another
abbrev pub Calls : Names → ℕ → ℕ → Type 0
Calls names from to = Has (called_by_number names from) to

-- of two truths
either : (a b : Bool) → a || b ≡ true → (a ≡ true) ⊎ (b ≡ true)
either true b is = inl refl
either false b is = inr is

-- the second of two truths
second : (a b : Bool) → b ≡ true → a || b ≡ true
second true b is = refl
second false b is = is

-- a number is reached from itself
pub itself : (names : Names) (n x : ℕ) → reaches_within names n x x ≡ true
itself names zero x = eq-eqb x x refl
itself names (suc n) x =
    ap (λ b. b || list_any (λ next. reaches_within names n next x) (called_by_number names x)) (eq-eqb x x refl)

-- one call more
pub one_call : (names : Names) (n x next y : ℕ) → Calls names x next → reaches_within names n next y ≡ true →
    reaches_within names (suc n) x y ≡ true
one_call names n x next y call is =
    second (x == y) _ (has_any (λ z. reaches_within names n z y) (called_by_number names x) call.0 next call.1 is)

-- what is reached within some calls: itself, or by a first call
abbrev pub First : Names → ℕ → ℕ → ℕ → Type 0
First names n x y = (x ≡ y) ⊎ ((next : ℕ) × Calls names x next × (reaches_within names n next y ≡ true))

-- by a first call
pub first_call : (names : Names) (n x y : ℕ) → reaches_within names (suc n) x y ≡ true → First names n x y
first_call names n x y is = by (either (x == y) _ is)
  where
    by : (x == y ≡ true) ⊎ (list_any (λ z. reaches_within names n z y) (called_by_number names x) ≡ true) → First names n x y
    by (inl same) = inl (grind (arith, nat_tests, same))
    by (inr any) = inr (any_has (λ z. reaches_within names n z y) (called_by_number names x) any)

-- more calls reach more
pub more_calls : (names : Names) (n x y : ℕ) → reaches_within names n x y ≡ true → reaches_within names (suc n) x y ≡ true
more_calls names zero x y is = ap (λ b. b || list_any (λ z. reaches_within names 0 z y) (called_by_number names x)) is
more_calls names (suc n) x y is = by (first_call names n x y is) (λ z. more_calls names n z y)
  where
    by : First names n x y → ((z : ℕ) → reaches_within names n z y ≡ true → reaches_within names (suc n) z y ≡ true)
        → reaches_within names (suc (suc n)) x y ≡ true
    by (inl same) more = subst (λ z. reaches_within names (suc (suc n)) x z ≡ true) same (itself names (suc (suc n)) x)
    by (inr next) more = one_call names (suc n) x next.0 y next.1 (more next.0 next.2)

-- many more calls reach more
pub many_calls : (names : Names) (k n x y : ℕ) → reaches_within names n x y ≡ true → reaches_within names (k + n) x y ≡ true
many_calls names zero n x y is =
    let same : n ≡ 0 + n = omega arith in subst (λ z. reaches_within names z x y ≡ true) same is
many_calls names (suc k) n x y is =
    let same : suc (k + n) ≡ suc k + n = omega arith in
    subst (λ z. reaches_within names z x y ≡ true) same (more_calls names (k + n) x y (many_calls names k n x y is))

-- from one to another, and on
pub then : (names : Names) (m n x y z : ℕ) → reaches_within names m x y ≡ true → reaches_within names n y z ≡ true →
    reaches_within names (m + n) x z ≡ true
then names zero n x y z first rest =
    let same : x ≡ y = grind (arith, nat_tests, first) in
    let sum : n ≡ 0 + n = omega arith in
    subst (λ v. reaches_within names v x z ≡ true) sum (subst (λ v. reaches_within names n v z ≡ true) (sym same) rest)
then names (suc m) n x y z first rest = by (first_call names m x y first) (λ v h. then names m n v y z h rest)
  where
    by : First names m x y → ((v : ℕ) → reaches_within names m v y ≡ true → reaches_within names (m + n) v z ≡ true)
        → reaches_within names (suc m + n) x z ≡ true
    by (inl same) on = subst (λ v. reaches_within names (suc m + n) v z ≡ true) (sym same) (many_calls names (suc m) n y z rest)
    by (inr next) on =
        let sum : suc (m + n) ≡ suc m + n = omega arith in
        subst (λ v. reaches_within names v x z ≡ true) sum (one_call names (m + n) x next.0 z next.1 (on next.0 next.2))

-- what is found in a list stands in it
pub found_has : {X : Type 0} (p : X → Bool) (xs : List X) (x : X) → find p xs ≡ Some x → Has xs x × (p x ≡ true)
found_has p [] x is = cc
found_has {X} p (y ∷ xs) x is = by (p y) refl is (found_has p xs x)
  where
    by : (b : Bool) → p y ≡ b → cond b (Some y) (find p xs) ≡ Some x → (find p xs ≡ Some x → Has xs x × (p x ≡ true))
        → Has (y ∷ xs) x × (p x ≡ true)
    by true same here rest = let it : y ≡ x = cc in ((0, ap (λ z. Some z) it), ap p (sym it) ∙ same)
    by false same here rest = let r = rest here in ((suc r.0.0, r.0.1), r.1)

-- what is kept of a list is of one of its items
pub kept_has : {X Y : Type 0} (f : X → Option Y) (xs : List X) (y : Y) → Has (filter_map f xs) y → (x : X) × (f x ≡ Some y)
kept_has f [] y has = let no : None ≡ Some y = has.1 in cc
kept_has {X} {Y} f (x ∷ xs) y has = by (f x) refl has (kept_has f xs y)
  where
    by : (o : Option Y) → f x ≡ o → Has (cons_option o (filter_map f xs)) y
        → (Has (filter_map f xs) y → (z : X) × (f z ≡ Some y)) → (z : X) × (f z ≡ Some y)
    by None same h rest = rest h
    by (Some w) same (zero, at) rest = (x, same ∙ at)
    by (Some w) same (suc k, at) rest = rest (k, at)

-- what a call of a name is of is a function of the program
of_program : (names : Names) (name : List ℕ) (number : ℕ) → number_of_callee (callee names name) ≡ Some number →
    (f : Function) × Has names.functions f × (f.number ≡ number)
of_program names name number is = by (builtin_named name) (find (λ f. bytes_eq name f.name) names.functions) refl is
  where
    by : (b : Option Builtin) (o : Option Function) → find (λ f. bytes_eq name f.name) names.functions ≡ o
        → number_of_callee (option_map_or OfLanguage b (option_map_or OfProgram o Unknown)) ≡ Some number → (f : Function) × Has names.functions f × (f.number ≡ number)
    by (Some b) o same h = let no : None ≡ Some number = h in cc
    by None None same h = let no : None ≡ Some number = h in cc
    by None (Some f) same h =
        let it : f.number ≡ number = cc in (f, (found_has (λ f. bytes_eq name f.name) names.functions f same).0, it)

-- what is called is a function of the program
pub called_function : (names : Names) (from to : ℕ) → Calls names from to → (f : Function) × Has names.functions f × (f.number ≡ to)
called_function names from to call = by (function_numbered names from) call
  where
    by : (o : Option Function) → Has (option_map_or (called_by names) o []) to → (f : Function) × Has names.functions f × (f.number ≡ to)
    by None h = let no : None ≡ Some to = h.1 in cc
    by (Some f) h =
        let r = kept_has (λ name. number_of_callee (callee names name)) (flat_map names_called f.body) to h in
        of_program names r.0 to r.1

-- the functions from which a number is reached within some calls
abbrev near : Names → ℕ → ℕ → Function → Bool
near names y n f = reaches_within names n f.number y

-- once one call more reaches from no further function, all that is reached is reached by that many calls
settled : (names : Names) (m y : ℕ) → AllPass (near names y (suc m)) (near names y m) names.functions → (n x : ℕ)
    → reaches_within names n x y ≡ true → reaches_within names (suc m) x y ≡ true
settled names m y still zero x is =
    let same : x ≡ y = grind (arith, nat_tests, is) in
    subst (λ z. reaches_within names (suc m) x z ≡ true) same (itself names (suc m) x)
settled names m y still (suc n) x is = by (first_call names n x y is) (settled names m y still n)
  where
    by : First names n x y → ((z : ℕ) → reaches_within names n z y ≡ true → reaches_within names (suc m) z y ≡ true)
        → reaches_within names (suc m) x y ≡ true
    by (inl same) rest = subst (λ z. reaches_within names (suc m) x z ≡ true) same (itself names (suc m) x)
    by (inr next) rest =
        let g = called_function names x next.0 next.1 in
        let far = rest next.0 next.2 in
        let close = still g.1.0 g.0 g.1.1 (subst (λ z. reaches_within names (suc m) z y ≡ true) (sym g.2) far) in
        one_call names m x next.0 y next.1 (subst (λ z. reaches_within names m z y ≡ true) g.2 close)

-- where an item passes, some do
counted_one : {X : Type 0} (p : X → Bool) (xs : List X) (k : ℕ) (x : X) → slice_get xs k ≡ Some x → p x ≡ true → 1 ≤ counted p xs
counted_one p [] k x at it = cc
counted_one p (y ∷ xs) zero x at it =
    let same : y ≡ x = cc in
    subst (λ b. 1 ≤ cond b (suc (counted p xs)) (counted p xs)) (sym (ap p same ∙ it)) (omega arith)
counted_one {X} p (y ∷ xs) (suc k) x at it = by (p y) (counted_one p xs k x at it)
  where
    by : (b : Bool) → 1 ≤ counted p xs → 1 ≤ cond b (suc (counted p xs)) (counted p xs)
    by true le = omega arith
    by false le = le

-- a number that no function has is reached from itself alone
alone : (names : Names) (y : ℕ) → counted (near names y 0) names.functions ≡ 0 → (n x : ℕ) → reaches_within names n x y ≡ true → x ≡ y
alone names y none zero x is = grind (arith, nat_tests, is)
alone names y none (suc n) x is = by (first_call names n x y is) (alone names y none n)
  where
    by : First names n x y → ((z : ℕ) → reaches_within names n z y ≡ true → z ≡ y) → x ≡ y
    by (inl same) rest = same
    by (inr next) rest =
        let g = called_function names x next.0 next.1 in
        let there : next.0 ≡ y = rest next.0 next.2 in
        let le = counted_one (near names y 0) names.functions g.1.0 g.0 g.1.1 (eq-eqb g.0.number y (g.2 ∙ there)) in
        absurd (omega (arith, le, none))

-- what is reached within any number of calls is reached
pub reached : (names : Names) (n x y : ℕ) → reaches_within names n x y ≡ true → reaches names x y ≡ true
reached names n x y is =
    by (counted (near names y 0) names.functions) refl
    (settles (near names y) names.functions (λ k f. more_calls names k f.number y) (length names.functions))
  where
    by : (c : ℕ) → counted (near names y 0) names.functions ≡ c
        → ((m : ℕ) × (m < length names.functions) × AllPass (near names y (suc m)) (near names y m) names.functions)
        ⊎ (length names.functions + counted (near names y 0) names.functions ≤ counted (near names y (length names.functions)) names.functions)
        → reaches names x y ≡ true
    by c same (inl still) =
        let h = settled names still.0 y still.2 n x is in
        let there : (k : ℕ) × (k + suc still.0 ≡ length names.functions) = (length names.functions - suc still.0, omega (arith, still.1)) in
        subst (λ z. reaches_within names z x y ≡ true) there.1 (many_calls names there.0 (suc still.0) x y h)
    by zero same (inr many) =
        subst (λ z. reaches_within names (length names.functions) x z ≡ true) (alone names y same n x is) (itself names (length names.functions) x)
    by (suc c) same (inr many) =
        absurd (omega (arith, same, many, counted_length (near names y (length names.functions)) names.functions))
