-- The first of a list that grows.
use Rattle.std.proofs.Common.{◌≡◌, ◌≤◌, ◌<◌, ◌+◌, ℕ, zero, suc, Bool, true, false, cond, List, [], ◌∷◌, ◌++◌, ◌∙◌, length, Option, None, Some, refl, ap, sym, arith, drop, get_or, take, nat_lt, ◌||◌}
use Rattle.std.specs.Prelude.{find, if◌then◌else◌, is_some, map, position, slice_get}
use Rattle.std.specs.List.{list_any, position_from}
use Rattle.std.specs.Option.{option_and_then, option_or}
use Rattle.std.proofs.lemmas.Bool.Decides.{nat_tests}
use Rattle.std.proofs.lemmas.Iterator.Adapters.{position_from-zero}
use Rattle.std.proofs.Math.ListN.{drop_of_length-le}
use Rattle.check_names.proofs.LoopLemmas.{drop_next}

-- one more item, behind the others
pub find-push : {X : Type 0} (p : X → Bool) (xs : List X) (x : X) →
    find p (xs ++ x ∷ []) ≡ option_or (find p xs) (if p x then Some x else None)
find-push p [] x = refl
find-push p (y ∷ xs) x = by (p y) (find-push p xs x)
  where
    by : (b : Bool) → find p (xs ++ x ∷ []) ≡ option_or (find p xs) (if p x then Some x else None)
        → cond b (Some y) (find p (xs ++ x ∷ [])) ≡ option_or (cond b (Some y) (find p xs)) (if p x then Some x else None)
    by true rest = refl
    by false rest = rest

-- the same, of places from a number on
from-push : {X : Type 0} (p : X → Bool) (n : ℕ) (xs : List X) (x : X) →
    position_from p n (xs ++ x ∷ []) ≡ option_or (position_from p n xs) (if p x then Some (n + length xs) else None)
from-push p n [] x = ap (λ (m : ℕ). if p x then Some m else None) (omega arith)
from-push {X} p n (y ∷ xs) x = by (p y) (from-push p (n + 1) xs x)
  where
    by : (b : Bool) → position_from p (n + 1) (xs ++ x ∷ [])
        ≡ option_or (position_from p (n + 1) xs) (if p x then Some (n + 1 + length xs) else None)
        → cond b (Some n) (position_from p (n + 1) (xs ++ x ∷ []))
        ≡ option_or (cond b (Some n) (position_from p (n + 1) xs)) (if p x then Some (n + suc (length xs)) else None)
    by true rest = refl
    by false rest =
        let same : n + 1 + length xs ≡ n + suc (length xs) = omega arith in
        rest ∙ ap (λ (m : ℕ). option_or (position_from p (n + 1) xs) (if p x then Some m else None)) same

-- the same, of the first place
pub position-push : {X : Type 0} (p : X → Bool) (xs : List X) (x : X) →
    position p (xs ++ x ∷ []) ≡ option_or (position p xs) (if p x then Some (length xs) else None)
position-push p xs x =
    let same : zero + length xs ≡ length xs = omega arith in
    position_from-zero p (xs ++ x ∷ []) ∙ from-push p 0 xs x
    ∙ ap (λ (o : Option ℕ). option_or o (if p x then Some (zero + length xs) else None)) (sym (position_from-zero p xs))
    ∙ ap (λ (m : ℕ). option_or (position p xs) (if p x then Some m else None)) same

-- there is a first one where there is a first place
some-from : {X : Type 0} (p : X → Bool) (n : ℕ) (xs : List X) → is_some (find p xs) ≡ is_some (position_from p n xs)
some-from p n [] = refl
some-from p n (x ∷ xs) = by (p x) (some-from p (n + 1) xs)
  where
    by : (b : Bool) → is_some (find p xs) ≡ is_some (position_from p (n + 1) xs)
        → is_some (cond b (Some x) (find p xs)) ≡ is_some (cond b (Some n) (position_from p (n + 1) xs))
    by true rest = refl
    by false rest = rest

-- the same, of the first place
pub some_first : {X : Type 0} (p : X → Bool) (xs : List X) → is_some (find p xs) ≡ is_some (position p xs)
some_first p xs = some-from p 0 xs ∙ ap is_some (sym (position_from-zero p xs))

-- what stands at the first place from a number on
at-from : {X : Type 0} (p : X → Bool) (n i : ℕ) (xs : List X) → position_from p n xs ≡ Some i →
    (k : ℕ) × (i ≡ n + k) × (slice_get xs k ≡ find p xs)
at-from p n i [] is = cc
at-from {X} p n i (x ∷ xs) is = by (p x) is (at-from p (n + 1) i xs)
  where
    by : (b : Bool) → cond b (Some n) (position_from p (n + 1) xs) ≡ Some i
        → (position_from p (n + 1) xs ≡ Some i → (k : ℕ) × (i ≡ (n + 1) + k) × (slice_get xs k ≡ find p xs))
        → (k : ℕ) × (i ≡ n + k) × (slice_get (x ∷ xs) k ≡ cond b (Some x) (find p xs))
    by true here rest = let same : n ≡ i = cc in (0, omega (arith, same), refl)
    by false here rest = let r = rest here in (suc r.0, omega (arith, r.1), r.2)

-- what stands at the first place
pub at_first : {X : Type 0} (p : X → Bool) (i : ℕ) (xs : List X) → position p xs ≡ Some i → slice_get xs i ≡ find p xs
at_first p i xs is =
    let r = at-from p 0 i xs (sym (position_from-zero p xs) ∙ is) in
    let same : i ≡ r.0 = omega (arith, r.1) in
    ap (slice_get xs) same ∙ r.2

-- whether the first place from a number on is among the first ones
early-from : {X : Type 0} (p : X → Bool) (m : ℕ) (xs : List X) (i n : ℕ) → position_from p m xs ≡ Some n
    → list_any p (take i xs) ≡ nat_lt n (m + i)
early-from p m [] i n is = absurd (cc)
early-from p m (x ∷ xs) zero n is = let r = at-from p m n (x ∷ xs) is in grind (arith, nat_tests, r.1)
early-from {X} p m (x ∷ xs) (suc i) n is = by (p x) is (early-from p (m + 1) xs i n)
  where
    by : (b : Bool) → cond b (Some m) (position_from p (m + 1) xs) ≡ Some n
        → (position_from p (m + 1) xs ≡ Some n → list_any p (take i xs) ≡ nat_lt n (m + 1 + i))
        → (b || list_any p (take i xs)) ≡ nat_lt n (m + suc i)
    by true here rest = let same : m ≡ n = cc in grind (arith, nat_tests, same)
    by false there rest =
        let same : m + 1 + i ≡ m + suc i = omega arith in rest there ∙ ap (λ (k : ℕ). nat_lt n k) same

-- there is none among the first ones where there is none at all
none-from : {X : Type 0} (p : X → Bool) (m : ℕ) (xs : List X) (i : ℕ) → position_from p m xs ≡ None → list_any p (take i xs) ≡ false
none-from p m [] zero is = refl
none-from p m [] (suc i) is = refl
none-from p m (x ∷ xs) zero is = refl
none-from {X} p m (x ∷ xs) (suc i) is = by (p x) is (none-from p (m + 1) xs i)
  where
    by : (b : Bool) → cond b (Some m) (position_from p (m + 1) xs) ≡ None
        → (position_from p (m + 1) xs ≡ None → list_any p (take i xs) ≡ false) → (b || list_any p (take i xs)) ≡ false
    by true here rest = absurd (cc)
    by false there rest = rest there

-- the same of the first place
pub is_early : {X : Type 0} (p : X → Bool) (xs : List X) (i n : ℕ) → position p xs ≡ Some n → list_any p (take i xs) ≡ nat_lt n i
is_early p xs i n is = early-from p 0 xs i n (sym (position_from-zero p xs) ∙ is) ∙ ap (λ (k : ℕ). nat_lt n k) (omega arith)

-- and where there is none
pub is_nowhere : {X : Type 0} (p : X → Bool) (xs : List X) (i : ℕ) → position p xs ≡ None → list_any p (take i xs) ≡ false
is_nowhere p xs i is = none-from p 0 xs i (sym (position_from-zero p xs) ∙ is)

-- the first of some, by its place
pub find_position : {X : Type 0} (p : X → Bool) (xs : List X) → option_and_then (slice_get xs) (position p xs) ≡ find p xs
find_position {X} p xs = by (position p xs) refl (find p xs) refl
  where
    by : (o : Option ℕ) → position p xs ≡ o → (f : Option X) → find p xs ≡ f → option_and_then (slice_get xs) o ≡ find p xs
    by None is None found = sym found
    by None is (Some x) found = let both = some_first p xs in cc
    by (Some i) is f found = at_first p i xs is

-- the first one passes the test
pub passing : {X : Type 0} (p : X → Bool) (xs : List X) (x : X) → find p xs ≡ Some x → p x ≡ true
passing p [] x found = absurd (cc)
passing {X} p (y ∷ xs) x found = by (p y) refl found (passing p xs x)
  where
    by : (b : Bool) → p y ≡ b → cond b (Some y) (find p xs) ≡ Some x → (find p xs ≡ Some x → p x ≡ true) → p x ≡ true
    by true is here rest = let same : y ≡ x = cc in ap p (sym same) ∙ is
    by false is there rest = rest there

-- ---- the first one from a place of a list on that each item is made from

-- an item that fails is passed over
pub first_next : {X Y : Type 0} (p : Y → Bool) (n : ℕ) (f : X → Y) (xs : List X) (i : ℕ) (x : X) → i < length xs
    → x ≡ get_or xs i x → p (f x) ≡ false
    → position_from p (n + 1) (map f (drop (i + 1) xs)) ≡ position_from p n (map f (drop i xs))
first_next p n f xs i x within is fails =
    sym (ap (λ l. position_from p n (map f l)) (drop_next xs i x within is)
    ∙ ap (λ (b : Bool). cond b (Some n) (position_from p (n + 1) (map f (drop (i + 1) xs)))) fails)

-- one that passes is the first
pub first_here : {X Y : Type 0} (p : Y → Bool) (n : ℕ) (f : X → Y) (xs : List X) (i : ℕ) (x : X) → i < length xs
    → x ≡ get_or xs i x → p (f x) ≡ true → Some n ≡ position_from p n (map f (drop i xs))
first_here p n f xs i x within is passes =
    sym (ap (λ l. position_from p n (map f l)) (drop_next xs i x within is)
    ∙ ap (λ (b : Bool). cond b (Some n) (position_from p (n + 1) (map f (drop (i + 1) xs)))) passes)

-- behind the last item there is none
pub first_gone : {X Y : Type 0} (p : Y → Bool) (n : ℕ) (f : X → Y) (xs : List X) (i : ℕ) → length xs ≤ i
    → None ≡ position_from p n (map f (drop i xs))
first_gone p n f xs i past = sym (ap (λ l. position_from p n (map f l)) (drop_of_length-le xs past))
