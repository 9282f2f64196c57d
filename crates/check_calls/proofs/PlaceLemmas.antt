-- The first item of a list that passes a test, and its place.
use Rattle.std.proofs.Common.{◌≡◌, ◌+◌, ◌∙◌, ℕ, suc, Bool, true, false, cond, List, [], ◌∷◌, None, Some, refl, ap, sym, arith}
use Rattle.std.specs.Prelude.{find, position, slice_get}
use Rattle.std.specs.List.{position_from}
use Rattle.std.proofs.lemmas.Iterator.Adapters.{position_from-zero}

-- what stands at the first place, counted from a number on
at-from : {X : Type 0} (p : X → Bool) (n i : ℕ) (xs : List X) → position_from p n xs ≡ Some i →
    (k : ℕ) × (x : X) × (i ≡ n + k) × (slice_get xs k ≡ Some x) × (find p xs ≡ Some x)
at-from p n i [] is = cc
at-from {X} p n i (x ∷ xs) is = by (p x) is (at-from p (n + 1) i xs)
  where
    by : (b : Bool) → cond b (Some n) (position_from p (n + 1) xs) ≡ Some i
        → (position_from p (n + 1) xs ≡ Some i → (k : ℕ) × (y : X) × (i ≡ (n + 1) + k) × (slice_get xs k ≡ Some y) × (find p xs ≡ Some y))
        → (k : ℕ) × (y : X) × (i ≡ n + k) × (slice_get (x ∷ xs) k ≡ Some y) × (cond b (Some x) (find p xs) ≡ Some y)
    by true here rest = let same : n ≡ i = cc in (0, x, omega (arith, same), refl, refl)
    by false here rest = let r = rest here in (suc r.0, r.1, omega (arith, r.2), r.3, r.4)

-- what stands at the first place
pub at_first : {X : Type 0} (p : X → Bool) (i : ℕ) (xs : List X) → position p xs ≡ Some i →
    (x : X) × (slice_get xs i ≡ Some x) × (find p xs ≡ Some x)
at_first p i xs is =
    let r = at-from p 0 i xs (sym (position_from-zero p xs) ∙ is) in
    let same : i ≡ r.0 = omega (arith, r.2) in
    (r.1, ap (slice_get xs) same ∙ r.3, r.4)

-- there is a first place, counted from a number on, where there is a first one
none-from : {X : Type 0} (p : X → Bool) (n : ℕ) (xs : List X) → position_from p n xs ≡ None → find p xs ≡ None
none-from p n [] is = refl
none-from {X} p n (x ∷ xs) is = by (p x) is (none-from p (n + 1) xs)
  where
    by : (b : Bool) → cond b (Some n) (position_from p (n + 1) xs) ≡ None
        → (position_from p (n + 1) xs ≡ None → find p xs ≡ None) → cond b (Some x) (find p xs) ≡ None
    by true here rest = cc
    by false here rest = rest here

-- where there is no first place, there is no first one
pub no_first : {X : Type 0} (p : X → Bool) (xs : List X) → position p xs ≡ None → find p xs ≡ None
no_first p xs is = none-from p 0 xs (sym (position_from-zero p xs) ∙ is)
