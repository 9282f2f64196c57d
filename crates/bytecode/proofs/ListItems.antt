-- Items of lists, by their places.
use Rattle.std.proofs.Common.{◌≡◌, ◌≤◌, ◌<◌, ◌+◌, ℕ, zero, suc, List, [], ◌∷◌, length, take, drop, slice_get, get_or, Some, refl, ap, subst, sym, arith, inl, inr}
use Rattle.std.proofs.lemmas.Option.{slice_get-get_or, slice_get_cases}

-- an item of a list, by a number below its length
pub record Item {A : Type 0} (xs : List A) (i : ℕ) : Type 0 where
  pub item : A
  pub is_there : slice_get xs i ≡ Some item

-- each place below the length has an item
pub item_below : {A : Type 0} (xs : List A) (i : ℕ) → i < length xs → Item xs i
item_below xs i h =
    elim ((slice_get_cases xs i).1) [
      | inl there ↦ record { item = there.0; is_there = there.2 }
      | inr past ↦ absurd (omega (arith, past.0, h))
    ]

-- what was read at a place of a list that is the same as another stands there in the other
pub read_there : {A : Type 0} (xs ys : List A) → xs ≡ ys → (place : ℕ) (d : A) → place < length ys →
    slice_get ys place ≡ Some (get_or xs place d)
read_there xs ys same place d below =
    subst (λ zs. slice_get ys place ≡ Some (get_or zs place d)) (sym same) (slice_get-get_or ys place d below)

-- what is left of what is left
pub drop-drop : {A : Type 0} (m n k : ℕ) (xs : List A) → k ≡ m + n → drop k xs ≡ drop n (drop m xs)
drop-drop zero n k xs e = ap (λ i. drop i xs) (let same : k ≡ n = omega arith in same)
drop-drop (suc m) n zero xs e = absurd (omega arith)
drop-drop (suc m) zero (suc k) [] e = refl
drop-drop (suc m) (suc n) (suc k) [] e = refl
drop-drop (suc m) n (suc k) (x ∷ xs) e = drop-drop m n k xs (omega arith)

-- the first of the first ones
pub take-take : {A : Type 0} (m n : ℕ) (xs : List A) → m ≤ n → take m (take n xs) ≡ take m xs
take-take zero n xs h = refl
take-take (suc m) zero xs h = absurd (omega arith)
take-take (suc m) (suc n) [] h = refl
take-take (suc m) (suc n) (x ∷ xs) h = ap (λ ys. x ∷ ys) (take-take m n xs (omega arith))

-- an item of what is left
pub slice_get-drop : {A : Type 0} (n i k : ℕ) (xs : List A) → k ≡ n + i → slice_get xs k ≡ slice_get (drop n xs) i
slice_get-drop zero i k xs e = ap (slice_get xs) (let same : k ≡ i = omega arith in same)
slice_get-drop (suc n) i zero xs e = absurd (omega arith)
slice_get-drop (suc n) zero (suc k) [] e = refl
slice_get-drop (suc n) (suc i) (suc k) [] e = refl
slice_get-drop (suc n) i (suc k) (x ∷ xs) e = slice_get-drop n i k xs (omega arith)

-- an item of the first ones
pub slice_get-take : {A : Type 0} (n i : ℕ) (xs : List A) → i < n → slice_get (take n xs) i ≡ slice_get xs i
slice_get-take zero i xs h = absurd (omega arith)
slice_get-take (suc n) i [] h = refl
slice_get-take (suc n) zero (x ∷ xs) h = refl
slice_get-take (suc n) (suc i) (x ∷ xs) h = slice_get-take n i xs (omega arith)
