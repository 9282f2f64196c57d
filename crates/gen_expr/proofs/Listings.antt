-- Listings made of instructions and their depths, and code that is appended piece by piece.
use Rattle.std.specs.Prelude.{◌≡◌, ℕ, zero, suc, ◌<◌, List, [], ◌∷◌, ◌++◌, length, zip, slice_get, slice_set, Some, IsSomeAnd}
use Rattle.std.proofs.Common.{refl, ap, ◌∙◌, arith, get_or}
use Rattle.std.proofs.lemmas.Slice.Zip.{length-zip}

module _ {A B : Type 0} where
  -- as long as its instructions
  pub zip_long : (xs : List A) (ys : List B) → length ys ≡ length xs → length (zip xs ys) ≡ length xs
  zip_long xs ys same = omega (arith, length-zip xs ys)

  -- one more of each
  pub zip_push : (xs : List A) (ys : List B) (x : A) (y : B) → length ys ≡ length xs →
      zip (xs ++ x ∷ []) (ys ++ y ∷ []) ≡ zip xs ys ++ (x, y) ∷ []
  zip_push [] [] x y same = refl
  zip_push [] (b ∷ ys) x y same = absurd (omega (arith, same))
  zip_push (a ∷ xs) [] x y same = absurd (omega (arith, same))
  zip_push (a ∷ xs) (b ∷ ys) x y same = ap (λ l. (a, b) ∷ l) (zip_push xs ys x y (omega (arith, same)))

  -- a place of the listing is one of its instructions
  pub zip_within : (P : A × B → Type 0) (xs : List A) (ys : List B) (i : ℕ) → length ys ≡ length xs →
      IsSomeAnd (slice_get (zip xs ys) i) P → i < length xs
  zip_within P [] ys i same there = absurd there
  zip_within P (a ∷ xs) [] i same there = absurd (omega (arith, same))
  zip_within P (a ∷ xs) (b ∷ ys) zero same there = omega arith
  zip_within P (a ∷ xs) (b ∷ ys) (suc i) same there =
      omega (arith, zip_within P xs ys i (omega (arith, same)) there)

  -- what stands at a place of a listing is its instruction
  pub zip_first : (xs : List A) (ys : List B) (i : ℕ) (x a : A) (b : B) → length ys ≡ length xs →
      slice_get (zip xs ys) i ≡ Some (a, b) → x ≡ get_or xs i x → x ≡ a
  zip_first [] ys i x a b same there read = cc
  zip_first (a' ∷ xs) [] i x a b same there read = cc
  zip_first (a' ∷ xs) (b' ∷ ys) zero x a b same there read =
      let r : x ≡ a' = read in
      let p : ◌≡◌ {A = A × B} (a', b') (a, b) = cc in r ∙ ap (λ q. q.0) p
  zip_first (a' ∷ xs) (b' ∷ ys) (suc i) x a b same there read =
      zip_first xs ys i x a b (omega (arith, same)) there read

  -- another instruction at a place
  pub zip_set : (xs : List A) (ys : List B) (i : ℕ) (x a : A) (b : B) →
      slice_get (zip xs ys) i ≡ Some (a, b) → zip (slice_set xs i x) ys ≡ slice_set (zip xs ys) i (x, b)
  zip_set [] ys i x a b there = cc
  zip_set (a' ∷ xs) [] i x a b there = cc
  zip_set (a' ∷ xs) (b' ∷ ys) zero x a b there =
      let p : ◌≡◌ {A = A × B} (a', b') (a, b) = cc in ap (λ q. (x, q.1) ∷ zip xs ys) p
  zip_set (a' ∷ xs) (b' ∷ ys) (suc i) x a b there = ap (λ l. (a', b') ∷ l) (zip_set xs ys i x a b there)
