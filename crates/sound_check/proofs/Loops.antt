-- One more item of a list has what those before it have.
use Rattle.std.proofs.Common.{◌≡◌, ℕ, zero, suc, ◌+◌, ◌<◌, ◌≤◌, List, [], ◌∷◌, length, get_or, take, Some, slice_get, sym, subst, arith, inl, inr}
use Rattle.std.specs.Prelude.{All, IsSomeAnd}
use Rattle.std.proofs.lemmas.Bool.{cases_order}
use Rattle.std.proofs.lemmas.List.Elements.{at_read}
use Rattle.bytecode.proofs.ListPairs.{All-take_more, All-taken}

-- one more item
pub one_more : {X : Type 0} (P : X → Type 0) (xs : List X) (i : ℕ) (x : X) → i < length xs → x ≡ get_or xs i x →
    All P (take i xs) → P x → All P (take (i + 1) xs)
one_more P xs i x within is so_far here = All-take_more P xs i within so_far (at_read xs P i x within is here)

-- in the end all
pub in_the_end : {X : Type 0} (P : X → Type 0) (xs : List X) (i : ℕ) → length xs ≤ i → All P (take i xs) → All P xs
in_the_end P xs i end so_far = All-taken P xs i end so_far

-- an item that is found is within the list
pub found_within : {X : Type 0} (xs : List X) (i : ℕ) (x : X) → slice_get xs i ≡ Some x → i < length xs
found_within [] i x e = absurd (cc)
found_within (y ∷ xs) zero x e = omega arith
found_within (y ∷ xs) (suc n) x e = let h = found_within xs n x e in omega (arith, h)

-- an item of which something is known is within the list
pub some_within : {X : Type 0} (P : X → Type 0) (xs : List X) (i : ℕ) → IsSomeAnd (slice_get xs i) P → i < length xs
some_within P [] i h = absurd h
some_within P (y ∷ xs) zero h = omega arith
some_within P (y ∷ xs) (suc n) h = let below = some_within P xs n h in omega (arith, below)

-- an item that is found is the one that is read
found_read : {X : Type 0} (xs : List X) (i : ℕ) (x d : X) → slice_get xs i ≡ Some x → get_or xs i d ≡ x
found_read [] i x d e = absurd (cc)
found_read (y ∷ xs) zero x d e = let h : Some y ≡ Some x = e in cc
found_read (y ∷ xs) (suc n) x d e = found_read xs n x d e

-- one more item with its number
pub one_more_numbered : {X : Type 0} (P : ℕ → X → Type 0) (xs : List X) (i : ℕ) (x : X) → x ≡ get_or xs i x →
    ((n : ℕ) (y : X) → n < i → slice_get xs n ≡ Some y → P n y) → P i x →
    (n : ℕ) (y : X) → n < i + 1 → slice_get xs n ≡ Some y → P n y
one_more_numbered {X} P xs i x is so_far here n y below e =
    elim (cases_order n i) [
      | inl same ↦
          let at : ℕ → Type 0 = λ k. slice_get xs k ≡ Some y in
          let read : get_or xs i x ≡ y = found_read xs i y x (subst at same e) in
          let it : x ≡ y = cc in
          let Q : X → Type 0 = λ z. P i z in
          let R : ℕ → Type 0 = λ k. P k y in
          subst R (sym same) (subst Q it here)
      | inr order ↦ elim order [
        | inl less ↦ so_far n y less e
        | inr more ↦ absurd (omega (arith, below, more))
      ]
    ]
