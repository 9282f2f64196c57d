-- What a test keeps of a list into which something enters, or which something leaves.
use Rattle.std.proofs.Common.{◌≡◌, ℕ, zero, suc, ◌<◌, Bool, true, false, cond, List, [], ◌∷◌, ◌++◌, length, get_or, take, drop, map, refl, sym, ap, ◌∙◌, arith}
use Rattle.std.specs.Prelude.{insert, remove}
use Rattle.std.specs.List.{filter}
use Rattle.std.proofs.lemmas.List.{take-append-drop}
use Rattle.std.proofs.lemmas.List.Elements.{filter-append}

module _ {X : Type 0} where
  both_empty : (a b : List X) → a ++ b ≡ [] → (a ≡ []) × (b ≡ [])
  both_empty [] b e = (refl, e)
  both_empty (x ∷ a) b e = absurd (cc)

  only_one : (a b : List X) (x y : X) → a ++ x ∷ b ≡ y ∷ [] → (y ≡ x) × (a ≡ []) × (b ≡ [])
  only_one [] b x y e = (cc, refl, cc)
  only_one (z ∷ []) b x y e = absurd (cc)
  only_one (z ∷ w ∷ a) b x y e = absurd (cc)

  -- a list is what stands before an item, the item, and what stands behind it
  pub split_at : (xs : List X) (i : ℕ) (x : X) → i < length xs → x ≡ get_or xs i x → xs ≡ take i xs ++ x ∷ drop (suc i) xs
  split_at [] i x low is = absurd (omega arith)
  split_at (y ∷ xs) zero x low is = ap (λ z. z ∷ xs) (sym is)
  split_at (y ∷ xs) (suc i) x low is = ap (λ zs. y ∷ zs) (split_at xs i x (omega arith) is)

module _ {X : Type 0} (p : X → Bool) where
  -- what a test keeps of a list with one more item
  pub filter-cons : (b : Bool) (x : X) (xs : List X) → p x ≡ b → filter p (x ∷ xs) ≡ cond b (x ∷ filter p xs) (filter p xs)
  filter-cons b x xs e = ap (λ c. cond c (x ∷ filter p xs) (filter p xs)) e

  halves : (xs : List X) (i : ℕ) → filter p (take i xs) ++ filter p (drop i xs) ≡ filter p xs
  halves xs i = sym (filter-append p (take i xs) (drop i xs)) ∙ ap (filter p) (take-append-drop i xs)

  -- an item that fails the test enters
  pub filter-insert_other : (xs : List X) (i : ℕ) (x : X) → p x ≡ false → filter p (insert xs i x) ≡ filter p xs
  filter-insert_other xs i x fails =
      filter-append p (take i xs) (x ∷ drop i xs)
      ∙ ap (λ ys. filter p (take i xs) ++ ys) (filter-cons false x (drop i xs) fails)
      ∙ halves xs i

  -- the first item that passes enters
  pub filter-insert_own : (xs : List X) (i : ℕ) (x : X) → p x ≡ true → filter p xs ≡ [] → filter p (insert xs i x) ≡ x ∷ []
  filter-insert_own xs i x holds none =
      let parts = both_empty (filter p (take i xs)) (filter p (drop i xs)) (halves xs i ∙ none) in
      filter-append p (take i xs) (x ∷ drop i xs)
      ∙ ap (λ ys. filter p (take i xs) ++ ys) (filter-cons true x (drop i xs) holds)
      ∙ (λ j. parts.0 j ++ x ∷ parts.1 j)

  around : (b : Bool) (xs : List X) (i : ℕ) (x : X) → i < length xs → x ≡ get_or xs i x → p x ≡ b
      → filter p xs ≡ filter p (take i xs) ++ cond b (x ∷ filter p (drop (suc i) xs)) (filter p (drop (suc i) xs))
  around b xs i x low is e =
      ap (filter p) (split_at xs i x low is)
      ∙ filter-append p (take i xs) (x ∷ drop (suc i) xs)
      ∙ ap (λ ys. filter p (take i xs) ++ ys) (filter-cons b x (drop (suc i) xs) e)

  -- an item that fails the test leaves
  pub filter-remove_other : (xs : List X) (i : ℕ) (x : X) → i < length xs → x ≡ get_or xs i x → p x ≡ false → filter p (remove xs i) ≡ filter p xs
  filter-remove_other xs i x low is fails =
      filter-append p (take i xs) (drop (suc i) xs) ∙ sym (around false xs i x low is fails)

  -- the one item that passes leaves
  pub filter-remove_own : (xs : List X) (i : ℕ) (x y : X) → i < length xs → x ≡ get_or xs i x → p x ≡ true → filter p xs ≡ y ∷ []
      → (y ≡ x) × (filter p (remove xs i) ≡ [])
  filter-remove_own xs i x y low is holds one =
      let parts = only_one (filter p (take i xs)) (filter p (drop (suc i) xs)) x y (sym (around true xs i x low is holds) ∙ one) in
      (parts.0, filter-append p (take i xs) (drop (suc i) xs) ∙ (λ j. parts.1 j ++ parts.2 j))

  -- a map that the test does not see
  pub filter-map : (g : X → X) → ((x : X) → p (g x) ≡ p x) → (xs : List X) → filter p (map g xs) ≡ map g (filter p xs)
  filter-map g same [] = refl
  filter-map g same (x ∷ xs) =
      (λ i. cond (same x i) (g x ∷ filter-map g same xs i) (filter-map g same xs i))
      ∙ elim (p x) as (λ b. cond b (g x ∷ map g (filter p xs)) (map g (filter p xs)) ≡ map g (cond b (x ∷ filter p xs) (filter p xs))) [
        | true ↦ refl
        | false ↦ refl
      ]

  -- an item that passes is kept
  pub filter-nonempty : (xs : List X) (i : ℕ) (x : X) → i < length xs → x ≡ get_or xs i x → p x ≡ true → filter p xs ≡ [] → ⊥
  filter-nonempty xs i x low is holds none =
      let parts = both_empty (filter p (take i xs)) (x ∷ filter p (drop (suc i) xs)) (sym (around true xs i x low is holds) ∙ none) in
      let gone = parts.1 in absurd (cc)
