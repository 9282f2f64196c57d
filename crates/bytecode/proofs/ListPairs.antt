-- Pairs of a list's items, in any order.
use Rattle.std.proofs.Common.{◌≡◌, ◌≢◌, ◌<◌, ◌≤◌, ◌⊎◌, ◌+◌, ℕ, List, [], ◌∷◌, length, get_or, set, take, length-take, refl, sym, ap, ◌∙◌, subst, arith, inl, inr}
use Rattle.std.specs.Prelude.{All, AllPairs}
use Rattle.std.specs.List.{swap}
use Rattle.std.specs.List.Sorted.{IsPermutation}
use Rattle.std.proofs.lemmas.Bool.{cases_eq, cases_order}
use Rattle.std.proofs.lemmas.List.{get_or-set_other, get_or-set_same, get_or-take, get_or_default, length-set}
use Rattle.std.proofs.lemmas.List.Sorted.{IsPermutation-keeps, IsPermutation-sym}

-- R holds of each item and each other one
abbrev pub AllApart : {X : Type 0} → (X → X → Type 0) → List X → Type 0
AllApart {X} R xs = (i j : ℕ) (d : X) → i ≢ j → i < length xs → j < length xs → R (get_or xs i d) (get_or xs j d)

apart : {X : Type 0} (R : X → X → Type 0) → ((x y : X) → R x y → R y x) → (xs : List X) → AllPairs R xs → AllApart R xs
apart R turn xs h i j d other bi bj =
    elim (cases_order i j) [
      | inl same ↦ absurd (other same)
      | inr order ↦ elim order [
        | inl below ↦ h i j d below bj
        | inr above ↦ turn _ _ (h j i d above bi)
      ]
    ]

pairs : {X : Type 0} (R : X → X → Type 0) (xs : List X) → AllApart R xs → AllPairs R xs
pairs R xs h i j d below bj = h i j d (λ same. omega (arith, same, below)) (omega (arith, below, bj)) bj

-- where an item stood before two were exchanged
record Stood {X : Type 0} (xs : List X) (i j k : ℕ) (d : X) : Type 0 where
  before : ℕ
  there : before < length xs
  is : get_or (swap xs i j) k d ≡ get_or xs before d
  place : ((k ≡ j) × (before ≡ i)) ⊎ ((k ≢ j) × (((k ≡ i) × (before ≡ j)) ⊎ ((k ≢ i) × (before ≡ k))))

stood : {X : Type 0} (xs : List X) (i j k : ℕ) (d : X) → i < length xs → j < length xs → k < length xs → Stood xs i j k d
stood [] i j k d bi bj bk = absurd (omega (arith, bi))
stood (x ∷ xs) i j k d bi bj bk =
    let ys = x ∷ xs in
    let first = set ys i (get_or ys j x) in
    let len : length first ≡ length ys = length-set ys i (get_or ys j x) in
    elim (cases_eq k j) [
      | inl same ↦ record {
        before = i;
        there = bi;
        is = ap (λ n. get_or (set first j (get_or ys i x)) n d) same ∙ get_or-set_same first j (get_or ys i x) d (omega (arith, len, bj)) ∙ get_or_default ys i x d bi;
        place = inl (same, refl);
      }
      | inr other ↦ elim (cases_eq k i) [
        | inl same ↦ record {
          before = j;
          there = bj;
          is = get_or-set_other first j k (get_or ys i x) d other ∙ ap (λ n. get_or first n d) same ∙ get_or-set_same ys i (get_or ys j x) d bi ∙ get_or_default ys j x d bj;
          place = inr (other, inl (same, refl));
        }
        | inr neither ↦ record {
          before = k;
          there = bk;
          is = get_or-set_other first j k (get_or ys i x) d other ∙ get_or-set_other ys i k (get_or ys j x) d neither;
          place = inr (other, inr (neither, refl));
        }
      ]
    ]

-- two places that differ held items of places that differ
differ : (i j a b p q : ℕ) → a ≢ b →
    ((a ≡ j) × (p ≡ i)) ⊎ ((a ≢ j) × (((a ≡ i) × (p ≡ j)) ⊎ ((a ≢ i) × (p ≡ a)))) →
    ((b ≡ j) × (q ≡ i)) ⊎ ((b ≢ j) × (((b ≡ i) × (q ≡ j)) ⊎ ((b ≢ i) × (q ≡ b)))) → p ≢ q
differ i j a b p q other (inl h) (inl k) = absurd (other (h.0 ∙ sym k.0))
differ i j a b p q other (inl h) (inr (k, inl l)) = λ e. k (l.0 ∙ sym h.1 ∙ e ∙ l.1)
differ i j a b p q other (inl h) (inr (k, inr l)) = λ e. l.0 (sym l.1 ∙ sym e ∙ h.1)
differ i j a b p q other (inr (h, inl k)) (inl l) = λ e. h (k.0 ∙ sym l.1 ∙ sym e ∙ k.1)
differ i j a b p q other (inr (h, inl k)) (inr (l, inl n)) = absurd (other (k.0 ∙ sym n.0))
differ i j a b p q other (inr (h, inl k)) (inr (l, inr n)) = λ e. l (sym n.1 ∙ sym e ∙ k.1)
differ i j a b p q other (inr (h, inr k)) (inl l) = λ e. k.0 (sym k.1 ∙ e ∙ l.1)
differ i j a b p q other (inr (h, inr k)) (inr (l, inl n)) = λ e. h (sym k.1 ∙ e ∙ n.1)
differ i j a b p q other (inr (h, inr k)) (inr (l, inr n)) = λ e. other (sym k.1 ∙ e ∙ n.1)

length-swap : {X : Type 0} (xs : List X) (i j : ℕ) → length (swap xs i j) ≡ length xs
length-swap [] i j = refl
length-swap (x ∷ xs) i j =
    length-set (set (x ∷ xs) i (get_or (x ∷ xs) j x)) j (get_or (x ∷ xs) i x) ∙ length-set (x ∷ xs) i (get_or (x ∷ xs) j x)

AllApart-swap : {X : Type 0} (R : X → X → Type 0) (xs : List X) (i j : ℕ) → i < length xs → j < length xs → AllApart R xs → AllApart R (swap xs i j)
AllApart-swap R xs i j bi bj h a b d other ba bb =
    let len = length-swap xs i j in
    let p = stood xs i j a d bi bj (omega (arith, ba, len)) in
    let q = stood xs i j b d bi bj (omega (arith, bb, len)) in
    subst (λ x. R x (get_or (swap xs i j) b d)) (sym p.is)
    (subst (λ y. R (get_or xs p.before d) y) (sym q.is) (h p.before q.before d (differ i j a b p.before q.before other p.place q.place) p.there q.there))

-- what holds of each two items holds of each two in another order, if it holds both ways round
pub AllPairs-permutation : {X : Type 0} (R : X → X → Type 0) → ((x y : X) → R x y → R y x) →
    (xs ys : List X) → IsPermutation xs ys → AllPairs R xs → AllPairs R ys
AllPairs-permutation R turn xs ys moved h =
    pairs R ys (IsPermutation-keeps xs (λ zs. AllApart R zs) (apart R turn xs h) (λ zs i j bi bj k. AllApart-swap R zs i j bi bj k) ys moved)

-- the same, back from the other order
pub AllPairs-permuted : {X : Type 0} (R : X → X → Type 0) → ((x y : X) → R x y → R y x) →
    (xs ys : List X) → IsPermutation xs ys → AllPairs R ys → AllPairs R xs
AllPairs-permuted R turn xs ys moved h = AllPairs-permutation R turn ys xs (IsPermutation-sym xs ys moved) h

-- ---- the first items, one more, and all

-- what holds of the first items, and of the next one, holds of one more
pub All-take_more : {X : Type 0} (P : X → Type 0) (xs : List X) (n : ℕ) → n < length xs → All P (take n xs) → ((d : X) → P (get_or xs n d)) →
    All P (take (n + 1) xs)
All-take_more P xs n within h last k d below =
    let k_small : k < n + 1 = omega (arith, below, length-take (n + 1) xs) in
    let read : get_or (take (n + 1) xs) k d ≡ get_or xs k d = get_or-take (n + 1) xs k d k_small in
    elim (cases_eq k n) [
      | inl same ↦ subst P (sym (read ∙ ap (λ i. get_or xs i d) same)) (last d)
      | inr other ↦ (
          let k_below : k < n = omega (arith, k_small, other) in
          subst P (sym (read ∙ sym (get_or-take n xs k d k_below))) (h k d (omega (arith, k_below, within, length-take n xs))))
    ]

-- what holds of as many first items as there are holds of all
pub All-taken : {X : Type 0} (P : X → Type 0) (xs : List X) (n : ℕ) → length xs ≤ n → All P (take n xs) → All P xs
All-taken P xs n all h k d below =
    subst P (get_or-take n xs k d (omega (arith, below, all))) (h k d (omega (arith, below, all, length-take n xs)))

-- what holds of each two of the first items, and of each with the next one, holds of one more
pub AllPairs-take_more : {X : Type 0} (R : X → X → Type 0) (xs : List X) (n : ℕ) → n < length xs → AllPairs R (take n xs) →
    ((k : ℕ) (d : X) → k < n → R (get_or xs k d) (get_or xs n d)) → AllPairs R (take (n + 1) xs)
AllPairs-take_more R xs n within h last i j d below bj =
    let j_small : j < n + 1 = omega (arith, bj, length-take (n + 1) xs) in
    let first : get_or (take (n + 1) xs) i d ≡ get_or xs i d = get_or-take (n + 1) xs i d (omega (arith, below, j_small)) in
    let second : get_or (take (n + 1) xs) j d ≡ get_or xs j d = get_or-take (n + 1) xs j d j_small in
    let both : R (get_or xs i d) (get_or xs j d) → R (get_or (take (n + 1) xs) i d) (get_or (take (n + 1) xs) j d) =
    λ r. subst (λ x. R x (get_or (take (n + 1) xs) j d)) (sym first) (subst (λ y. R (get_or xs i d) y) (sym second) r) in
    elim (cases_eq j n) [
      | inl same ↦ both (subst (λ k. R (get_or xs i d) (get_or xs k d)) (sym same) (last i d (omega (arith, below, same))))
      | inr other ↦ (
          let j_below : j < n = omega (arith, j_small, other) in
          let before : R (get_or (take n xs) i d) (get_or (take n xs) j d) = h i j d below (omega (arith, j_below, within, length-take n xs)) in
          both (subst (λ x. R x (get_or xs j d)) (get_or-take n xs i d (omega (arith, below, j_below)))
          (subst (λ y. R (get_or (take n xs) i d) y) (get_or-take n xs j d j_below) before)))
    ]

-- what holds of each two of as many first items as there are holds of all
pub AllPairs-taken : {X : Type 0} (R : X → X → Type 0) (xs : List X) (n : ℕ) → length xs ≤ n → AllPairs R (take n xs) → AllPairs R xs
AllPairs-taken R xs n all h i j d below bj =
    subst (λ x. R x (get_or xs j d)) (get_or-take n xs i d (omega (arith, below, bj, all)))
    (subst (λ y. R (get_or (take n xs) i d) y) (get_or-take n xs j d (omega (arith, bj, all))) (h i j d below (omega (arith, bj, all, length-take n xs))))
