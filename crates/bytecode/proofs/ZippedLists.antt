-- Two lists whose items go with one another, place by place.
use Rattle.std.proofs.Common.{◌≡◌, ◌+◌, ℕ, zero, suc, List, [], ◌∷◌, ◌++◌, length, take, drop, slice_get, Some, refl, sym, ap, subst, arith}
use Rattle.std.specs.List.{AllZip}
use Rattle.std.specs.Prelude.{slice_set}

-- the item that goes with one
pub record Partner {A B : Type 0} (R : A → B → Type 0) (x : A) (ys : List B) (i : ℕ) : Type 0 where
  pub item : B
  pub is_there : slice_get ys i ≡ Some item
  pub goes_with : R x item

-- each item has one that goes with it
pub AllZip-partner : {A B : Type 0} (R : A → B → Type 0) (xs : List A) (ys : List B) → AllZip R xs ys →
    (i : ℕ) (x : A) → slice_get xs i ≡ Some x → Partner R x ys i
AllZip-partner R [] ys h i x e = absurd (cc)
AllZip-partner R (a ∷ xs) [] h i x e = absurd h
AllZip-partner R (a ∷ xs) (b ∷ ys) h zero x e =
    let is : a ≡ x = cc in record { item = b; is_there = refl; goes_with = subst (λ z. R z b) is h.0 }
AllZip-partner R (a ∷ xs) (b ∷ ys) h (suc i) x e =
    let p = AllZip-partner R xs ys h.1 i x e in record { item = p.item; is_there = p.is_there; goes_with = p.goes_with }

-- both lists have as many items
pub AllZip-same_length : {A B : Type 0} (R : A → B → Type 0) (xs : List A) (ys : List B) → AllZip R xs ys → length ys ≡ length xs
AllZip-same_length R [] [] h = refl
AllZip-same_length R [] (b ∷ ys) h = absurd h
AllZip-same_length R (a ∷ xs) [] h = absurd h
AllZip-same_length R (a ∷ xs) (b ∷ ys) h = ap suc (AllZip-same_length R xs ys h.1)

-- an item is set to another that goes with the one there
pub AllZip-set : {A B : Type 0} (R : A → B → Type 0) (xs : List A) (ys : List B) → AllZip R xs ys →
    (i : ℕ) (x : A) (y : B) → slice_get xs i ≡ Some x → R x y → AllZip R xs (slice_set ys i y)
AllZip-set R [] ys h i x y e r = absurd (cc)
AllZip-set R (a ∷ xs) [] h i x y e r = absurd h
AllZip-set R (a ∷ xs) (b ∷ ys) h zero x y e r =
    let is : x ≡ a = cc in (subst (λ z. R z y) is r, h.1)
AllZip-set R (a ∷ xs) (b ∷ ys) h (suc i) x y e r = (h.0, AllZip-set R xs ys h.1 i x y e r)

-- new first items, which go with those there
pub AllZip-front : {A B : Type 0} (R : A → B → Type 0) (to : ℕ) (xs : List A) (ys new : List B) → to ≡ length new →
    AllZip R xs ys → AllZip R (take to xs) new → AllZip R xs (new ++ drop to ys)
AllZip-front R zero xs ys [] e h n = h
AllZip-front R zero xs ys (y ∷ new) e h n = absurd (cc)
AllZip-front R (suc to) xs ys [] e h n = absurd (cc)
AllZip-front R (suc to) [] ys (y ∷ new) e h n = absurd n
AllZip-front R (suc to) (a ∷ xs) [] (y ∷ new) e h n = absurd h
AllZip-front R (suc to) (a ∷ xs) (b ∷ ys) (y ∷ new) e h n = (n.0, AllZip-front R to xs ys new (cc) h.1 n.1)

-- new items from a place on, which go with the items there
pub AllZip-splice : {A B : Type 0} (R : A → B → Type 0) (from to : ℕ) (xs : List A) (ys new : List B) → to ≡ from + length new →
    AllZip R xs ys → AllZip R (take (length new) (drop from xs)) new → AllZip R xs (take from ys ++ (new ++ drop to ys))
AllZip-splice R zero to xs ys new e h n =
    let e' : to ≡ length new = omega arith in
    AllZip-front R to xs ys new e' h (subst (λ k. AllZip R (take k xs) new) (sym e') n)
AllZip-splice R (suc from) zero xs ys new e h n = absurd (omega arith)
AllZip-splice R (suc from) (suc to) [] [] [] e h n = h
AllZip-splice R (suc from) (suc to) [] [] (y ∷ new) e h n = absurd n
AllZip-splice R (suc from) (suc to) [] (b ∷ ys) new e h n = absurd h
AllZip-splice R (suc from) (suc to) (a ∷ xs) [] new e h n = absurd h
AllZip-splice R (suc from) (suc to) (a ∷ xs) (b ∷ ys) new e h n = (h.0, AllZip-splice R from to xs ys new (omega arith) h.1 n)

-- the first items go with one another
pub AllZip-take : {A B : Type 0} (R : A → B → Type 0) (n : ℕ) (xs : List A) (ys : List B) → AllZip R xs ys → AllZip R (take n xs) (take n ys)
AllZip-take R zero xs ys h = tt
AllZip-take R (suc n) [] [] h = tt
AllZip-take R (suc n) [] (b ∷ ys) h = absurd h
AllZip-take R (suc n) (a ∷ xs) [] h = absurd h
AllZip-take R (suc n) (a ∷ xs) (b ∷ ys) h = (h.0, AllZip-take R n xs ys h.1)

-- what is left goes with one another
pub AllZip-drop : {A B : Type 0} (R : A → B → Type 0) (n : ℕ) (xs : List A) (ys : List B) → AllZip R xs ys → AllZip R (drop n xs) (drop n ys)
AllZip-drop R zero xs ys h = h
AllZip-drop R (suc n) [] [] h = tt
AllZip-drop R (suc n) [] (b ∷ ys) h = absurd h
AllZip-drop R (suc n) (a ∷ xs) [] h = absurd h
AllZip-drop R (suc n) (a ∷ xs) (b ∷ ys) h = AllZip-drop R n xs ys h.1
