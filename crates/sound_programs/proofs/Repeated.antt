-- Things of which none is the same as an earlier one.
use Rattle.std.proofs.Common.{◌≡◌, zero, suc, Bool, true, false, List, [], ◌∷◌, ◌++◌, Option, Some, None, refl, sym, ◌∙◌, arith}
use Rattle.std.specs.Prelude.{⊤, AllPairs, filter_map, flat_map, if◌then◌else◌}
use Rattle.std.specs.List.{AllByRecursion, cons_option, list_any}
use Rattle.std.proofs.lemmas.List.Elements.{All-from_recursion, recursion_from_All}
use Rattle.capl_meaning.specs.StatementRules.{repeated}
use Rattle.sound_programs.proofs.Empty.{back, front, full}

-- each thing is so to each later one
abbrev pub Apart : {A : Type 0} → (A → A → Type 0) → List A → Type 0
Apart R [] = ⊤
Apart R (x ∷ xs) = AllByRecursion (λ y. R x y) xs × Apart R xs

-- then any two of them are
pub pairs : {A : Type 0} (R : A → A → Type 0) (xs : List A) → Apart R xs → AllPairs R xs
pairs R [] h i j d less inside = absurd (omega (arith, inside))
pairs R (x ∷ xs) h zero zero d less inside = absurd (omega (arith, less))
pairs R (x ∷ xs) h zero (suc j) d less inside = All-from_recursion (λ y. R x y) xs h.0 j d (omega (arith, inside))
pairs R (x ∷ xs) h (suc i) zero d less inside = absurd (omega (arith, less))
pairs R (x ∷ xs) h (suc i) (suc j) d less inside = pairs R xs h.1 i j d (omega (arith, less)) (omega (arith, inside))

-- and where any two are, each is so to each later one
pub unpairs : {A : Type 0} (R : A → A → Type 0) (xs : List A) → AllPairs R xs → Apart R xs
unpairs R [] h = tt
unpairs R (x ∷ xs) h = (
  recursion_from_All (λ y. R x y) xs (λ k d inside. h 0 (suc k) d (omega arith) (omega (arith, inside))),
  unpairs R xs (λ i j d less inside. h (suc i) (suc j) d (omega (arith, less)) (omega (arith, inside))),
)

module _ {A : Type 0} (same : A → A → Bool) where
  -- none is the same as one that is known before it
  abbrev NoneEarlier : List A → List A → Type 0
  NoneEarlier earlier xs = AllByRecursion (λ x. list_any (same x) earlier ≡ false) xs

  -- no later one is the same as an earlier one
  abbrev Differs : A → A → Type 0
  Differs earlier later = same later earlier ≡ false

  none_split : (x : A) (earlier xs : List A) → NoneEarlier (x ∷ earlier) xs → NoneEarlier earlier xs × AllByRecursion (λ y. Differs x y) xs
  none_split x earlier [] h = (tt, tt)
  none_split x earlier (y ∷ ys) h = go (same y x) refl h.0 (none_split x earlier ys h.1)
    where
      go : (b : Bool) → same y x ≡ b → list_any (same y) (x ∷ earlier) ≡ false → NoneEarlier earlier ys × AllByRecursion (λ y. Differs x y) ys →
          NoneEarlier earlier (y ∷ ys) × AllByRecursion (λ y. Differs x y) (y ∷ ys)
      go true is e rest = absurd (let f : true ≡ false = sym (rw is refl) ∙ e in cc)
      go false is e rest = ((sym (rw is refl) ∙ e, rest.0), (is, rest.1))

  repeated_none : (earlier xs : List A) → repeated same earlier xs ≡ [] → NoneEarlier earlier xs × Apart Differs xs
  repeated_none earlier [] e = (tt, tt)
  repeated_none earlier (x ∷ xs) e =
      go (list_any (same x) earlier) refl (front (if list_any (same x) earlier then x ∷ [] else []) _ e)
      (repeated_none (x ∷ earlier) xs (back (if list_any (same x) earlier then x ∷ [] else []) _ e))
    where
      go : (b : Bool) → list_any (same x) earlier ≡ b → (if b then x ∷ [] else []) ≡ [] → NoneEarlier (x ∷ earlier) xs × Apart Differs xs → NoneEarlier earlier (x ∷ xs) × Apart Differs (x ∷ xs)
      go true is e rest = absurd (full x [] e)
      go false is e rest = let split = none_split x earlier xs rest.0 in ((is, split.0), (split.1, rest.1))

  -- where none is repeated, each differs from each before it
  pub not_repeated : (xs : List A) → repeated same [] xs ≡ [] → Apart (λ earlier later. same later earlier ≡ false) xs
  not_repeated xs e = (repeated_none [] xs e).1

-- ---- what is made of things

module _ {A X : Type 0} (p : A → Option X) where
  -- where later things are apart from one, what is made of them is apart from what is made of it
  kept_behind : (S : A → A → Type 0) (R : X → X → Type 0) → ((a b : A) (x y : X) → S a b → p a ≡ Some x → p b ≡ Some y → R x y) →
      (a : A) (x : X) → p a ≡ Some x → (bs : List A) → AllByRecursion (λ b. S a b) bs → AllByRecursion (λ y. R x y) (filter_map p bs)
  kept_behind S R far a x is [] apart = tt
  kept_behind S R far a x is (b ∷ bs) apart = go (p b) refl (kept_behind S R far a x is bs apart.1)
    where
      go : (o : Option X) → p b ≡ o → AllByRecursion (λ y. R x y) (filter_map p bs) → AllByRecursion (λ y. R x y) (cons_option o (filter_map p bs))
      go None e rest = rest
      go (Some y) e rest = (far a b x y apart.0 is e, rest)

  -- things that are apart make things that are
  pub kept_apart : (S : A → A → Type 0) (R : X → X → Type 0) → ((a b : A) (x y : X) → S a b → p a ≡ Some x → p b ≡ Some y → R x y) → (xs : List A) → Apart S xs → Apart R (filter_map p xs)
  kept_apart S R far [] h = tt
  kept_apart S R far (a ∷ rest) h = go (p a) refl (kept_apart S R far rest h.1)
    where
      go : (o : Option X) → p a ≡ o → Apart R (filter_map p rest) → Apart R (cons_option o (filter_map p rest))
      go None e others = others
      go (Some x) e others = (kept_behind S R far a x e rest h.0, others)

  -- what holds of all that is made
  pub kept_all : (P : X → Type 0) → ((a : A) (x : X) → p a ≡ Some x → P x) → (xs : List A) → AllByRecursion P (filter_map p xs)
  kept_all P each [] = tt
  kept_all P each (a ∷ rest) = go (p a) refl (kept_all P each rest)
    where
      go : (o : Option X) → p a ≡ o → AllByRecursion P (filter_map p rest) → AllByRecursion P (cons_option o (filter_map p rest))
      go None e others = others
      go (Some x) e others = (each a x e, others)

-- ---- lists that are made of things

-- what holds of all of two lists holds of all of both
all_of_both : {X : Type 0} (P : X → Type 0) (xs ys : List X) → AllByRecursion P xs → AllByRecursion P ys → AllByRecursion P (xs ++ ys)
all_of_both P [] ys some others = others
all_of_both P (x ∷ xs) ys some others = (some.0, all_of_both P xs ys some.1 others)

-- things that are apart, before others that are apart and from which they are
apart_both : {X : Type 0} (R : X → X → Type 0) (xs ys : List X) → Apart R xs → Apart R ys → AllByRecursion (λ x. AllByRecursion (λ y. R x y) ys) xs → Apart R (xs ++ ys)
apart_both R [] ys some others far = others
apart_both R (x ∷ xs) ys some others far = (all_of_both (λ y. R x y) xs ys some.0 far.0, apart_both R xs ys some.1 others far.1)

module _ {A X : Type 0} (p : A → List X) where
  abbrev FarFrom : (X → X → Type 0) → List X → List X → Type 0
  FarFrom R xs ys = AllByRecursion (λ x. AllByRecursion (λ y. R x y) ys) xs

  far_from_none : (R : X → X → Type 0) (xs : List X) → FarFrom R xs []
  far_from_none R [] = tt
  far_from_none R (x ∷ xs) = (tt, far_from_none R xs)

  far_from_both : (R : X → X → Type 0) (xs ys zs : List X) → FarFrom R xs ys → FarFrom R xs zs → FarFrom R xs (ys ++ zs)
  far_from_both R [] ys zs one other = tt
  far_from_both R (x ∷ xs) ys zs one other = (all_of_both (λ y. R x y) ys zs one.0 other.0, far_from_both R xs ys zs one.1 other.1)

  far_from_later : (P : A → Type 0) (S : A → A → Type 0) (R : X → X → Type 0) → ((a b : A) → P a → P b → S a b → FarFrom R (p a) (p b))
      → (a : A) → P a → (bs : List A) → AllByRecursion P bs → AllByRecursion (λ b. S a b) bs → FarFrom R (p a) (flat_map p bs)
  far_from_later P S R far a is [] all apart = far_from_none R (p a)
  far_from_later P S R far a is (b ∷ bs) all apart =
      far_from_both R (p a) (p b) (flat_map p bs) (far a b is all.0 apart.0) (far_from_later P S R far a is bs all.1 apart.1)

  -- things that are apart make lists whose items are
  pub lists_apart : (P : A → Type 0) (S : A → A → Type 0) (R : X → X → Type 0) → ((a : A) → P a → Apart R (p a))
      → ((a b : A) → P a → P b → S a b → AllByRecursion (λ x. AllByRecursion (λ y. R x y) (p b)) (p a))
      → (xs : List A) → AllByRecursion P xs → Apart S xs → Apart R (flat_map p xs)
  lists_apart P S R own far [] all apart = tt
  lists_apart P S R own far (a ∷ rest) all apart =
      apart_both R (p a) (flat_map p rest) (own a all.0) (lists_apart P S R own far rest all.1 apart.1)
      (far_from_later P S R far a all.0 rest all.1 apart.0)

  -- what holds of all items
  pub lists_all : (P : A → Type 0) (Q : X → Type 0) → ((a : A) → P a → AllByRecursion Q (p a)) → (xs : List A) → AllByRecursion P xs → AllByRecursion Q (flat_map p xs)
  lists_all P Q each [] all = tt
  lists_all P Q each (a ∷ rest) all = all_of_both Q (p a) (flat_map p rest) (each a all.0) (lists_all P Q each rest all.1)
