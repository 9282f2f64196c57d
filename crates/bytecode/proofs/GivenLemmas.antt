-- What holds of items, and of what each, or some of them, give.
use Rattle.std.proofs.Common.{arith, ◌≡◌, zero, suc, List, [], ◌∷◌, ◌++◌, ◌+◌, ◌↔◌, length, get_or, length-append, Option, Some, None, refl, subst}
use Rattle.std.specs.Prelude.{All, AllPairs}
use Rattle.std.specs.List.{cons_option, filter_map, flat_map}
use Rattle.std.proofs.lemmas.List.Elements.{All-append, All-cons, All-head, All-nil, All-tail}
use Rattle.std.proofs.lemmas.List.{get_or_append_left, get_or-append-add}
use Rattle.std.proofs.lemmas.List.Kept.{AllPairs-cons}

-- ---- all items

-- what holds of two lists together holds of each
All-parts : {X : Type 0} (P : X → Type 0) (xs ys : List X) → All P (xs ++ ys) → All P xs × All P ys
All-parts P xs ys h = (
  λ k d within. subst P (get_or_append_left xs ys d k within) (h k d (omega (arith, within, length-append xs ys))),
  λ k d within. subst P (get_or-append-add xs ys k d) (h (length xs + k) d (omega (arith, within, length-append xs ys))),
)

-- P holds of all that each item gives where it holds of all that they give together
pub All-flat_map : {X Y : Type 0} (f : X → List Y) (P : Y → Type 0) (xs : List X) → All (λ x. All P (f x)) xs ↔ All P (flat_map f xs)
All-flat_map f P [] = (λ _. All-nil P, λ _. All-nil (λ x. All P (f x)))
All-flat_map f P (x ∷ xs) =
    let more = All-flat_map f P xs in (
      λ h. All-append P (f x) (flat_map f xs) (All-head (λ y. All P (f y)) x xs h) (more.0 (All-tail (λ y. All P (f y)) x xs h)),
      λ h. let parts = All-parts P (f x) (flat_map f xs) h in All-cons (λ y. All P (f y)) x xs parts.0 (more.1 parts.1),
    )

module _ {X Y : Type 0} (f : X → Option Y) where
  All-added : (P : X → Type 0) (Q : Y → Type 0) → ((x : X) (y : Y) → f x ≡ Some y → P x → Q y) → (x : X) (ys : List Y) → P x → All Q ys →
      (o : Option Y) → f x ≡ o → All Q (cons_option o ys)
  All-added P Q so x ys first rest None e = rest
  All-added P Q so x ys first rest (Some y) e = All-cons Q y ys (so x y e first) rest

  -- what holds of all items, and so of what they give, holds of all that is given
  pub All-given : (P : X → Type 0) (Q : Y → Type 0) → ((x : X) (y : Y) → f x ≡ Some y → P x → Q y) → (xs : List X) → All P xs → All Q (filter_map f xs)
  All-given P Q so [] h = All-nil Q
  All-given P Q so (x ∷ xs) h =
      All-added P Q so x (filter_map f xs) (All-head P x xs h) (All-given P Q so xs (All-tail P x xs h)) (f x) refl

  All-taken_off : (P : X → Type 0) (Q : Y → Type 0) → ((x : X) (y : Y) → f x ≡ Some y → Q y → P x) → ((x : X) → f x ≡ None → P x) →
      (x : X) (ys : List Y) → (o : Option Y) → f x ≡ o → All Q (cons_option o ys) → P x × All Q ys
  All-taken_off P Q so none x ys None e h = (none x e, h)
  All-taken_off P Q so none x ys (Some y) e h = (so x y e (All-head Q y ys h), All-tail Q y ys h)

  -- what holds of all that is given, and so of what gives it, holds of all items, if it holds of those that give nothing
  pub All-giving : (P : X → Type 0) (Q : Y → Type 0) → ((x : X) (y : Y) → f x ≡ Some y → Q y → P x) → ((x : X) → f x ≡ None → P x) →
      (xs : List X) → All Q (filter_map f xs) → All P xs
  All-giving P Q so none [] h = All-nil P
  All-giving P Q so none (x ∷ xs) h =
      let parts = All-taken_off P Q so none x (filter_map f xs) (f x) refl h in
      All-cons P x xs parts.0 (All-giving P Q so none xs parts.1)

-- ---- each two items

module _ {X : Type 0} (R : X → X → Type 0) where
  first_with : (x : X) (xs : List X) → AllPairs R (x ∷ xs) → All (R x) xs
  first_with x xs h k d within = h zero (suc k) d (omega arith) (omega (arith, within))

  others : (x : X) (xs : List X) → AllPairs R (x ∷ xs) → AllPairs R xs
  others x xs h i j d below within = h (suc i) (suc j) d (omega (arith, below)) (omega (arith, within))

module _ {X Y : Type 0} (f : X → Option Y) (R : X → X → Type 0) (S : Y → Y → Type 0) where
  AllPairs-added : ((a b : X) (x y : Y) → f a ≡ Some x → f b ≡ Some y → R a b → S x y) → (a : X) (xs : List X) → All (R a) xs →
      AllPairs S (filter_map f xs) → (o : Option Y) → f a ≡ o → AllPairs S (cons_option o (filter_map f xs))
  AllPairs-added so a xs first rest None e = rest
  AllPairs-added so a xs first rest (Some x) e =
      AllPairs-cons S x (filter_map f xs) (All-given f (R a) (S x) (λ b y of_b r. so a b x y e of_b r) xs first) rest

  -- what holds of each two items holds of each two that are given
  pub AllPairs-given : ((a b : X) (x y : Y) → f a ≡ Some x → f b ≡ Some y → R a b → S x y) → (xs : List X) → AllPairs R xs → AllPairs S (filter_map f xs)
  AllPairs-given so [] h = λ i j d below within. absurd (omega (arith, within))
  AllPairs-given so (a ∷ xs) h =
      AllPairs-added so a xs (first_with R a xs h) (AllPairs-given so xs (others R a xs h)) (f a) refl

  AllPairs-taken_off : ((a b : X) (x y : Y) → f a ≡ Some x → f b ≡ Some y → S x y → R a b) → ((a b : X) → f a ≡ None → R a b) →
      ((a b : X) → f b ≡ None → R a b) → (a : X) (xs : List X) → (o : Option Y) → f a ≡ o → AllPairs S (cons_option o (filter_map f xs)) →
      All (R a) xs × AllPairs S (filter_map f xs)
  AllPairs-taken_off so left right a xs None e h = (λ k d within. left a (get_or xs k d) e, h)
  AllPairs-taken_off so left right a xs (Some x) e h = (
    All-giving f (R a) (S x) (λ b y of_b s. so a b x y e of_b s) (λ b of_b. right a b of_b) xs (first_with S x (filter_map f xs) h),
    others S x (filter_map f xs) h,
  )

  -- what holds of each two that are given holds of each two items, if it holds of two of which one gives nothing
  pub AllPairs-giving : ((a b : X) (x y : Y) → f a ≡ Some x → f b ≡ Some y → S x y → R a b) → ((a b : X) → f a ≡ None → R a b) →
      ((a b : X) → f b ≡ None → R a b) → (xs : List X) → AllPairs S (filter_map f xs) → AllPairs R xs
  AllPairs-giving so left right [] h = λ i j d below within. absurd (omega (arith, within))
  AllPairs-giving so left right (a ∷ xs) h =
      let parts = AllPairs-taken_off so left right a xs (f a) refl h in
      AllPairs-cons R a xs parts.0 (AllPairs-giving so left right xs parts.1)
