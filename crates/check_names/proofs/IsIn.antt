-- Which things stand in lists.
use Rattle.std.proofs.Common.{◌≡◌, ◌⊎◌, List, [], ◌∷◌, ◌++◌, ◌∙◌, zero, suc, inl, inr, arith, refl, ap, sym, subst}
use Rattle.std.specs.Prelude.{map, flat_map}
use Rattle.std.specs.List.{Contains}

-- a thing stands in a list
abbrev pub IsIn : {A : Type 0} → A → List A → Type 0
IsIn x [] = ⊥
IsIn x (y ∷ ys) = (y ≡ x) ⊎ IsIn x ys

-- each thing of one list stands in another
abbrev pub IsWithin : {A : Type 0} → List A → List A → Type 0
IsWithin {A} xs ys = (x : A) → IsIn x xs → IsIn x ys

-- the same as what std says
pub to_contains : {A : Type 0} (x : A) (xs : List A) → IsIn x xs → Contains xs x
to_contains x [] is = absurd is
to_contains x (y ∷ ys) (inl same) = (0, omega arith, same)
to_contains x (y ∷ ys) (inr rest) = let r = to_contains x ys rest in (suc r.0, omega (arith, r.1), r.2)

-- and the other way round
pub from_contains : {A : Type 0} (x : A) (xs : List A) → Contains xs x → IsIn x xs
from_contains x [] is = omega (arith, is.1)
from_contains x (y ∷ ys) (zero, within, is) = inl is
from_contains x (y ∷ ys) (suc k, within, is) = inr (from_contains x ys (k, omega (arith, within), is))

-- in the first of two lists
pub in_left : {A : Type 0} (x : A) (xs ys : List A) → IsIn x xs → IsIn x (xs ++ ys)
in_left x [] ys is = absurd is
in_left x (z ∷ xs) ys (inl same) = inl same
in_left x (z ∷ xs) ys (inr rest) = inr (in_left x xs ys rest)

-- in the second
pub in_right : {A : Type 0} (x : A) (xs ys : List A) → IsIn x ys → IsIn x (xs ++ ys)
in_right x [] ys is = is
in_right x (z ∷ xs) ys is = inr (in_right x xs ys is)

-- in one of two lists
pub in_one : {A : Type 0} (x : A) (xs ys : List A) → IsIn x (xs ++ ys) → IsIn x xs ⊎ IsIn x ys
in_one x [] ys is = inr is
in_one x (z ∷ xs) ys (inl same) = inl (inl same)
in_one x (z ∷ xs) ys (inr rest) = elim (in_one x xs ys rest) [
  | inl one ↦ inl (inr one)
  | inr other ↦ inr other
]

-- two lists behind one another, each within another
pub both_within : {A : Type 0} (xs ys zs us : List A) → IsWithin xs zs → IsWithin ys us → IsWithin (xs ++ ys) (zs ++ us)
both_within xs ys zs us one other = λ x is. elim (in_one x xs ys is) [
  | inl here ↦ in_left x zs us (one x here)
  | inr there ↦ in_right x zs us (other x there)
]

-- two lists behind one another, both within another
pub each_within : {A : Type 0} (xs ys zs : List A) → IsWithin xs zs → IsWithin ys zs → IsWithin (xs ++ ys) zs
each_within xs ys zs one other = λ x is. elim (in_one x xs ys is) [
  | inl here ↦ one x here
  | inr there ↦ other x there
]

-- what one of them is made from
pub from_map : {A B : Type 0} (f : A → B) (b : B) (xs : List A) → IsIn b (map f xs) → (x : A) × IsIn x xs × (f x ≡ b)
from_map f b [] is = absurd is
from_map f b (x ∷ xs) (inl same) = (x, inl refl, same)
from_map f b (x ∷ xs) (inr rest) = let r = from_map f b xs rest in (r.0, inr r.1, r.2)

-- what is made from one of them
pub in_map : {A B : Type 0} (f : A → B) (x : A) (xs : List A) → IsIn x xs → IsIn (f x) (map f xs)
in_map f x [] is = absurd is
in_map f x (y ∷ xs) (inl same) = inl (ap f same)
in_map f x (y ∷ xs) (inr rest) = inr (in_map f x xs rest)

-- from which it comes
pub from_flat_map : {A B : Type 0} (f : A → List B) (b : B) (xs : List A) → IsIn b (flat_map f xs) → (x : A) × IsIn x xs × IsIn b (f x)
from_flat_map f b [] is = absurd is
from_flat_map f b (x ∷ xs) is = elim (in_one b (f x) (flat_map f xs) is) [
  | inl here ↦ (x, inl refl, here)
  | inr there ↦ (let r = from_flat_map f b xs there in (r.0, inr r.1, r.2))
]

-- what comes from one of them
pub in_flat_map : {A B : Type 0} (f : A → List B) (b : B) (x : A) (xs : List A) → IsIn x xs → IsIn b (f x) → IsIn b (flat_map f xs)
in_flat_map f b x [] is here = absurd is
in_flat_map f b x (y ∷ xs) (inl same) here = in_left b (f y) (flat_map f xs) (subst (λ z. IsIn b (f z)) (sym same) here)
in_flat_map f b x (y ∷ xs) (inr rest) here = in_right b (f y) (flat_map f xs) (in_flat_map f b x xs rest here)

-- what comes from each of them, within what comes from each of them in another way
pub flat_within : {A B : Type 0} (f g : A → List B) (xs : List A) → ((x : A) → IsWithin (f x) (g x)) → IsWithin (flat_map f xs) (flat_map g xs)
flat_within f g [] each = λ b is. is
flat_within f g (x ∷ xs) each = both_within (f x) (flat_map f xs) (g x) (flat_map g xs) (each x) (flat_within f g xs each)

-- the same by functions that give the same
pub flat_same : {A B : Type 0} (f g : A → List B) (xs : List A) → ((x : A) → f x ≡ g x) → flat_map f xs ≡ flat_map g xs
flat_same f g [] each = refl
flat_same f g (x ∷ xs) each = ap (λ l. l ++ flat_map f xs) (each x) ∙ ap (λ l. g x ++ l) (flat_same f g xs each)
