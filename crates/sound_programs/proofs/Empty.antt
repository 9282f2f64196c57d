-- Lists of offences that are empty.
use Rattle.std.proofs.Common.{◌≡◌, ℕ, Bool, true, false, List, [], ◌∷◌, ◌++◌, refl}
use Rattle.std.specs.Prelude.{flat_map, map, if◌then◌else◌}
use Rattle.std.specs.List.{AllByRecursion}
use Rattle.capl_meaning.specs.Names.{Scope}
use Rattle.capl_meaning.specs.ExpressionRules.{broken_where, offence}

-- a list with an element is not empty
pub full : {A : Type 0} (x : A) (xs : List A) → x ∷ xs ≡ [] → ⊥
full x xs e = cc

-- the first of two parts is empty
pub front : {A : Type 0} (xs ys : List A) → xs ++ ys ≡ [] → xs ≡ []
front [] ys e = refl
front (x ∷ xs) ys e = absurd (full x (xs ++ ys) e)

-- and so is the second
pub back : {A : Type 0} (xs ys : List A) → xs ++ ys ≡ [] → ys ≡ []
back [] ys e = e
back (x ∷ xs) ys e = absurd (full x (xs ++ ys) e)

-- what is made of an empty list alone is empty
pub unmapped : {A B : Type 0} (f : A → B) (xs : List A) → map f xs ≡ [] → xs ≡ []
unmapped f [] e = refl
unmapped f (x ∷ xs) e = absurd (full (f x) (map f xs) e)

-- each part of a row of parts is empty
pub each_empty : {A B : Type 0} (f : A → List B) (xs : List A) → flat_map f xs ≡ [] → AllByRecursion (λ x. f x ≡ []) xs
each_empty f [] e = tt
each_empty f (x ∷ xs) e = (front (f x) (flat_map f xs) e, each_empty f xs (back (f x) (flat_map f xs) e))

-- a rule is not broken
pub unbroken : (holds : Bool) (s : Scope) (at : ℕ) (number : ℕ) → broken_where holds s at number ≡ [] → holds ≡ false
unbroken true s at number e = absurd (full (offence s at number) [] e)
unbroken false s at number e = refl
