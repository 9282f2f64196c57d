-- Functions that cover places in order: each lies among them, they follow one another, and each place is in one of them.
use Rattle.std.proofs.Common.{◌≡◌, ◌<◌, ◌≤◌, ℕ, zero, suc, List, [], ◌∷◌, slice_get, Some, refl, subst, arith, inl, inr}
use Rattle.std.proofs.lemmas.Bool.{cases_lt, cases_order}
use Rattle.bytecode.specs.declared.code.Fun.{Fun}
use Rattle.bytecode.specs.Rule.{IsIn}
use Rattle.bytecode.specs.Verified.{Cover}

-- a function that covers places among others lies between their first place and their end, and is not empty
pub record LiesBetween (from end : ℕ) (function : Fun) : Type 0 where
  pub starts : from ≤ function.start
  pub nonempty : function.start < function.end
  pub ends : function.end ≤ end

-- the end is not below the first place
pub Cover-ordered : (from : ℕ) (functions : List Fun) (end : ℕ) → Cover from functions end → from ≤ end
Cover-ordered from [] end h = omega (arith, h)
Cover-ordered from (f ∷ fs) end h = let rest = Cover-ordered f.end fs end h.2 in omega (arith, h.1)

-- each function lies between the first place and the end
pub Cover-between : (from : ℕ) (functions : List Fun) (end : ℕ) → Cover from functions end →
    (number : ℕ) (function : Fun) → slice_get functions number ≡ Some function → LiesBetween from end function
Cover-between from [] end h number function e = absurd (cc)
Cover-between from (f ∷ fs) end h zero function e =
    let is : f ≡ function = cc in
    let last = Cover-ordered f.end fs end h.2 in
    subst (λ (g : Fun). LiesBetween from end g) is (record { starts = omega (arith, h.0); nonempty = omega (arith, h.0, h.1); ends = last })
Cover-between from (f ∷ fs) end h (suc number) function e =
    let rest = Cover-between f.end fs end h.2 number function e in
    record { starts = omega (arith, rest.starts, h.1); nonempty = rest.nonempty; ends = rest.ends }

-- a function of a greater number begins at the end of one of a smaller number, or later
pub Cover-follows : (from : ℕ) (functions : List Fun) (end : ℕ) → Cover from functions end →
    (i j : ℕ) (f g : Fun) → slice_get functions i ≡ Some f → slice_get functions j ≡ Some g → i < j → f.end ≤ g.start
Cover-follows from [] end h i j f g e e' below = absurd (cc)
Cover-follows from (x ∷ xs) end h zero zero f g e e' below = absurd (omega arith)
Cover-follows from (x ∷ xs) end h zero (suc j) f g e e' below =
    let is : x ≡ f = cc in
    let later = Cover-between x.end xs end h.2 j g e' in
    subst (λ (y : Fun). y.end ≤ g.start) is later.starts
Cover-follows from (x ∷ xs) end h (suc i) zero f g e e' below = absurd (omega arith)
Cover-follows from (x ∷ xs) end h (suc i) (suc j) f g e e' below =
    Cover-follows x.end xs end h.2 i j f g e e' (omega arith)

-- the function that has a place
pub record HasPlace (functions : List Fun) (place : ℕ) : Type 0 where
  pub number : ℕ
  pub function : Fun
  pub is_there : slice_get functions number ≡ Some function
  pub inside : IsIn function place

-- each place from the first one up to the end is in a function
pub Cover-has : (from : ℕ) (functions : List Fun) (end : ℕ) → Cover from functions end →
    (place : ℕ) → from ≤ place → place < end → HasPlace functions place
Cover-has from [] end h place low high = absurd (omega (arith, h))
Cover-has from (f ∷ fs) end h place low high =
    elim (cases_lt place f.end) [
      | inl below ↦ record { number = 0; function = f; is_there = refl; inside = record { from = omega (arith, h.0); below = below } }
      | inr above ↦ (let rest = Cover-has f.end fs end h.2 place above high in
          record { number = suc rest.number; function = rest.function; is_there = rest.is_there; inside = rest.inside })
    ]

-- a place is in one function alone
pub Cover-once : (from : ℕ) (functions : List Fun) (end : ℕ) → Cover from functions end →
    (i j : ℕ) (f g : Fun) → slice_get functions i ≡ Some f → slice_get functions j ≡ Some g →
    (place : ℕ) → IsIn f place → IsIn g place → i ≡ j
Cover-once from functions end h i j f g e e' place inf ing =
    elim (cases_order i j) [
      | inl same ↦ same
      | inr apart ↦ elim apart [
        | inl below ↦ (let l = Cover-follows from functions end h i j f g e e' below in absurd (omega (arith, l, inf.below, ing.from)))
        | inr above ↦ (let l = Cover-follows from functions end h j i g f e' e above in absurd (omega (arith, l, ing.below, inf.from)))
      ]
    ]
