-- Keys by moment have one order.
use Rattle.std.proofs.Common.{◌≡◌, ◌<◌, ◌≤◌, ℕ, suc, Bool, true, false, cond, List, [], ◌∷◌, length, get_or, filter, nat_cmp, is_lt, refl, sym, subst, ◌∙◌, arith, inl, inr}
use Rattle.std.proofs.lemmas.Bool.{cases_order, cond-true, cond-false}
use Rattle.std.proofs.lemmas.Bool.Decides.{nat_tests}
use Rattle.std.proofs.lemmas.List.Sorted.{IsNonDecreasingBy-from_sort}
use Rattle.std.specs.List.Sorted.{IsNonDecreasingBy, ties}
use Rattle.scenario.specs.Scenario.{AreByMoment}
use Rattle.scenario.specs.declared.scenario.KeyItem.{KeyItem}

ties_from : (m n : ℕ) → m ≡ n → ties (λ x y. is_lt (nat_cmp x y)) m n ≡ true
ties_from m n h = grind (arith, nat_tests)

ties_not : (m n : ℕ) → m < n → ties (λ x y. is_lt (nat_cmp x y)) m n ≡ false
ties_not m n h = grind (arith, nat_tests)

abbrev same_moment : KeyItem → KeyItem → Bool
same_moment = ties (λ x y. is_lt (nat_cmp x.at y.at))

same_from : (x y : KeyItem) → x.at ≡ y.at → same_moment x y ≡ true
same_from x y = ties_from x.at y.at

same_not : (x y : KeyItem) → x.at < y.at → same_moment x y ≡ false
same_not x y = ties_not x.at y.at

none_above : (x : KeyItem) (zs : List KeyItem) → ((k : ℕ) (d : KeyItem) → k < length zs → x.at < (get_or zs k d).at) → filter (same_moment x) zs ≡ []
none_above x [] above = refl
none_above x (z ∷ zs) above =
    cond-false _ _ _ (same_not x z (above 0 x (omega arith)))
    ∙ none_above x zs (λ k d within. above (suc k) d (omega arith))

above_all : (x z : KeyItem) (zs : List KeyItem) → IsNonDecreasingBy (λ k. k.at) (z ∷ zs) → x.at < z.at → (k : ℕ) (d : KeyItem) → k < length (z ∷ zs) → x.at < (get_or (z ∷ zs) k d).at
above_all x z zs sorted below k d within =
    let first : z.at ≤ (get_or (z ∷ zs) k d).at = sorted 0 k d (omega arith) within in
    omega arith

none_at : (y z : KeyItem) (ys zs : List KeyItem) → IsNonDecreasingBy (λ k. k.at) (z ∷ zs) → y.at < z.at → filter (same_moment y) (y ∷ ys) ≡ filter (same_moment y) (z ∷ zs) → ⊥
none_at y z ys zs sorted below same =
    let none : filter (same_moment y) (z ∷ zs) ≡ [] = none_above y (z ∷ zs) (above_all y z zs sorted below) in
    let some : filter (same_moment y) (y ∷ ys) ≡ y ∷ filter (same_moment y) ys = cond-true _ _ _ (same_from y y refl) in
    cc

sorted_behind : (z : KeyItem) (zs : List KeyItem) → IsNonDecreasingBy (λ k. k.at) (z ∷ zs) → IsNonDecreasingBy (λ k. k.at) zs
sorted_behind z zs sorted i j d below within = sorted (suc i) (suc j) d (omega arith) (omega arith)

same_head : (y z : KeyItem) (ys zs : List KeyItem) → y.at ≡ z.at → filter (same_moment y) (y ∷ ys) ≡ filter (same_moment y) (z ∷ zs) → y ≡ z
same_head y z ys zs at same =
    let one : filter (same_moment y) (y ∷ ys) ≡ y ∷ filter (same_moment y) ys = cond-true _ _ _ (same_from y y refl) in
    let two : filter (same_moment y) (z ∷ zs) ≡ z ∷ filter (same_moment y) zs = cond-true _ _ _ (same_from y z at) in
    cc

cons_tail : (b : Bool) (z : KeyItem) (ys zs : List KeyItem) → cond b (z ∷ ys) ys ≡ cond b (z ∷ zs) zs → ys ≡ zs
cons_tail true z ys zs same = cc
cons_tail false z ys zs same = same

by_filters : (ys zs : List KeyItem) → IsNonDecreasingBy (λ k. k.at) ys → IsNonDecreasingBy (λ k. k.at) zs → ((x : KeyItem) → filter (same_moment x) ys ≡ filter (same_moment x) zs) → ys ≡ zs
by_filters [] [] sorted also same = refl
by_filters [] (z ∷ zs) sorted also same =
    let some : filter (same_moment z) (z ∷ zs) ≡ z ∷ filter (same_moment z) zs = cond-true _ _ _ (same_from z z refl) in
    let none = same z in
    absurd cc
by_filters (y ∷ ys) [] sorted also same =
    let some : filter (same_moment y) (y ∷ ys) ≡ y ∷ filter (same_moment y) ys = cond-true _ _ _ (same_from y y refl) in
    let none = same y in
    absurd cc
by_filters (y ∷ ys) (z ∷ zs) sorted also same =
    elim (cases_order y.at z.at) [
      | inl at ↦
          let head = same_head y z ys zs at (same y) in
          let tail = by_filters ys zs (sorted_behind y ys sorted) (sorted_behind z zs also)
          (λ x. cons_tail (same_moment x z) z (filter (same_moment x) ys) (filter (same_moment x) zs)
          (subst (λ (k : KeyItem). filter (same_moment x) (k ∷ ys) ≡ filter (same_moment x) (z ∷ zs)) head (same x))) in
          (λ i. head i ∷ tail i)
      | inr order ↦ elim order [
        | inl below ↦ absurd (none_at y z ys zs also below (same y))
        | inr above ↦ absurd (none_at z y zs ys sorted above (sym (same z)))
      ]
    ]

-- keys by moment have one order
pub one_order : (keys one other : List KeyItem) → AreByMoment keys one → AreByMoment keys other → one ≡ other
one_order keys one other is also =
    by_filters one other (IsNonDecreasingBy-from_sort (λ k. k.at) one is.by_moment) (IsNonDecreasingBy-from_sort (λ k. k.at) other also.by_moment)
    (λ x. is.in_file_order x ∙ sym (also.in_file_order x))
