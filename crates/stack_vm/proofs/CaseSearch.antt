-- The search of a label among Cases in order.
use Rattle.std.proofs.Common.{◌≡◌, ◌≢◌, ◌≤◌, ◌<◌, ◌≤ℤ◌, ◌<ℤ◌, ℕ, true, false, List, length, get_or, ℤ, Contains, int_lt, inl, inr, refl, sym, ap, ◌∙◌, arith}
use Rattle.std.specs.Cmp.{IsTotalOrder}
use Rattle.std.specs.List.Sorted.{IsPartitionPoint, IsPartitionedBy}
use Rattle.std.specs.Ordering.{int_cmp, nat_cmp, is_lt, ordering_then, MatchOrdering}
use Rattle.std.specs.declared.cmp.Ordering.{Ordering}
use Rattle.std.specs.declared.cmp.Ordering.TheVariants.{Less, Equal, Greater}
use Rattle.std.proofs.lemmas.Bool.{cases_lt}
use Rattle.std.proofs.lemmas.Cmp.{int_cmp_total, int_ranked, nat_cmp_total, on_total, ranked, then_total}
use Rattle.std.proofs.lemmas.Int.{ints}
use Rattle.std.proofs.lemmas.List.{get_or_default}
use Rattle.std.proofs.lemmas.List.Sorted.{ranks_by, sorted_far}
use Rattle.stack_vm.specs.Cases.{AreInOrder, IsFirstWith}

-- labels, and then places
abbrev by_label : ℤ × ℕ → ℤ × ℕ → Ordering
by_label x y = ordering_then (int_cmp x.0 y.0) (nat_cmp x.1 y.1)

by_label_total : IsTotalOrder by_label
by_label_total = then_total (on_total (λ (x : ℤ × ℕ). x.0) int_cmp_total) (on_total (λ (x : ℤ × ℕ). x.1) nat_cmp_total)

-- a Case comes no later than another: its label is no greater, and where they are equal its place
record ComesBefore (x y : ℤ × ℕ) : Type 0 where
  label : x.0 ≤ℤ y.0
  place : x.0 ≡ y.0 → x.1 ≤ y.1

places : (a b : ℕ) (o : Ordering) → MatchOrdering o (b < a) (b ≡ a) (a < b) → is_lt o ≡ false → a ≤ b
places a b Less h e = absurd (cc)
places a b Equal h e = omega (arith, h)
places a b Greater h e = omega (arith, h)

before : (x y : ℤ × ℕ) (o : Ordering) → MatchOrdering o (y.0 <ℤ x.0) (y.0 ≡ x.0) (x.0 <ℤ y.0) → is_lt (ordering_then o (nat_cmp y.1 x.1)) ≡ false → ComesBefore x y
before x y Less h e = absurd (cc)
before x y Equal h e = record {
  label = omega (arith, ints, h);
  place = λ _. places x.1 y.1 (nat_cmp y.1 x.1) (ranked y.1 x.1 (nat_cmp y.1 x.1) refl) e;
}
before x y Greater h e = record { label = omega (arith, ints, h); place = λ same. absurd (omega (arith, ints, h, same)) }

module _ (cases : List (ℤ × ℕ)) (in_order : AreInOrder cases) where
  comes_before : (i j : ℕ) (d : ℤ × ℕ) → i ≤ j → j < length cases → ComesBefore (get_or cases i d) (get_or cases j d)
  comes_before i j d h below =
      let x = get_or cases i d in
      let y = get_or cases j d in
      before x y (int_cmp y.0 x.0) (int_ranked y.0 x.0 (int_cmp y.0 x.0) refl)
      (sorted_far (λ x y. is_lt (by_label x y)) (ranks_by by_label_total (λ (x : ℤ × ℕ). x)) cases in_order i j d h below)

  -- Cases in order are parted by a label
  pub parted : (label : ℤ) → IsPartitionedBy (λ case. int_lt case.0 label) cases
  parted label i j d h below less =
      let b = (comes_before i j d h below).label in
      grind (arith, ints, b, less)

  module _ (label : ℤ) (at : ℕ) (point : IsPartitionPoint (λ case. int_lt case.0 label ≡ true) (λ case. int_lt case.0 label ≡ false) cases at) where
    -- a Case with the label comes no earlier than where they are parted
    no_earlier : (k : ℕ) (d : ℤ × ℕ) → (get_or cases k d).0 ≡ label → at ≤ k
    no_earlier k d e = elim (cases_lt k at) [
      | inl below ↦ (let l = point.0 k d (omega arith) below in absurd (grind (arith, ints, l, e)))
      | inr above ↦ above
    ]

    -- where the Case there has the label, it is the first one
    pub is_first : (d : ℤ × ℕ) → at < length cases → (get_or cases at d).0 ≡ label → IsFirstWith label cases (get_or cases at d).1
    is_first d below e = record {
      is_there = (at, below, get_or_default cases at (label, (get_or cases at d).1) d below ∙ ap (λ (l : ℤ). (l, (get_or cases at d).1)) e);
      first = λ other is.
          let k = is.0 in
          let there : get_or cases k d ≡ (label, other) = get_or_default cases k d (label, other) is.1 ∙ is.2 in
          let l : (get_or cases k d).0 ≡ label = ap (λ (c : ℤ × ℕ). c.0) there in
          let p : (get_or cases k d).1 ≡ other = ap (λ (c : ℤ × ℕ). c.1) there in
          let b = (comes_before at k d (no_earlier k d l) is.1).place (e ∙ sym l) in
          omega (arith, b, p);
    }

    -- where none there has the label, none has it
    pub is_none : (d : ℤ × ℕ) → (at < length cases → (get_or cases at d).0 ≢ label) → (place : ℕ) → Contains cases (label, place) → ⊥
    is_none d other place is =
        let k = is.0 in
        let there : get_or cases k d ≡ (label, place) = get_or_default cases k d (label, place) is.1 ∙ is.2 in
        let l : (get_or cases k d).0 ≡ label = ap (λ (c : ℤ × ℕ). c.0) there in
        let h = no_earlier k d l in
        let below : at < length cases = omega (arith, h, is.1) in
        let b = (comes_before at k d h is.1).label in
        let not_less = point.1 at d (omega arith) below in
        other below (grind (arith, ints, b, not_less, l))
