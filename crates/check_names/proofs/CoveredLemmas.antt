-- Numbers that ranges cover, where most ranges come in ascending order.
use Rattle.std.proofs.Common.{◌≡◌, ◌<◌, ◌≤◌, ◌-◌, ℕ, suc, Some, Bool, true, false, List, [], ◌∷◌, ◌++◌, ◌∙◌, ◌||◌, length, get_or, nat_le, nat_lt, ◌⊎◌, inl, inr, arith, refl, ap, sym, subst}
use Rattle.std.specs.Bool.{OnTrue}
use Rattle.std.specs.List.{list_any, slice_get}
use Rattle.std.specs.List.Sorted.{IsPartitionedBy, IsPartitionPoint}
use Rattle.std.proofs.lemmas.Bool.{OnTrue_from, cases_lt}
use Rattle.std.proofs.lemmas.Bool.Decides.{nat_tests}
use Rattle.std.proofs.lemmas.List.{get_or_append_left, get_or_default, length_push}
use Rattle.std.proofs.lemmas.Option.{get_or_from_slice_get}
use Rattle.std.proofs.Math.Seq.{get_or-append_seam}
use Rattle.std.proofs.lemmas.List.Folds.{list_any-append, list_any_at}
use Rattle.check_names.specs.declared.ranges.Ranges.{Ranges}
use Rattle.check_names.specs.declared.covered.Covered.{Covered}
use Rattle.check_names.specs.Inside.Covered.{Covers, EndBefore, IsRising}
use Rattle.check_names.specs.Inside.Ranges.{AreRanges, meet}

-- ---- ranges that came in order

-- a test that fails at each place fails
none_at : {A : Type 0} (test : A → Bool) (xs : List A) → ((i : ℕ) (d : A) → i < length xs → test (get_or xs i d) ≡ false)
    → list_any test xs ≡ false
none_at test [] fails = refl
none_at test (x ∷ xs) fails = rw (fails 0 x (omega arith)) (none_at test xs (λ i d within. fails (suc i) d (omega (arith, within))))

-- a range ends before a number
abbrev pub ends_before : ℕ → ℕ × ℕ → Bool
ends_before low range = nat_lt range.1 low

-- those that end before a number come first
pub parted : (ranges : List (ℕ × ℕ)) (low : ℕ) → IsRising ranges → IsPartitionedBy (ends_before low) ranges
parted ranges low rising i j d upto within ends = elim (cases_lt i j) [
  | inl before ↦ (
      let apart = rising.apart i j d before within in
      let forward = rising.forward j d within in
      grind (arith, nat_tests, apart, forward, ends))
  | inr from ↦ (
      let same : i ≡ j = omega (arith, upto, from) in
      ap (λ (k : ℕ). ends_before low (get_or ranges k d)) same ∙ ends)
]

-- where the last ends before a number, all do
ends_with : (ranges : List (ℕ × ℕ)) (low : ℕ) (last : ℕ × ℕ) → IsRising ranges → slice_get ranges (length ranges - 1) ≡ Some last
    → nat_lt last.1 low ≡ true → EndBefore ranges low
ends_with ranges low last rising at ends i d within =
    let some : length ranges - 1 < length ranges = omega (arith, within) in
    let is : get_or ranges (length ranges - 1) d ≡ last = get_or_from_slice_get ranges (length ranges - 1) last d at in
    let end = ap (λ (r : ℕ × ℕ). nat_lt r.1 low) is ∙ ends in
    elim (cases_lt i (length ranges - 1)) [
      | inl before ↦ (
          let apart = rising.apart i (length ranges - 1) d before some in
          let forward = rising.forward (length ranges - 1) d some in
          grind (arith, nat_tests, apart, forward, end))
      | inr from ↦ (
          let same : i ≡ length ranges - 1 = omega (arith, from, within) in
          rw same (grind (arith, nat_tests, end)))
    ]

-- the same of a test of the last
pub all_end : (ranges : List (ℕ × ℕ)) (low : ℕ) (last : ℕ × ℕ) → IsRising ranges → Some last ≡ slice_get ranges (length ranges - 1)
    → OnTrue (nat_lt last.1 low) (EndBefore ranges low)
all_end ranges low last rising at = OnTrue_from (nat_lt last.1 low) (EndBefore ranges low) (ends_with ranges low last rising (sym at))

-- the place behind them
abbrev pub IsBehind : List (ℕ × ℕ) → ℕ → ℕ → Type 0
IsBehind ranges low place =
    IsPartitionPoint (λ range. ends_before low range ≡ true) (λ range. ends_before low range ≡ false) ranges place

-- a range that does not end before `low` begins at most at `high`, or none does
pub searched : (ranges : List (ℕ × ℕ)) (low high place : ℕ) (d : ℕ × ℕ) (met : Bool) → IsRising ranges → IsBehind ranges low place
    → place < length ranges → met ≡ nat_le (get_or ranges place d).0 high → met ≡ list_any (meet (low, high)) ranges
searched ranges low high place d true rising behind within is =
    let ends = behind.1 place d (omega arith) within in
    sym (list_any_at (meet (low, high)) ranges place d within (grind (arith, nat_tests, ends, is)))
searched ranges low high place d false rising behind within is = sym (none_at (meet (low, high)) ranges fails)
  where
    fails : (i : ℕ) (e : ℕ × ℕ) → i < length ranges → meet (low, high) (get_or ranges i e) ≡ false
    fails i e inside = elim (cases_lt i place) [
      | inl before ↦ (let ends = behind.0 i e (omega arith) before in grind (arith, nat_tests, ends))
      | inr from ↦ elim (cases_lt place i) [
        | inl past ↦ (
            let apart = rising.apart place i e past inside in
            let forward = rising.forward place e within in
            let at = is ∙ ap (λ (r : ℕ × ℕ). nat_le r.0 high) (get_or_default ranges place d e within) in
            grind (arith, nat_tests, apart, forward, at))
        | inr upto ↦ (
            let same : i ≡ place = omega (arith, from, upto) in
            let at = is ∙ ap (λ (r : ℕ × ℕ). nat_le r.0 high) (get_or_default ranges place d e within)
            ∙ ap (λ (k : ℕ). nat_le (get_or ranges k e).0 high) (sym same) in
            grind (arith, nat_tests, at))
      ]
    ]

-- all end before `low`
pub none_behind : (ranges : List (ℕ × ℕ)) (low high place : ℕ) → IsBehind ranges low place → length ranges ≤ place
    → list_any (meet (low, high)) ranges ≡ false
none_behind ranges low high place behind past = none_at (meet (low, high)) ranges
    (λ i d within. let ends = behind.0 i d (omega arith) (omega (arith, within, past)) in grind (arith, nat_tests, ends))

-- the same, as it was asked of the last
pub none_met : (ranges : List (ℕ × ℕ)) (low high : ℕ) → EndBefore ranges low → list_any (meet (low, high)) ranges ≡ false
none_met ranges low high ends = none_at (meet (low, high)) ranges (λ i d within. let end = ends i d within in grind (arith, nat_tests, end))

-- ---- ranges that came in order or not

-- of two lists and one more range, which is met in one of them or the other
or_first : (m r o : Bool) → (m || (r || o)) ≡ ((r || (m || false)) || o)
or_first true true o = refl
or_first true false o = refl
or_first false true o = refl
or_first false false o = refl

or_second : (m r o : Bool) → (m || (r || o)) ≡ (r || (m || o))
or_second true true o = refl
or_second true false o = refl
or_second false r o = refl

-- what is read at a place of a list with one more element at its end
at_end : (ranges : List (ℕ × ℕ)) (last d : ℕ × ℕ) (i : ℕ) → i < length (ranges ++ last ∷ [])
    → ((i < length ranges) × (get_or (ranges ++ last ∷ []) i d ≡ get_or ranges i d))
    ⊎ ((i ≡ length ranges) × (get_or (ranges ++ last ∷ []) i d ≡ last))
at_end ranges last d i within = elim (cases_lt i (length ranges)) [
  | inl before ↦ inl (before, get_or_append_left ranges (last ∷ []) d i before)
  | inr from ↦ (
      let here : i ≡ length ranges = omega (arith, within, from, length_push ranges last) in
      inr (here, ap (λ (k : ℕ). get_or (ranges ++ last ∷ []) k d) here ∙ get_or-append_seam ranges last [] d))
]

-- a range above those that came in order
pub rising_more : (ranges : List (ℕ × ℕ)) (low high : ℕ) → IsRising ranges → EndBefore ranges low → low ≤ high
    → IsRising (ranges ++ (low, high) ∷ [])
rising_more ranges low high rising ends up = record {
  forward = λ i d within. elim (at_end ranges (low, high) d i within) [
    | inl (before, is) ↦ rw is (rising.forward i d before)
    | inr (here, is) ↦ rw is up
  ];
  apart = λ i j d before within. elim (at_end ranges (low, high) d j within) [
    | inl (inside, is) ↦ rw (is, get_or_append_left ranges ((low, high) ∷ []) d i (omega (arith, before, inside))) (rising.apart i j d before inside)
    | inr (here, is) ↦ rw (is, get_or_append_left ranges ((low, high) ∷ []) d i (omega (arith, before, here))) (ends i d (omega (arith, before, here)))
  ];
}

-- it is kept with them
pub rising_added : (covered : Covered) (all : List (ℕ × ℕ)) (low high : ℕ) → Covers covered all → low ≤ high
    → EndBefore covered.rising.items low → (new : Covered) → new.rising.items ≡ covered.rising.items ++ (low, high) ∷ []
    → new.others ≡ covered.others → Covers new ((low, high) ∷ all)
rising_added covered all low high covers up ends new rising others = record {
  rising = subst IsRising (sym rising) (rising_more covered.rising.items low high covers.rising ends up);
  some = covers.some;
  others = subst (λ (r : Ranges). AreRanges r covers.some) (sym others) covers.others;
  met = λ one.
      ap (λ (b : Bool). meet one (low, high) || b) (covers.met one)
      ∙ or_first (meet one (low, high)) (list_any (meet one) covered.rising.items) (list_any (meet one) covers.some)
      ∙ ap (λ (b : Bool). b || list_any (meet one) covers.some) (sym (list_any-append (meet one) covered.rising.items ((low, high) ∷ [])))
      ∙ ap (λ (l : List (ℕ × ℕ)). list_any (meet one) l || list_any (meet one) covers.some) (sym rising);
}

-- what is known of it
pub rising_known : (covered : Covered) (all : List (ℕ × ℕ)) (low high : ℕ) (known : Bool) → (covers : Covers covered all)
    → EndBefore covered.rising.items low → known ≡ list_any (meet (low, high)) covers.some
    → known ≡ list_any (meet (low, high)) all
rising_known covered all low high known covers ends is =
    is ∙ sym (covers.met (low, high)
    ∙ ap (λ (b : Bool). b || list_any (meet (low, high)) covers.some) (none_met covered.rising.items low high ends))

-- another range
pub other_added : (covered new : Covered) (all : List (ℕ × ℕ)) (low high : ℕ) → (covers : Covers covered all)
    → new.rising.items ≡ covered.rising.items → AreRanges new.others ((low, high) ∷ covers.some) → Covers new ((low, high) ∷ all)
other_added covered new all low high covers rising others = record {
  rising = subst (λ (l : List (ℕ × ℕ)). IsRising l) (sym rising) covers.rising;
  some = (low, high) ∷ covers.some;
  others = others;
  met = λ one.
      ap (λ (b : Bool). meet one (low, high) || b) (covers.met one)
      ∙ or_second (meet one (low, high)) (list_any (meet one) covered.rising.items) (list_any (meet one) covers.some)
      ∙ ap (λ (l : List (ℕ × ℕ)). list_any (meet one) l || (meet one (low, high) || list_any (meet one) covers.some)) (sym rising);
}

-- what is known of it
pub other_known : (covered : Covered) (all : List (ℕ × ℕ)) (low high : ℕ) (rising others : Bool) → (covers : Covers covered all)
    → rising ≡ list_any (meet (low, high)) covered.rising.items → others ≡ list_any (meet (low, high)) covers.some
    → (rising || others) ≡ list_any (meet (low, high)) all
other_known covered all low high rising others covers one other =
    ap (λ (b : Bool). b || others) one
    ∙ ap (λ (b : Bool). list_any (meet (low, high)) covered.rising.items || b) other
    ∙ sym (covers.met (low, high))
