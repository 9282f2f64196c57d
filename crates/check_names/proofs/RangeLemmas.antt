-- Ranges of numbers in a map.
use Rattle.std.proofs.Common.{◌≡◌, ◌≢◌, ◌<◌, ◌≤◌, ◌⊎◌, ℕ, Bool, true, false, List, ◌∷◌, ◌∙◌, ◌||◌, Option, Some, None, inl, inr, arith, refl, rules, ap, sym, subst}
use Rattle.std.specs.Prelude.{IsSome, min, max}
use Rattle.std.specs.BTreeMap.{get}
use Rattle.std.specs.List.{list_any}
use Rattle.std.specs.Ordering.{nat_cmp}
use Rattle.std.proofs.lemmas.Bool.{cases_eq, cases_lt}
use Rattle.std.proofs.lemmas.Bool.Decides.{nat_tests}
use Rattle.check_names.specs.declared.ranges.Ranges.{Ranges}
use Rattle.check_names.specs.Inside.Ranges.{AreApart, AreRanges, AreRangesWith, IsMet, IsMetBy, IsThere, meet}

-- the numbers at which the ranges of two keys end, where the keys are one
same_end : (ranges : Ranges) (start end other last : ℕ) → start ≡ other → IsThere ranges start end → IsThere ranges other last → end ≡ last
same_end ranges start end other last same here there =
    let at : get nat_cmp ranges.ends start ≡ Some last = ap (get nat_cmp ranges.ends) same ∙ there in cc

-- what the test says where it passes
met_both : (a b c d : ℕ) → meet (a, b) (c, d) ≡ true → (a ≤ d) × (c ≤ b)
met_both a b c d is = grind (arith, nat_tests, is)

-- it passes
both_met : (a b c d : ℕ) → a ≤ d → c ≤ b → meet (a, b) (c, d) ≡ true
both_met a b c d one other = grind (arith, nat_tests, one, other)

-- one of two tests passes
either : (a b : Bool) → a || b ≡ true → (a ≡ true) ⊎ (b ≡ true)
either true b is = inl refl
either false b is = inr is

-- the first of two tests passes
or_left : (a b : Bool) → a ≡ true → a || b ≡ true
or_left true b is = refl
or_left false b is = absurd (cc)

-- the second of two tests passes
or_right : (a b : Bool) → b ≡ true → a || b ≡ true
or_right true b is = refl
or_right false b is = is

-- where the last range that begins at most at `high` ends before `low`, none reaches it
pub not_met : (ranges : Ranges) (low high start end : ℕ) → AreApart ranges → IsThere ranges start end → end < low
    → ((q : ℕ) → q ≤ high → IsSome (get nat_cmp ranges.ends q) → q ≤ start) → IsMet ranges low high → ⊥
not_met ranges low high start end are there ends last (s, e, met) =
    let bound : s ≤ start = last s met.begins (subst (λ (o : Option ℕ). IsSome o) (sym met.there) (search rules)) in
    elim (cases_eq s start) [
      | inl same ↦ (let at : e ≡ end = same_end ranges s e start end same met.there there in omega (arith, at, met.ends, ends))
      | inr other ↦ (
          let before = are.apart s e start end met.there there (omega (arith, bound, other)) in
          let forward = are.forward start end there in
          omega (arith, before, forward, met.ends, ends))
    ]

-- a range is met or not as some range of the list is
meets_as : (ranges : Ranges) (all : List (ℕ × ℕ)) (low high : ℕ) (met : Bool) → AreRanges ranges all → low ≤ high
    → (met ≡ true → IsMet ranges low high) → (met ≡ false → IsMet ranges low high → ⊥) → met ≡ list_any (meet (low, high)) all
meets_as ranges all low high true are rises is not = sym (are.met low high rises (is refl))
meets_as ranges all low high false are rises is not = by (list_any (meet (low, high)) all) refl
  where
    by : (b : Bool) → list_any (meet (low, high)) all ≡ b → false ≡ b
    by true some = absurd (not refl (are.meets low high rises some))
    by false none = refl

-- a range that is met before the first was met was met from the start
pub known_since : (was is : Ranges × ℕ × ℕ) (known : Bool) → (known ≡ true → IsMet was.0 was.1 was.2)
    → (known ≡ false → is ≡ was) → IsMet is.0 is.1 is.2 → IsMet was.0 was.1 was.2
known_since was is true known same met = known refl
known_since was is false known same met = subst (λ (now : Ranges × ℕ × ℕ). IsMet now.0 now.1 now.2) (same refl) met

-- what is known of a range when nothing more is met
pub known_as : (was is : Ranges × ℕ × ℕ) (known : Bool) (all : List (ℕ × ℕ)) → AreRanges was.0 all → was.1 ≤ was.2
    → (known ≡ true → IsMet was.0 was.1 was.2) → (known ≡ false → is ≡ was) → (IsMet is.0 is.1 is.2 → ⊥)
    → known ≡ list_any (meet (was.1, was.2)) all
known_as was is known all are rises some same none =
    meets_as was.0 all was.1 was.2 known are rises some
    (λ not. subst (λ (now : Ranges × ℕ × ℕ). IsMet now.0 now.1 now.2 → ⊥) (same not) none)

-- one more range, which may have numbers in common with those of the map
pub with_one : (ranges : Ranges) (all : List (ℕ × ℕ)) (low high : ℕ) → AreRanges ranges all → low ≤ high
    → AreRangesWith ranges low high ((low, high) ∷ all)
with_one ranges all low high are rises = record {
  rises = rises;
  stand = are.stand;
  met = λ least most up is. elim is [
    | inl met ↦ or_right (meet (least, most) (low, high)) (list_any (meet (least, most)) all) (are.met least most up met)
    | inr met ↦ or_left (meet (least, most) (low, high)) (list_any (meet (least, most)) all) met
  ];
  meets = λ least most up is. elim (either (meet (least, most) (low, high)) (list_any (meet (least, most)) all) is) [
    | inl met ↦ inr met
    | inr met ↦ inl (are.meets least most up met)
  ];
}

-- what has a number in common with both of two ranges that are made one has one in common with one of them
split : (least most low high start end : ℕ) → least ≤ most → start ≤ high → low ≤ end → least ≤ max high end → min low start ≤ most
    → ((least ≤ high) × (low ≤ most)) ⊎ ((least ≤ end) × (start ≤ most))
split least most low high start end up begins ends one other = elim (cases_lt most low) [
  | inl below ↦ inr (omega (arith, below, other, up, ends), omega (arith, below, other))
  | inr above ↦ elim (cases_lt high least) [
    | inl past ↦ inr (omega (arith, past, one), omega (arith, past, begins, up))
    | inr within ↦ inl (within, above)
  ]
]

-- a range leaves the map and is made one with the range that is to be added
pub merged : (old new : Ranges) (all : List (ℕ × ℕ)) (low high start end : ℕ) → AreRangesWith old low high all
    → IsMetBy old low high start end → get nat_cmp new.ends start ≡ None
    → ((q : ℕ) → q ≢ start → get nat_cmp new.ends q ≡ get nat_cmp old.ends q)
    → AreRangesWith new (min low start) (max high end) all
merged old new all low high start end are met gone stays = record {
  rises = omega (arith, are.rises);
  stand = record {
    forward = λ a x there. are.stand.forward a x (before a x there);
    apart = λ a x b y one other below. are.stand.apart a x b y (before a x one) (before b y other) below;
  };
  met = λ least most up is. elim is [
    | inl (a, x, by) ↦ are.met least most up (inl (a, x, record { there = before a x by.there; begins = by.begins; ends = by.ends }))
    | inr by ↦ (
        let both = met_both least most (min low start) (max high end) by in
        elim (split least most low high start end up met.begins met.ends both.0 both.1) [
          | inl here ↦ are.met least most up (inr (both_met least most low high here.0 here.1))
          | inr there ↦ are.met least most up (inl (start, end, record { there = met.there; begins = there.1; ends = there.0 }))
        ])
  ];
  meets = λ least most up is. elim (are.meets least most up is) [
    | inl (a, x, by) ↦ elim (cases_eq a start) [
      | inl same ↦ (
          let at : x ≡ end = same_end old a x start end same by.there met.there in
          inr (both_met least most (min low start) (max high end) (omega (arith, by.ends, at)) (omega (arith, by.begins, same))))
      | inr other ↦ inl (a, x, record { there = stays a other ∙ by.there; begins = by.begins; ends = by.ends })
    ]
    | inr by ↦ (
        let both = met_both least most low high by in
        inr (both_met least most (min low start) (max high end) (omega (arith, both.0)) (omega (arith, both.1))))
  ];
}
  where
    before : (a x : ℕ) → IsThere new a x → IsThere old a x
    before a x there = elim (cases_eq a start) [
      | inl same ↦ (let at : get nat_cmp new.ends a ≡ None = ap (get nat_cmp new.ends) same ∙ gone in absurd (cc))
      | inr other ↦ sym (stays a other) ∙ there
    ]

-- a range that has no number in common with those of the map is put there
pub put : (old new : Ranges) (all : List (ℕ × ℕ)) (low high : ℕ) → AreRangesWith old low high all
    → (IsMet old low high → ⊥) → get nat_cmp new.ends low ≡ Some high
    → ((q : ℕ) → q ≢ low → get nat_cmp new.ends q ≡ get nat_cmp old.ends q)
    → AreRanges new all
put old new all low high are free there stays = record {
  stand = record {
    forward = λ a x at. elim (cases_eq a low) [
      | inl same ↦ (let end : x ≡ high = same_end new a x low high same at there in omega (arith, end, same, are.rises))
      | inr other ↦ are.stand.forward a x (sym (stays a other) ∙ at)
    ];
    apart = λ a x b y one two below. elim (cases_eq a low) [
      | inl same ↦ (
          let end : x ≡ high = same_end new a x low high same one there in
          let was = sym (stays b (omega (arith, same, below))) ∙ two in
          elim (cases_lt high b) [
            | inl past ↦ omega (arith, past, end)
            | inr within ↦ absurd (free (b, y, record { there = was; begins = within; ends = omega (arith, are.stand.forward b y was, same, below) }))
          ])
      | inr other ↦ elim (cases_eq b low) [
        | inl same ↦ (
            let was = sym (stays a other) ∙ one in
            elim (cases_lt x low) [
              | inl past ↦ omega (arith, past, same)
              | inr within ↦ absurd (free (a, x, record { there = was; begins = omega (arith, same, below, are.rises); ends = within }))
            ])
        | inr neither ↦ are.stand.apart a x b y (sym (stays a other) ∙ one) (sym (stays b neither) ∙ two) below
      ]
    ];
  };
  met = λ least most up (a, x, by). elim (cases_eq a low) [
    | inl same ↦ (
        let end : x ≡ high = same_end new a x low high same by.there there in
        are.met least most up (inr (both_met least most low high (omega (arith, by.ends, end)) (omega (arith, by.begins, same)))))
    | inr other ↦ are.met least most up (inl (a, x, record { there = sym (stays a other) ∙ by.there; begins = by.begins; ends = by.ends }))
  ];
  meets = λ least most up is. elim (are.meets least most up is) [
    | inl (a, x, by) ↦ elim (cases_eq a low) [
      | inl same ↦ absurd (free (a, x, record { there = by.there; begins = omega (arith, same, are.rises); ends = omega (arith, same, are.stand.forward a x by.there) }))
      | inr other ↦ (a, x, record { there = stays a other ∙ by.there; begins = by.begins; ends = by.ends })
    ]
    | inr by ↦ (let both = met_both least most low high by in (low, high, record { there = there; begins = both.1; ends = both.0 }))
  ];
}
