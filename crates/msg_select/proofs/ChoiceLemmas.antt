-- Selectors by rank, the first of them that holds a key, and the laws of the choice.
use Rattle.std.proofs.Common.{◌≡◌, ℕ, zero, suc, ◌+◌, ◌-◌, ◌<◌, ◌≤◌, List, length, get_or, Bool, false, ltb, inl, inr, arith, refl, ap, sym, ◌∙◌, subst}
use Rattle.std.proofs.lemmas.Bool.{cases_lt}
use Rattle.std.proofs.lemmas.List.{get_or_default}
use Rattle.std.proofs.lemmas.List.Elements.{All-contains, Contains-get_or}
use Rattle.std.proofs.lemmas.List.Sorted.{All-permutation, Contains-permutation, IsPermutation-sym}
use Rattle.std.specs.List.{AllPairs, Contains}
use Rattle.std.specs.List.Sorted.{IsPermutation, IsSortedByKey}
use Rattle.std.specs.Ordering.{nat_cmp, bool_cmp, ordering_then, is_lt}
use Rattle.std.specs.declared.cmp.Ordering.{Ordering}
use Rattle.std.specs.declared.cmp.Ordering.TheVariants.{Less, Equal, Greater}
use Rattle.std.proofs.lemmas.Map.Keys.{ge_from_not_lt}
use Rattle.msg_select.specs.declared.selector.MessageSelector.{MessageSelector}
use Rattle.msg_select.specs.Selection.{Holds, NoneHolds, IsChosen, AreApart, IsOnlyChoice}
use Rattle.msg_select.specs.Inside.Selectors.{AreByRank, IsFirstHolder}

-- what selectors are sorted by
abbrev pub place_key : MessageSelector → ℕ × Bool × ℕ
place_key s = (s.rank, ltb s.high s.low, s.low)

-- its order
abbrev pub place_cmp : ℕ × Bool × ℕ → ℕ × Bool × ℕ → Ordering
place_cmp a b = ordering_then (ordering_then (nat_cmp a.0 b.0) (bool_cmp a.1 b.1)) (nat_cmp a.2 b.2)

-- where the first of two orders says less, so do both
not_less_first : (o p : Ordering) → is_lt (ordering_then o p) ≡ false → is_lt o ≡ false
not_less_first Less p h = h
not_less_first Equal p h = refl
not_less_first Greater p h = refl

-- what does not stand before another has no lesser rank
rank_not_less : (s t : MessageSelector) → is_lt (place_cmp (place_key s) (place_key t)) ≡ false → t.rank ≤ s.rank
rank_not_less s t not_less =
    let ranks = nat_cmp s.rank t.rank in
    let keys = bool_cmp (ltb s.high s.low) (ltb t.high t.low) in
    ge_from_not_lt s.rank t.rank (not_less_first ranks keys (not_less_first (ordering_then ranks keys) (nat_cmp s.low t.low) not_less))

-- ranks that never fall from one selector to the next never fall
climb : (xs : List MessageSelector) → IsSortedByKey place_key place_cmp xs → (d : MessageSelector) (n i : ℕ) → i + suc n < length xs → (get_or xs i d).rank ≤ (get_or xs (i + suc n) d).rank
climb xs sorted d zero i within = rank_not_less (get_or xs (i + 1) d) (get_or xs i d) (sorted i d (omega arith) within)
climb xs sorted d (suc n) i within =
    let nearer = climb xs sorted d n i (omega arith) in
    let next = rank_not_less (get_or xs (i + suc n + 1) d) (get_or xs (i + suc n) d) (sorted (i + suc n) d (omega arith) (omega arith)) in
    let place : i + suc n + 1 ≡ i + suc (suc n) = omega arith in
    subst (λ j. (get_or xs i d).rank ≤ (get_or xs j d).rank) place (omega (arith, nearer, next))

-- a list so sorted has no selector before one of a lesser rank
pub ranks_ascend : (xs : List MessageSelector) → IsSortedByKey place_key place_cmp xs → AreByRank xs
ranks_ascend xs sorted = λ i j d before within.
    let place : i + suc (j - i - 1) ≡ j = omega arith in
    subst (λ k. (get_or xs i d).rank ≤ (get_or xs k d).rank) place (climb xs sorted d (j - i - 1) i (omega (arith, place, within)))

-- no selector behind one has a lesser rank
least_from : (xs : List MessageSelector) (place k : ℕ) (s d : MessageSelector) → AreByRank xs → k < length xs → s ≡ get_or xs place s → place ≤ k → s.rank ≤ (get_or xs k d).rank
least_from xs place k s d by_rank inside read from =
    let rank : MessageSelector → ℕ = λ x. x.rank in
    let here : rank s ≡ rank (get_or xs place s) = ap rank read in
    let there : rank (get_or xs k s) ≡ rank (get_or xs k d) = ap rank (get_or_default xs k s d inside) in
    elim (cases_lt place k) [
      | inl after ↦ omega (arith, by_rank place k s after inside, here, there)
      | inr same ↦
          let place_is : place ≡ k = omega (arith, from, same) in
          omega (arith, here, ap (λ j. rank (get_or xs j s)) place_is, there)
    ]

-- the first selector that holds the key is one of the least rank
pub chosen_at : (xs : List MessageSelector) (key place : ℕ) (s : MessageSelector) → AreByRank xs → IsFirstHolder xs key place → s ≡ get_or xs place s → IsChosen xs key s.handler
chosen_at xs key place s by_rank first read = record {
  chosen = s;
  among = subst (Contains xs) (sym read) (Contains-get_or xs place s first.within);
  holds = subst (Holds key) (sym read) (first.holds s);
  least = λ k d inside held. elim (cases_lt k place) [
    | inl before ↦ absurd (first.before k d (omega arith) before held)
    | inr from ↦ least_from xs place k s d by_rank inside read from
  ];
  is = refl;
}

-- a choice among the same selectors in another order
pub chosen_in_order : (a b : List MessageSelector) (key handler : ℕ) → IsPermutation a b → IsChosen b key handler → IsChosen a key handler
chosen_in_order a b key handler same choice =
    let back = IsPermutation-sym a b same in
    record {
      chosen = choice.chosen;
      among = Contains-permutation b a choice.chosen back choice.among;
      holds = choice.holds;
      least = All-permutation (λ other. Holds key other → choice.chosen.rank ≤ other.rank) b a back choice.least;
      is = choice.is;
    }

-- that no selector holds the key is so in any order
pub none_in_order : (a b : List MessageSelector) (key : ℕ) → IsPermutation a b → NoneHolds b key → NoneHolds a key
none_in_order a b key same none = All-permutation (λ s. Holds key s → ⊥) b a (IsPermutation-sym a b same) none

-- two choices are of the same selector, where those of one rank are apart
apart_at : (xs : List MessageSelector) → AllPairs AreApart xs → (i j : ℕ) (x y : MessageSelector) → i < j → j < length xs → get_or xs i x ≡ x → get_or xs j y ≡ y → AreApart x y
apart_at xs apart i j x y before within here there =
    subst (λ u. AreApart u y) here (subst (λ v. AreApart (get_or xs i x) v) (get_or_default xs j x y within ∙ there) (apart i j x before within))

-- where selectors of one rank are apart, there is one choice at most
pub only_choice : (selectors : List MessageSelector) (key : ℕ) → IsOnlyChoice selectors key
only_choice xs key = λ a b apart one other.
    let i = one.among.0 in
    let j = other.among.0 in
    let up = All-contains (λ s. Holds key s → one.chosen.rank ≤ s.rank) xs other.chosen one.least other.among other.holds in
    let down = All-contains (λ s. Holds key s → other.chosen.rank ≤ s.rank) xs one.chosen other.least one.among one.holds in
    elim (cases_lt i j) [
      | inl before ↦ absurd (apart_at xs apart i j one.chosen other.chosen before other.among.1 one.among.2 other.among.2 (omega (arith, up, down)) key one.holds other.holds)
      | inr from ↦ elim (cases_lt j i) [
        | inl after ↦ absurd (apart_at xs apart j i other.chosen one.chosen after one.among.1 other.among.2 one.among.2 (omega (arith, up, down)) key other.holds one.holds)
        | inr to ↦
            let place : i ≡ j = omega (arith, from, to) in
            let same : one.chosen ≡ other.chosen =
            sym one.among.2 ∙ ap (λ k. get_or xs k one.chosen) place ∙ get_or_default xs j one.chosen other.chosen other.among.1 ∙ other.among.2 in
            sym one.is ∙ ap (λ (s : MessageSelector). s.handler) same ∙ other.is
      ]
    ]
