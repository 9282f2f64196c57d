-- Selectors of one rank and their keys.
use Rattle.std.proofs.Common.{◌≡◌, ℕ, ◌<◌, ◌≤◌, ◌+◌, ◌∙◌, List, length, get_or, Some, None, Bool, true, false, ◌-◌, refl, sym, ap, arith, inl, inr}
use Rattle.std.specs.Prelude.{◌==◌, ◌&&◌, nat_le, All, AllPairs, ⊤}
use Rattle.std.specs.List.{filter_map}
use Rattle.std.specs.List.Sorted.{IsNonDecreasingBy}
use Rattle.std.proofs.lemmas.Bool.{and_from, cases_eq, cond-true, eq-eqb, eqb-true, le-leb, leb-true}
use Rattle.std.proofs.lemmas.Option.{cond_some, none-some}
use Rattle.bytecode.specs.Inside.Distinct.{AreApartIn, AreSpansApart, span_in}
use Rattle.bytecode.specs.declared.distinct.Span.{Span}
use Rattle.run_effects.specs.Effect.{AreApart}
use Rattle.run_effects.specs.declared.event.Selector.{Selector}
use Rattle.bytecode.proofs.GivenLemmas.{All-given, AllPairs-given, AllPairs-giving}

-- ---- one rank

both : (a b : Bool) → (a && b) ≡ true → (a ≡ true) × (b ≡ true)
both true b e = (refl, e)
both false b e = absurd (cc)

-- a selector that has a span is of the rank, and these are its keys, of which there are some
pub record HasSpan (rank : ℕ) (selector : Selector) (span : Span) : Type 0 where
  pub of_rank : selector.rank ≡ rank
  pub some_key : selector.low ≤ selector.high
  pub low : span.low ≡ selector.low
  pub high : span.high ≡ selector.high

has_span : (rank : ℕ) (selector : Selector) (span : Span) → span_in rank selector ≡ Some span → HasSpan rank selector span
has_span rank selector span e =
    let found = cond_some (selector.rank == rank && nat_le selector.low selector.high) _ span e in
    let parts = both _ _ found.0 in
    record {
      of_rank = eqb-true _ _ parts.0;
      some_key = leb-true _ _ parts.1;
      low = sym (ap (λ (s : Span). s.low) found.1);
      high = sym (ap (λ (s : Span). s.high) found.1);
    }

-- one that has none is of another rank, or has no key
no_span : (rank : ℕ) (selector : Selector) → span_in rank selector ≡ None → selector.rank ≡ rank → selector.low ≤ selector.high → ⊥
no_span rank selector e of_rank some =
    none-some _ (sym e ∙ cond-true (selector.rank == rank && nat_le selector.low selector.high) _ _ (and_from _ _ (eq-eqb _ _ of_rank) (le-leb _ _ some)))

-- each span has a key
pub some_keys : (rank : ℕ) (selectors : List Selector) → All (λ span. span.low ≤ span.high) (filter_map (span_in rank) selectors)
some_keys rank selectors =
    All-given (span_in rank) (λ _. ⊤) (λ span. span.low ≤ span.high)
    (λ selector span e _. let has = has_span rank selector span e in omega (arith, has.some_key, has.low, has.high)) selectors (λ k d within. tt)

-- selectors of a rank are apart where their spans are
pub apart_of_spans : (rank : ℕ) (selectors : List Selector) → AllPairs AreSpansApart (filter_map (span_in rank) selectors) → AllPairs (AreApartIn rank) selectors
apart_of_spans rank selectors =
    AllPairs-giving (span_in rank) (AreApartIn rank) AreSpansApart
    (λ a b x y of_a of_b apart _ _ key in_a in_b.
    let p = has_span rank a x of_a in
    let q = has_span rank b y of_b in
    apart key (omega (arith, p.low, in_a.from)) (omega (arith, p.high, in_a.to)) (omega (arith, q.low, in_b.from)) (omega (arith, q.high, in_b.to)))
    (λ a b none of_a _ key in_a in_b. no_span rank a none of_a (omega (arith, in_a.from, in_a.to)))
    (λ a b none _ of_b key in_a in_b. no_span rank b none of_b (omega (arith, in_b.from, in_b.to)))
    selectors

-- and their spans are where they are
pub spans_of_apart : (rank : ℕ) (selectors : List Selector) → AllPairs (AreApartIn rank) selectors → AllPairs AreSpansApart (filter_map (span_in rank) selectors)
spans_of_apart rank selectors =
    AllPairs-given (span_in rank) (AreApartIn rank) AreSpansApart
    (λ a b x y of_a of_b apart key from_x to_x from_y to_y.
    let p = has_span rank a x of_a in
    let q = has_span rank b y of_b in
    apart p.of_rank q.of_rank key
    (record { from = omega (arith, p.low, from_x); to = omega (arith, p.high, to_x) })
    (record { from = omega (arith, q.low, from_y); to = omega (arith, q.high, to_y) }))
    selectors

-- ---- spans by their least keys

-- spans of which each begins behind the one before it have no key in common
pub apart_behind : (spans : List Span) → IsNonDecreasingBy (λ s. s.low) spans →
    ((k : ℕ) (d : Span) → k + 1 < length spans → (get_or spans k d).high < (get_or spans (k + 1) d).low) → AllPairs AreSpansApart spans
apart_behind spans rises behind i j d below within key from_i to_i from_j to_j =
    let next = behind i d (omega (arith, below, within)) in
    let later = rises (i + 1) j d (omega (arith, below)) within in
    omega (arith, next, later, to_i, from_j)

-- one that begins at or before the end of the one before it has a key in common with it
pub key_of_both : (spans : List Span) (i : ℕ) (d : Span) → IsNonDecreasingBy (λ s. s.low) spans → All (λ s. s.low ≤ s.high) spans → 0 < i →
    i < length spans → (get_or spans i d).low ≤ (get_or spans (i - 1) d).high → AllPairs AreSpansApart spans → ⊥
key_of_both spans i d rises some above within touches all =
    let before : i - 1 < i = omega (arith, above) in
    all (i - 1) i d before within (get_or spans i d).low (rises (i - 1) i d (omega (arith, before)) within) touches (omega arith) (some i d within)

-- two spans have no key in common both ways round
pub AreSpansApart-turned : (a b : Span) → AreSpansApart a b → AreSpansApart b a
AreSpansApart-turned a b h key from_b to_b from_a to_a = h key from_a to_a from_b to_b

-- ---- all ranks

-- what is apart in each rank is apart
pub apart_in_ranks : (selectors : List Selector) → All (λ s. s.rank ≤ 2) selectors →
    AllPairs (AreApartIn 0) selectors → AllPairs (AreApartIn 1) selectors → AllPairs (AreApartIn 2) selectors → AllPairs AreApart selectors
apart_in_ranks selectors ranks zero' one' two' i j d below within same =
    let a = get_or selectors i d in
    let b = get_or selectors j d in
    let rank : a.rank ≤ 2 = ranks i d (omega (arith, below, within)) in
    elim (cases_eq a.rank 0) [
      | inl is ↦ zero' i j d below within is (sym same ∙ is)
      | inr more ↦ elim (cases_eq a.rank 1) [
        | inl is ↦ one' i j d below within is (sym same ∙ is)
        | inr greater ↦ (let is : a.rank ≡ 2 = omega (arith, rank, more, greater) in two' i j d below within is (sym same ∙ is))
      ]
    ]

-- what is apart is apart in each rank
pub apart_in_rank : (rank : ℕ) (selectors : List Selector) → AllPairs AreApart selectors → AllPairs (AreApartIn rank) selectors
apart_in_rank rank selectors all i j d below within of_i of_j = all i j d below within (of_i ∙ sym of_j)
