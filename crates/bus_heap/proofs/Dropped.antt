-- The requests of a list without those of a node.
use Rattle.std.proofs.Common.{◌≡◌, ◌≢◌, ℕ, ◌≤◌, Bool, true, false, not, cond, List, [], ◌∷◌, length, map, eqb, refl, sym, ap, ◌∙◌, inl, inr, arith}
use Rattle.std.specs.Prelude.{Option, None, Some, count_by}
use Rattle.std.specs.List.{All, filter}
use Rattle.std.specs.List.Sorted.{IsPermutation}
use Rattle.std.specs.FinMap.{find, retain_keys, get-from_entries, get-retain_keys, same_map}
use Rattle.std.proofs.lemmas.Bool.Decides.{eqb_tells}
use Rattle.std.proofs.lemmas.List.Elements.{All-head, All-tail, All-cons, All-filter}
use Rattle.std.proofs.lemmas.List.Sums.{sum_by-cons, length-filter, count_by-le-length}
use Rattle.std.proofs.lemmas.List.Sorted.{IsPermutation-cons, All-permutation, length_permutation}
use Rattle.can_frame.specs.Frame.{FrameFields}
use Rattle.can_bus.specs.declared.waiting.Waiting.{Waiting}
use Rattle.can_bus.specs.declared.transmission.Transmission.{Transmission}
use Rattle.can_bus.specs.Waiting.{RequestName, name_cmp, entry_of, requests_of}
use Rattle.can_bus.proofs.Requests.{name_cmp_total, name_cmp-IsAntisymmetric, ties}
use Rattle.bus_heap.specs.Inside.Heap.{is_of_other}
use Rattle.bus_heap.specs.Inside.HeapBus.{AreNamesDistinct, on_bus}
use Rattle.bus_heap.proofs.SetLemmas.{is_named, named, distinct-permutation, requests_of-permutation}
use Rattle.bus_heap.proofs.OnBus.{distinct-waiting}

-- ---- their set
other_named : (q : RequestName) (r : Waiting) → q.0 ≢ r.node → is_named q r ≡ false
other_named q r apart =
    elim (is_named q r) as (λ b. is_named q r ≡ b → b ≡ false) [
      | true ↦ λ e. absurd (apart (λ i. (named q r e i).0))
      | false ↦ λ _. refl
    ] refl

module _ (node : ℕ) (q : RequestName) where
  abbrev kept : List Waiting → List Waiting
  kept rs = filter (is_of_other node) rs

  abbrev at : List Waiting → Option FrameFields
  at rs = find name_cmp q (map entry_of rs)

  find-own : q.0 ≡ node → (rs : List Waiting) → at (kept rs) ≡ None
  find-own own [] = refl
  find-own own (r ∷ rs) =
      elim (eqb_tells r.node node) [
        | inl same ↦ ap (λ b. at (cond (not b) (r ∷ kept rs) (kept rs))) same.0 ∙ find-own own rs
        | inr other ↦
            ap (λ b. at (cond (not b) (r ∷ kept rs) (kept rs))) other.0
            ∙ ap (λ b. cond b (Some r.frame) (at (kept rs))) (other_named q r (λ e. other.1 (sym e ∙ own)))
            ∙ find-own own rs
      ]

  find-other : q.0 ≢ node → (rs : List Waiting) → at (kept rs) ≡ at rs
  find-other apart [] = refl
  find-other apart (r ∷ rs) =
      elim (eqb_tells r.node node) [
        | inl same ↦
            ap (λ b. at (cond (not b) (r ∷ kept rs) (kept rs))) same.0
            ∙ find-other apart rs
            ∙ sym (ap (λ b. cond b (Some r.frame) (at rs)) (other_named q r (λ e. apart (e ∙ same.1))))
        | inr other ↦
            ap (λ b. at (cond (not b) (r ∷ kept rs) (kept rs))) other.0
            ∙ ap (cond (is_named q r) (Some r.frame)) (find-other apart rs)
      ]

  find-kept : (rs : List Waiting) → at (kept rs) ≡ cond (not (eqb q.0 node)) (at rs) None
  find-kept rs =
      elim (eqb_tells q.0 node) [
        | inl own ↦ find-own own.1 rs ∙ sym (ap (λ b. cond (not b) (at rs) None) own.0)
        | inr other ↦ find-other other.1 rs ∙ sym (ap (λ b. cond (not b) (at rs) None) other.0)
      ]

set-kept : (node : ℕ) (rs : List Waiting) → requests_of (filter (is_of_other node) rs) ≡ retain_keys (requests_of rs) (λ name. not (eqb name.0 node))
set-kept node rs =
    let p : RequestName → Bool = λ name. not (eqb name.0 node) in
    same_map name_cmp_total name_cmp-IsAntisymmetric _ _
    (λ q. get-from_entries name_cmp_total (map entry_of (filter (is_of_other node) rs)) q
    ∙ find-kept node q rs
    ∙ ap (λ o. cond (p q) o None) (sym (get-from_entries name_cmp_total (map entry_of rs) q))
    ∙ sym (get-retain_keys (requests_of rs) p q (ties p q)))

-- ---- those on the bus
count-filter : (p q : Waiting → Bool) (rs : List Waiting) → count_by q (filter p rs) ≤ count_by q rs
count-filter p q [] = omega arith
count-filter p q (r ∷ rs) =
    let rest = count-filter p q rs in
    let all = sum_by-cons (λ s. cond (q s) 1 0) r rs in
    elim (p r) as (λ b. count_by q (cond b (r ∷ filter p rs) (filter p rs)) ≤ count_by q (r ∷ rs)) [
      | true ↦ let left = sum_by-cons (λ s. cond (q s) 1 0) r (filter p rs) in omega arith
      | false ↦ omega arith
    ]

-- some of a list of distinct names have distinct names
distinct-filter : (p : Waiting → Bool) (wire : Option Transmission) (rs : List Waiting) → AreNamesDistinct (on_bus wire rs) → AreNamesDistinct (on_bus wire (filter p rs))
distinct-filter p None rs h name = let less = count-filter p (is_named name) rs in let le = h name in omega arith
distinct-filter p (Some t) rs h name =
    let less = count-filter p (is_named name) rs in
    let le = h name in
    let all = sum_by-cons (λ s. cond (is_named name s) 1 0) t.request rs in
    let left = sum_by-cons (λ s. cond (is_named name s) 1 0) t.request (filter p rs) in
    omega arith

All-filter_on_bus : (P : Waiting → Type 0) (p : Waiting → Bool) (wire : Option Transmission) (rs : List Waiting) → All P (on_bus wire rs) → All P (on_bus wire (filter p rs))
All-filter_on_bus P p None rs h = All-filter p P rs h
All-filter_on_bus P p (Some t) rs h = All-cons P t.request (filter p rs) (All-head P t.request rs h) (All-filter p P rs (All-tail P t.request rs h))

on_bus-permutation : (wire : Option Transmission) (xs ys : List Waiting) → IsPermutation xs ys → IsPermutation (on_bus wire xs) (on_bus wire ys)
on_bus-permutation None xs ys moved = moved
on_bus-permutation (Some t) xs ys moved = IsPermutation-cons t.request xs ys moved

length-less : (wire : Option Transmission) (xs ys : List Waiting) → length xs ≤ length ys → length (on_bus wire xs) ≤ length (on_bus wire ys)
length-less None xs ys h = h
length-less (Some t) xs ys h = omega arith

module _ (node : ℕ) (wire : Option Transmission) (rs after : List Waiting) (moved : IsPermutation (filter (is_of_other node) rs) after) where
  -- their set, in any order
  pub requests_of-dropped : AreNamesDistinct (on_bus wire rs) → requests_of after ≡ retain_keys (requests_of rs) (λ name. not (eqb name.0 node))
  requests_of-dropped h =
      requests_of-permutation (filter (is_of_other node) rs) after moved (distinct-waiting wire (filter (is_of_other node) rs) (distinct-filter (is_of_other node) wire rs h))
      ∙ set-kept node rs

  -- their names, with that on the wire, are distinct
  pub distinct-dropped : AreNamesDistinct (on_bus wire rs) → AreNamesDistinct (on_bus wire after)
  distinct-dropped h =
      distinct-permutation (on_bus wire (filter (is_of_other node) rs)) (on_bus wire after) (on_bus-permutation wire (filter (is_of_other node) rs) after moved)
      (distinct-filter (is_of_other node) wire rs h)

  -- what holds of all holds of them
  pub All-dropped : (P : Waiting → Type 0) → All P (on_bus wire rs) → All P (on_bus wire after)
  All-dropped P h =
      All-permutation P (on_bus wire (filter (is_of_other node) rs)) (on_bus wire after) (on_bus-permutation wire (filter (is_of_other node) rs) after moved)
      (All-filter_on_bus P (is_of_other node) wire rs h)

  -- there are no more of them
  pub length-dropped : length (on_bus wire after) ≤ length (on_bus wire rs)
  length-dropped =
      let fewer = count_by-le-length (is_of_other node) rs in
      let count = length-filter (is_of_other node) rs in
      let same = length_permutation (filter (is_of_other node) rs) after moved in
      length-less wire after rs (omega arith)
