-- A request that rises or sinks in a heap, and the first of a heap.
use Rattle.std.proofs.Common.{◌≡◌, ◌≢◌, ℕ, zero, suc, ◌+◌, ◌-◌, ◌*◌, ◌/◌, ◌<◌, ◌≤◌, Bool, true, false, List, length, get_or, sym, ap, subst, ◌∙◌, inl, inr, arith}
use Rattle.std.specs.List.{All, swap}
use Rattle.std.specs.Cmp.{IsStrictWeakOrder}
use Rattle.std.proofs.lemmas.List.Edits.{swapped_from_swap, length-swap}
use Rattle.std.proofs.lemmas.List.{get_or_default}
use Rattle.std.proofs.lemmas.List.MinMax.{ranks_by}
use Rattle.std.proofs.lemmas.Bool.Decides.{eqb_tells}
use Rattle.can_bus.specs.declared.waiting.Waiting.{Waiting}
use Rattle.can_bus.specs.Waiting.{goes_before}
use Rattle.can_bus.proofs.Precedence.{goes_before-precedence, goes_before-self, precedence_total}
use Rattle.bus_heap.specs.Inside.Heap.{IsBelow, Stays, IsHeapUpTo, IsHeap, IsHeapFrom, IsHeapBehind, IsFirstBelow}

-- to go before is a test of an order in which any two requests compare
pub goes_before-order : IsStrictWeakOrder goes_before
goes_before-order =
    let by_cmp = ranks_by precedence_total (λ (r : Waiting). r) in
    record {
      one_way = λ a b h. goes_before-precedence b a ∙ by_cmp.one_way a b (sym (goes_before-precedence a b) ∙ h);
      chain = λ a b c p q. goes_before-precedence a c ∙ by_cmp.chain a b c (sym (goes_before-precedence a b) ∙ p) (sym (goes_before-precedence b c) ∙ q);
    }

-- the test of two requests that equal two others
pub by_same : (a b x y : Waiting) → a ≡ x → b ≡ y → goes_before x y ≡ false → goes_before a b ≡ false
by_same a b x y p q h = (λ i. goes_before (p i) (q i)) ∙ h

-- the test of the requests at two places, by those that were read there
pub read_test : (rs : List Waiting) (i j : ℕ) (a b : Waiting) (t : Bool) → i < length rs → j < length rs → a ≡ get_or rs i a → b ≡ get_or rs j b → goes_before a b ≡ t
    → (d : Waiting) → goes_before (get_or rs i d) (get_or rs j d) ≡ t
read_test rs i j a b t i_low j_low p q h d =
    (λ k. goes_before ((get_or_default rs i d a i_low ∙ sym p) k) ((get_or_default rs j d b j_low ∙ sym q) k)) ∙ h

-- the request at a place does not go before itself
Stays-self : (rs : List Waiting) (above below : ℕ) → below ≡ above → Stays rs above below
Stays-self rs above below e d =
    by_same _ _ _ _ (ap (λ k. get_or rs k d) e) (λ _. get_or rs above d) (goes_before-self (get_or rs above d))

-- ---- two requests change places
module _ (xs ys : List Waiting) (i j : ℕ) (i_low : i < length xs) (j_low : j < length xs) (is : ys ≡ swap xs i j) where
  at_first : (d : Waiting) → get_or ys i d ≡ get_or xs j d
  at_first d = (swapped_from_swap xs ys i j d i_low j_low is).0

  at_second : (d : Waiting) → get_or ys j d ≡ get_or xs i d
  at_second d = (swapped_from_swap xs ys i j d i_low j_low is).1

  at_other : (k : ℕ) (d : Waiting) → k ≢ i → k ≢ j → get_or ys k d ≡ get_or xs k d
  at_other k d u v = (swapped_from_swap xs ys i j d i_low j_low is).2 k u v

  as_long : length ys ≡ length xs
  as_long = ap length is ∙ length-swap xs i j

-- ---- a request that rises
-- each request but the one at the place is in order with the one above it, and so are those below the
-- place with the one above it
pub record Rises (rs : List Waiting) (place : ℕ) : Type 0 where
  pub within : place ≤ length rs - 1
  pub edges : (above below : ℕ) → IsBelow above below → below < length rs → below ≢ place → Stays rs above below
  pub over : (above below : ℕ) → IsBelow above place → IsBelow place below → below < length rs → Stays rs above below

-- the last request, behind a heap
pub Rises-last : (rs : List Waiting) → IsHeapUpTo (length rs - 1) rs → Rises rs (length rs - 1)
Rises-last rs h = record {
  within = omega arith;
  edges = λ above below edge low other. h above below edge (omega arith);
  over = λ above below edge further low. absurd (omega arith);
}

-- one place up
module _ (xs ys : List Waiting) (place above : ℕ) (up : above ≡ (place - 1) / 2) (down : 0 < place) (is : ys ≡ swap xs place above) (h : Rises xs place)
    (before : (d : Waiting) → goes_before (get_or xs place d) (get_or xs above d) ≡ true) where
  low : place < length xs
  low = let w = h.within in omega arith

  high : above < length xs
  high = let w = h.within in omega arith

  -- the request from the place now stands above, and what stood above goes behind it
  not_before_risen : (d : Waiting) → goes_before (get_or xs above d) (get_or xs place d) ≡ false
  not_before_risen d = goes_before-order.one_way _ _ (before d)

  edge_above : (below : ℕ) → IsBelow above below → below < length ys → Stays ys above below
  edge_above below edge inside d =
      elim (eqb_tells below place) [
        | inl e ↦ by_same _ _ _ _ (ap (λ k. get_or ys k d) e.1 ∙ at_first xs ys place above low high is d) (at_second xs ys place above low high is d) (not_before_risen d)
        | inr other ↦
            let long = as_long xs ys place above low high is in
            by_same _ _ _ _ (at_other xs ys place above low high is below d other.1 (omega arith)) (at_second xs ys place above low high is d)
            (goes_before-order.chain _ _ _ (h.edges above below edge (omega arith) other.1 d) (not_before_risen d))
      ]

  edges_after : (top below : ℕ) → IsBelow top below → below < length ys → below ≢ above → Stays ys top below
  edges_after top below edge inside other =
      let long = as_long xs ys place above low high is in
      elim (eqb_tells top above) [
        | inl e ↦ subst (λ k. Stays ys k below) (sym e.1) (edge_above below (let f : top ≡ above = e.1 in (omega arith, omega arith)) inside)
        | inr apart ↦ elim (eqb_tells top place) [
          | inl e ↦ λ d.
              let f : top ≡ place = e.1 in
              by_same _ _ _ _ (at_other xs ys place above low high is below d (omega arith) other) (ap (λ k. get_or ys k d) e.1 ∙ at_first xs ys place above low high is d)
              (h.over above below (omega arith, omega arith) (omega arith, omega arith) (omega arith) d)
          | inr further ↦ λ d.
              let u : top ≢ above = apart.1 in
              let v : top ≢ place = further.1 in
              let kept : below ≢ place = omega arith in
              by_same _ _ _ _ (at_other xs ys place above low high is below d kept other) (at_other xs ys place above low high is top d v u) (h.edges top below edge (omega arith) kept d)
        ]
      ]

  over_after : (top below : ℕ) → IsBelow top above → IsBelow above below → below < length ys → Stays ys top below
  over_after top below edge further inside d =
      let long = as_long xs ys place above low high is in
      let kept : get_or ys top d ≡ get_or xs top d = at_other xs ys place above low high is top d (omega arith) (omega arith) in
      let over_above : goes_before (get_or xs above d) (get_or xs top d) ≡ false = h.edges top above edge high (omega arith) d in
      elim (eqb_tells below place) [
        | inl e ↦ by_same _ _ _ _ (ap (λ k. get_or ys k d) e.1 ∙ at_first xs ys place above low high is d) kept over_above
        | inr other ↦
            by_same _ _ _ _ (at_other xs ys place above low high is below d other.1 (omega arith)) kept
            (goes_before-order.chain _ _ _ (h.edges above below further (omega arith) other.1 d) over_above)
      ]

  pub Rises-up : Rises ys above
  Rises-up = record {
    within = let long = as_long xs ys place above low high is in omega arith;
    edges = edges_after;
    over = over_after;
  }

-- at the first place it has risen
pub Rises-top : (rs : List Waiting) (place : ℕ) → place ≤ 0 → Rises rs place → IsHeap rs
Rises-top rs place top h above below edge low = h.edges above below edge low (omega arith)

-- and where it does not go before the one above it
pub Rises-rests : (rs : List Waiting) (place above : ℕ) → above ≡ (place - 1) / 2 → Stays rs above place → Rises rs place → IsHeap rs
Rises-rests rs place above up stays h top below edge low =
    elim (eqb_tells below place) [
      | inl e ↦
          let f : below ≡ place = e.1 in
          let g : top ≡ above = omega arith in
          subst (λ k. Stays rs top k) (sym e.1) (subst (λ k. Stays rs k place) (sym g) stays)
      | inr other ↦ h.edges top below edge low other.1
    ]

-- ---- a request that sinks
-- from the start on each request but those below the place is in order with the one above it, and those
-- below the place are with the one above it
pub record Sinks (rs : List Waiting) (start place : ℕ) : Type 0 where
  pub within : place ≤ length rs
  pub behind : start ≤ place
  pub edges : (above below : ℕ) → IsBelow above below → start ≤ above → below < length rs → above ≢ place → Stays rs above below
  pub over : (above below : ℕ) → start ≤ above → IsBelow above place → IsBelow place below → below < length rs → Stays rs above below

-- the request at the start, before others that are in order
pub Sinks-first : (rs : List Waiting) (start : ℕ) → start ≤ length rs → IsHeapBehind start rs → Sinks rs start start
Sinks-first rs start low h = record {
  within = low;
  behind = omega arith;
  edges = λ above below edge from low other. h above below edge (omega arith) low;
  over = λ above below from edge further low. absurd (omega arith);
}

-- one place down
module _ (xs ys : List Waiting) (start place first : ℕ) (is : ys ≡ swap xs place first) (h : Sinks xs start place) (best : IsFirstBelow xs place first)
    (before : (d : Waiting) → goes_before (get_or xs first d) (get_or xs place d) ≡ true) where
  first_low : first < length xs
  first_low = best.within

  place_low : place < length xs
  place_low = let edge = best.below in omega (arith, first_low)

  edges_behind : (above below : ℕ) → IsBelow above below → start ≤ above → below < length ys → above ≢ first → Stays ys above below
  edges_behind above below edge from inside other d =
      let long = as_long xs ys place first place_low first_low is in
      let down = best.below in
      elim (eqb_tells above place) [
        | inl e ↦
            let f : above ≡ place = e.1 in
            let from_place : get_or ys above d ≡ get_or xs first d = ap (λ k. get_or ys k d) e.1 ∙ at_first xs ys place first place_low first_low is d in
            elim (eqb_tells below first) [
              | inl same ↦ by_same _ _ _ _ (ap (λ k. get_or ys k d) same.1 ∙ at_second xs ys place first place_low first_low is d) from_place (goes_before-order.one_way _ _ (before d))
              | inr apart ↦
                  by_same _ _ _ _ (at_other xs ys place first place_low first_low is below d (omega arith) apart.1) from_place
                  (best.goes_first below (omega arith, omega arith) (omega arith) d)
            ]
        | inr apart ↦
            let u : above ≢ place = apart.1 in
            let kept : get_or ys above d ≡ get_or xs above d = at_other xs ys place first place_low first_low is above d u other in
            elim (eqb_tells below place) [
              | inl e ↦
                  let f : below ≡ place = e.1 in
                  by_same _ _ _ _ (ap (λ k. get_or ys k d) e.1 ∙ at_first xs ys place first place_low first_low is d) kept
                  (h.over above first from (omega arith, omega arith) down first_low d)
              | inr further ↦
                  by_same _ _ _ _ (at_other xs ys place first place_low first_low is below d further.1 (omega arith)) kept (h.edges above below edge from (omega arith) u d)
            ]
      ]

  over_behind : (above below : ℕ) → start ≤ above → IsBelow above first → IsBelow first below → below < length ys → Stays ys above below
  over_behind above below from edge further inside d =
      let long = as_long xs ys place first place_low first_low is in
      let down = best.below in
      let behind = h.behind in
      let e : above ≡ place = omega arith in
      by_same _ _ _ _ (at_other xs ys place first place_low first_low is below d (omega arith) (omega arith))
      (ap (λ k. get_or ys k d) e ∙ at_first xs ys place first place_low first_low is d)
      (h.edges first below further (omega arith) (omega arith) (omega arith) d)

  pub Sinks-down : Sinks ys start first
  Sinks-down = record {
    within = let long = as_long xs ys place first place_low first_low is in omega (arith, first_low);
    behind = let down = best.below in let behind = h.behind in omega arith;
    edges = edges_behind;
    over = over_behind;
  }

-- where no request is below it, it has sunk
pub Sinks-end : (rs : List Waiting) (start place : ℕ) → length rs ≤ 2 * place + 1 → Sinks rs start place → IsHeapFrom start rs
Sinks-end rs start place past h above below edge from low = h.edges above below edge from low (omega arith)

-- and where none goes before it
pub Sinks-rests : (rs : List Waiting) (start place first : ℕ) → IsFirstBelow rs place first → Stays rs place first → Sinks rs start place → IsHeapFrom start rs
Sinks-rests rs start place first best stays h above below edge from low =
    elim (eqb_tells above place) [
      | inl e ↦ λ d.
          let f : above ≡ place = e.1 in
          by_same _ _ _ _ (λ _. get_or rs below d) (ap (λ k. get_or rs k d) e.1)
          (goes_before-order.chain _ _ _ (best.goes_first below (omega arith, omega arith) low d) (stays d))
      | inr other ↦ h.edges above below edge from low other.1
    ]

-- what is a heap from the first place on is one
pub IsHeap-from_first : (rs : List Waiting) → IsHeapFrom 0 rs → IsHeap rs
IsHeap-from_first rs h above below edge low = h above below edge (omega arith) low

-- from the middle on nothing is below
pub IsHeapFrom-middle : (rs : List Waiting) → IsHeapFrom (length rs / 2) rs
IsHeapFrom-middle rs above below edge from low = absurd (omega arith)

-- ---- the first of the two below
-- the second of them, where it goes before the first
pub IsFirstBelow-second : (rs : List Waiting) (place below : ℕ) → below ≡ 2 * place + 1 → below + 1 < length rs
    → ((d : Waiting) → goes_before (get_or rs (below + 1) d) (get_or rs below d) ≡ true) → IsFirstBelow rs place (below + 1)
IsFirstBelow-second rs place below is low before = record {
  below = (omega arith, omega arith);
  within = low;
  goes_first = λ k edge inside. elim (eqb_tells k below) [
    | inl e ↦ λ d. by_same _ _ _ _ (ap (λ m. get_or rs m d) e.1) (λ _. get_or rs (below + 1) d) (goes_before-order.one_way _ _ (before d))
    | inr other ↦ let u : k ≢ below = other.1 in Stays-self rs (below + 1) k (omega arith)
  ];
}

-- else the first
pub IsFirstBelow-first : (rs : List Waiting) (place below : ℕ) → below ≡ 2 * place + 1 → below < length rs
    → (below + 1 < length rs → Stays rs below (below + 1)) → IsFirstBelow rs place below
IsFirstBelow-first rs place below is low after = record {
  below = (omega arith, omega arith);
  within = low;
  goes_first = λ k edge inside. elim (eqb_tells k below) [
    | inl e ↦ Stays-self rs below k e.1
    | inr other ↦
        let u : k ≢ below = other.1 in
        let e : k ≡ below + 1 = omega arith in
        subst (λ m. Stays rs below m) (sym e) (after (omega arith))
  ];
}

-- ---- the first of a heap
not_before_top : (rs : List Waiting) → IsHeap rs → (fuel place : ℕ) → place ≤ fuel → place < length rs → Stays rs 0 place
not_before_top rs h zero place le low = Stays-self rs 0 place (omega arith)
not_before_top rs h (suc fuel) place le low =
    elim (eqb_tells place 0) [
      | inl e ↦ Stays-self rs 0 place e.1
      | inr other ↦ λ d.
          let u : place ≢ 0 = other.1 in
          let above : ℕ = (place - 1) / 2 in
          goes_before-order.chain _ _ _ (h above place (omega arith, omega arith) low d) (not_before_top rs h fuel above (omega arith) (omega arith) d)
    ]

-- no request goes before it
pub none_before_first : (rs : List Waiting) (r : Waiting) → IsHeap rs → r ≡ get_or rs 0 r → All (λ other. goes_before other r ≡ false) rs
none_before_first rs r h first k d low =
    by_same _ _ _ _ (get_or_default rs k d r low) first (not_before_top rs h k k (omega arith) low r)
