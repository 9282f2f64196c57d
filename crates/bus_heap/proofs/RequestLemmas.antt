-- What a request does to the state of a `HeapBus`.
use Rattle.std.proofs.Common.{◌≡◌, ◌≢◌, ℕ, ◌+◌, ◌<◌, ◌≤◌, true, false, cond, ◌&&◌, ◌||◌, List, ◌∷◌, map, get_or, eqb, ltb, refl, sym, ap, subst, ◌∙◌, inl, inr, arith}
use Rattle.std.specs.Prelude.{Option, None, Some, IsTrue, unwrap_or}
use Rattle.std.specs.List.{All, Contains}
use Rattle.std.specs.List.Sorted.{IsPermutation}
use Rattle.std.specs.Option.{option_map}
use Rattle.std.specs.Ordering.{nat_cmp}
use Rattle.std.specs.FinMap as finmap
use Rattle.std.specs.FinMap.{FinMap, entries, entries_sorted, is_sorted}
use Rattle.std.proofs.lemmas.Bool.Decides.{nat_tests, eqb_tells}
use Rattle.std.proofs.lemmas.List.{get_or-map, length-map}
use Rattle.std.proofs.lemmas.List.Elements.{All-cons, All-map, All-weaker, All-contains_itself}
use Rattle.std.proofs.lemmas.List.Sorted.{IsPermutation-sym, IsPermutation-map, All-permutation, sum_by-IsPermutation}
use Rattle.can_frame.specs.Frame.{FrameFields, arbitration_key}
use Rattle.can_bus.specs.declared.waiting.Waiting.{Waiting}
use Rattle.can_bus.specs.declared.transmission.Transmission.{Transmission}
use Rattle.can_bus.specs.Waiting.{goes_before, name_cmp, request_name, entry_of, requests_of, members}
use Rattle.can_bus.specs.Ranks.{IsBelowNext, rank_in, with_rank_in, transmission_with_rank_in}
use Rattle.can_bus.specs.Bus.{BusState, next_number, last_number, rank, with_rank, transmission_with_rank, with_ranks, with_request, after_request}
use Rattle.can_bus.proofs.Precedence.{key_of, goes_before-keys}
use Rattle.can_bus.proofs.Requests.{from_T, map-forth}
use Rattle.can_bus.proofs.NextNumbers.{get-insert_same, get-insert_other, insert-insert}
use Rattle.can_bus.proofs.RankLemmas.{count_on_wire, with_ranks-is}
use Rattle.arbitration.proofs.RankLemmas.{is_earlier, rank_in-le, rank_in-less, node-with_rank_in, number-with_rank_in, number-other_rank, in_order-ranks}
use Rattle.arbitration.proofs.RequestLemmas.{rank-is, new_request}
use Rattle.bus_heap.specs.Inside.Heap.{IsHeap}
use Rattle.bus_heap.specs.Inside.HeapBus.{AreNamesDistinct}
use Rattle.bus_heap.proofs.HeapLemmas.{by_same}
use Rattle.bus_heap.proofs.SetLemmas.{is_named, named, distinct-permutation, distinct-cons, distinct-sorted, requests_of-permutation, requests_of-more, members-permutation}

-- ---- a request under its node's next number
-- has a name of its own
other_names : (s : BusState) (rs : List Waiting) (node n : ℕ) (f : FrameFields) → All (IsBelowNext s) rs → n ≡ next_number s node → All (λ t. is_named (request_name (new_request node n f)) t ≡ false) rs
other_names s rs node n f below is =
    All-weaker (IsBelowNext s) (λ t. is_named (node, n) t ≡ false)
    (λ t less. elim (is_named (node, n) t) as (λ b. is_named (node, n) t ≡ b → b ≡ false) [
      | true ↦ λ e.
          let name = named (node, n) t e in
          let number : n ≡ t.number = λ i. (name i).1 in
          let same : next_number s t.node ≡ n = ap (next_number s) (λ i. (sym name i).0) ∙ sym is in
          absurd (omega arith)
      | false ↦ λ _. refl
    ] refl) rs below

-- so the names stay distinct
pub distinct-request : (s : BusState) (rs : List Waiting) (node n : ℕ) (f : FrameFields) → All (IsBelowNext s) rs → n ≡ next_number s node → AreNamesDistinct rs → AreNamesDistinct (new_request node n f ∷ rs)
distinct-request s rs node n f below is distinct = distinct-cons (new_request node n f) rs (other_names s rs node n f below is) distinct

-- the numbers stay below the next ones
module _ (s : BusState) (next : FinMap nat_cmp ℕ) (node n number : ℕ) (is : n ≡ next_number s node) (new : next ≡ finmap.insert s.next node number) where
  next_other : (q : ℕ) → q ≢ node → unwrap_or (finmap.get next q) 0 ≡ next_number s q
  next_other q e = ap (λ m. unwrap_or (finmap.get m q) 0) new ∙ ap (λ o. unwrap_or o 0) (get-insert_other s.next node number q e)

  next_same : (q : ℕ) → q ≡ node → unwrap_or (finmap.get next q) 0 ≡ number
  next_same q e =
      ap (λ m. unwrap_or (finmap.get next m) 0) e ∙ ap (λ m. unwrap_or (finmap.get m node) 0) new ∙ ap (λ o. unwrap_or o 0) (get-insert_same s.next node number)

  still_below : n ≤ number → (t : Waiting) → IsBelowNext s t → t.number < unwrap_or (finmap.get next t.node) 0
  still_below more t h =
      elim (eqb_tells t.node node) [
        | inl own ↦
            let new_next = next_same t.node own.1 in
            let old_next : next_number s t.node ≡ n = ap (next_number s) own.1 ∙ sym is in
            omega arith
        | inr other ↦ let same = next_other t.node other.1 in omega arith
      ]

-- ---- a request under a number before the last
-- the state behind is that after the request
pub after_request-early : (s : BusState) (rs after : List Waiting) (node n : ℕ) (f : FrameFields) (next : FinMap nat_cmp ℕ)
    → s.waiting ≡ requests_of rs → AreNamesDistinct rs → All (IsBelowNext s) rs → n ≡ next_number s node → n < last_number
    → IsPermutation (new_request node n f ∷ rs) after → next ≡ finmap.insert s.next node (n + 1)
    → ◌≡◌ {A = BusState} (record s { waiting = requests_of after; next = next }) (after_request s node f)
after_request-early s rs after node n f next set distinct below is early moved new =
    let early_test : eqb (next_number s node) last_number ≡ false = let h : next_number s node ≡ n = sym is in grind (arith, nat_tests) in
    let waits : requests_of after ≡ finmap.insert s.waiting (node, next_number s node) f =
    requests_of-more rs after (new_request node n f) moved (distinct-request s rs node n f below is distinct)
    ∙ ap (λ w. finmap.insert w (node, n) f) (sym set)
    ∙ ap (λ k. finmap.insert s.waiting (node, k) f) is in
    let counts : next ≡ finmap.insert s.next node (next_number s node + 1) = new ∙ ap (λ k. finmap.insert s.next node (k + 1)) is in
    (λ i. record s { waiting = waits i; next = counts i })
    ∙ ap (λ b. with_request (cond b (with_ranks s node) s) node f) (sym early_test)

-- the numbers stay below the next ones
pub below-early : (s : BusState) (rs after : List Waiting) (node n : ℕ) (f : FrameFields) (next : FinMap nat_cmp ℕ)
    → All (IsBelowNext s) rs → n ≡ next_number s node → IsPermutation (new_request node n f ∷ rs) after → next ≡ finmap.insert s.next node (n + 1)
    → All (λ (t : Waiting). t.number < unwrap_or (finmap.get next t.node) 0) after
below-early s rs after node n f next below is moved new =
    let P : Waiting → Type 0 = λ t. t.number < unwrap_or (finmap.get next t.node) 0 in
    All-permutation P (new_request node n f ∷ rs) after moved
    (All-cons P (new_request node n f) rs
    (let same = next_same s next node n (n + 1) is new node refl in omega arith)
    (All-weaker (IsBelowNext s) P (still_below s next node n (n + 1) is new (omega arith)) rs below))

-- ---- ranks in the set and in the list
in_order-members : (rs : List Waiting) → IsTrue (is_sorted name_cmp (map entry_of (members (requests_of rs))))
in_order-members rs =
    let es = entries (requests_of rs) in
    subst (λ fs. IsTrue (is_sorted name_cmp fs)) (sym (map-forth es)) (from_T _ (entries_sorted (requests_of rs)))

-- ranks do not depend on the order of a list
rank_in-permutation : (xs ys : List Waiting) (wire : Option Transmission) (node number : ℕ) → IsPermutation xs ys → rank_in ys wire node number ≡ rank_in xs wire node number
rank_in-permutation xs ys wire node number moved =
    ap (λ k. k + count_on_wire wire node number) (sum_by-IsPermutation (λ r. cond (is_earlier node number r) 1 0) xs ys moved)

-- the rank by the set is that by the list
rank-list : (s : BusState) (rs : List Waiting) (node number : ℕ) → s.waiting ≡ requests_of rs → AreNamesDistinct rs → rank s node number ≡ rank_in rs s.wire node number
rank-list s rs node number set distinct =
    let ms = members (requests_of rs) in
    let moved = members-permutation rs distinct in
    rank-is s ms node number (set ∙ sym (requests_of-permutation rs ms moved distinct)) (in_order-members rs)
    ∙ rank_in-permutation rs ms s.wire node number moved

with_rank-list : (s : BusState) (rs : List Waiting) (node : ℕ) → s.waiting ≡ requests_of rs → AreNamesDistinct rs → (u : Waiting) → with_rank s node u ≡ with_rank_in rs s.wire node u
with_rank-list s rs node set distinct u = ap (λ m. cond (eqb u.node node) (record u { number = m }) u) (rank-list s rs node u.number set distinct)

-- with ranks the names stay distinct
pub distinct-ranks : (rs : List Waiting) (wire : Option Transmission) (node : ℕ) → AreNamesDistinct rs → AreNamesDistinct (map (with_rank_in rs wire node) rs)
distinct-ranks rs wire node distinct =
    let ms = members (requests_of rs) in
    let moved = members-permutation rs distinct in
    let g : Waiting → Waiting = with_rank_in rs wire node in
    let alike : (u : Waiting) → with_rank_in ms wire node u ≡ g u =
    λ u. ap (λ m. cond (eqb u.node node) (record u { number = m }) u) (rank_in-permutation rs ms wire node u.number moved) in
    let sorted : AreNamesDistinct (map (with_rank_in ms wire node) ms) = distinct-sorted (map (with_rank_in ms wire node) ms) (in_order-ranks ms wire node (in_order-members rs)) in
    let maps : map (with_rank_in ms wire node) ms ≡ map g ms = λ i. map (λ u. alike u i) ms in
    distinct-permutation (map g ms) (map g rs) (IsPermutation-sym (map g rs) (map g ms) (IsPermutation-map g rs ms moved)) (subst AreNamesDistinct maps sorted)

-- the set with ranks is that of the list with ranks
requests_of-ranks : (s : BusState) (rs : List Waiting) (node : ℕ) → s.waiting ≡ requests_of rs → AreNamesDistinct rs
    → requests_of (map (with_rank s node) (members s.waiting)) ≡ requests_of (map (with_rank_in rs s.wire node) rs)
requests_of-ranks s rs node set distinct =
    let ms = members (requests_of rs) in
    let g : Waiting → Waiting = with_rank_in rs s.wire node in
    ap (λ w. requests_of (map (with_rank s node) (members w))) set
    ∙ (λ i. requests_of (map (λ u. with_rank-list s rs node set distinct u i) ms))
    ∙ requests_of-permutation (map g rs) (map g ms) (IsPermutation-map g rs ms (members-permutation rs distinct)) (distinct-ranks rs s.wire node distinct)

transmission_alike : (s : BusState) (rs : List Waiting) (wire : Option Transmission) (node : ℕ)
    → ((t : Waiting) → with_rank s node t ≡ with_rank_in rs wire node t) → (w : Option Transmission)
    → option_map (transmission_with_rank_in rs wire node) w ≡ option_map (transmission_with_rank s node) w
transmission_alike s rs wire node same None = refl
transmission_alike s rs wire node same (Some w) = λ i. Some (record { request = sym (same w.request) i; end = w.end })

-- ---- a request under the last number
-- a request of the node has a lesser rank than the number
rises : (s : BusState) (rs : List Waiting) (wire : Option Transmission) (node n : ℕ) → n ≡ next_number s node → (u : Waiting) → Contains rs u → IsBelowNext s u → u.node ≡ node
    → (with_rank_in rs wire node u).number < rank_in rs wire node n
rises s rs wire node n is u in' less own =
    let value = number-with_rank_in rs wire node u own in
    let same : next_number s u.node ≡ n = ap (next_number s) own ∙ sym is in
    let P : ℕ → Type 0 = λ m. rank_in rs wire m u.number < rank_in rs wire m n in
    let more = subst P own (rank_in-less rs wire u n in' (omega arith)) in
    omega arith

-- what holds of each request of a list and of its place in it
both_all : (P Q : Waiting → Type 0) (rs : List Waiting) → All P rs → All Q rs → All (λ u. P u × Q u) rs
both_all P Q rs h g k d low = (h k d low, g k d low)

-- no other request has the name of one behind all ranks
other_names-ranks : (s : BusState) (rs : List Waiting) (wire : Option Transmission) (node n : ℕ) (f : FrameFields) → All (IsBelowNext s) rs → n ≡ next_number s node
    → All (λ t. is_named (node, rank_in rs wire node n) t ≡ false) (map (with_rank_in rs wire node) rs)
other_names-ranks s rs wire node n f below is =
    let g : Waiting → Waiting = with_rank_in rs wire node in
    let e : ℕ = rank_in rs wire node n in
    All-map (λ t. is_named (node, e) t ≡ false) g rs
    (All-weaker (λ u. Contains rs u × IsBelowNext s u) (λ u. is_named (node, e) (g u) ≡ false)
    (λ u h. elim (is_named (node, e) (g u)) as (λ b. is_named (node, e) (g u) ≡ b → b ≡ false) [
      | true ↦ λ t.
          let name = named (node, e) (g u) t in
          let number : e ≡ (g u).number = λ i. (name i).1 in
          let own : u.node ≡ node = sym (node-with_rank_in rs wire node u) ∙ (λ i. (sym name i).0) in
          let less = rises s rs wire node n is u h.0 h.1 own in
          absurd (omega arith)
      | false ↦ λ _. refl
    ] refl) rs (both_all (Contains rs) (IsBelowNext s) rs (All-contains_itself rs) below))

-- so the names stay distinct
pub distinct-last : (s : BusState) (rs : List Waiting) (wire : Option Transmission) (node n : ℕ) (f : FrameFields) → All (IsBelowNext s) rs → n ≡ next_number s node → AreNamesDistinct rs
    → AreNamesDistinct (new_request node (rank_in rs wire node n) f ∷ map (with_rank_in rs wire node) rs)
distinct-last s rs wire node n f below is distinct =
    distinct-cons (new_request node (rank_in rs wire node n) f) (map (with_rank_in rs wire node) rs) (other_names-ranks s rs wire node n f below is) (distinct-ranks rs wire node distinct)

-- the state behind, with ranks, is that after the request
pub after_request-last : (s : BusState) (rs after : List Waiting) (node n : ℕ) (f : FrameFields) (next : FinMap nat_cmp ℕ)
    → s.waiting ≡ requests_of rs → AreNamesDistinct rs → All (IsBelowNext s) rs → n ≡ next_number s node → n ≡ last_number
    → IsPermutation (new_request node (rank_in rs s.wire node n) f ∷ map (with_rank_in rs s.wire node) rs) after
    → next ≡ finmap.insert s.next node (rank_in rs s.wire node n + 1)
    → ◌≡◌ {A = BusState}
    (record s { waiting = requests_of after; wire = option_map (transmission_with_rank_in rs s.wire node) s.wire; next = next })
    (after_request s node f)
after_request-last s rs after node n f next set distinct below is last moved new =
    let e : ℕ = rank_in rs s.wire node n in
    let g : Waiting → Waiting = with_rank_in rs s.wire node in
    let s' : BusState = record s {
      waiting = requests_of (map (with_rank s node) (members s.waiting));
      wire = option_map (transmission_with_rank s node) s.wire;
      next = finmap.insert s.next node (rank s node (next_number s node));
    } in
    let count : rank s node (next_number s node) ≡ e = ap (rank s node) (sym is) ∙ rank-list s rs node n set distinct in
    let number : next_number s' node ≡ e = ap (λ o. unwrap_or o 0) (get-insert_same s.next node (rank s node (next_number s node))) ∙ count in
    let waits : requests_of after ≡ finmap.insert s'.waiting (node, next_number s' node) f =
    requests_of-more (map g rs) after (new_request node e f) moved (distinct-last s rs s.wire node n f below is distinct)
    ∙ ap (λ w. finmap.insert w (node, e) f) (sym (requests_of-ranks s rs node set distinct))
    ∙ ap (λ k. finmap.insert s'.waiting (node, k) f) (sym number) in
    let sent : option_map (transmission_with_rank_in rs s.wire node) s.wire ≡ s'.wire = transmission_alike s rs s.wire node (with_rank-list s rs node set distinct) s.wire in
    let counts : next ≡ finmap.insert s'.next node (next_number s' node + 1) =
    new ∙ ap (λ k. finmap.insert s.next node (k + 1)) (sym number) ∙ sym (insert-insert s.next node _ _) in
    let last_test : eqb (next_number s node) last_number ≡ true = let same : next_number s node ≡ last_number = sym is ∙ last in grind (arith, nat_tests) in
    (λ i. record s { waiting = waits i; wire = sent i; next = counts i })
    ∙ ap (λ u. with_request u node f) (sym (with_ranks-is s node))
    ∙ ap (λ b. with_request (cond b (with_ranks s node) s) node f) (sym last_test)

-- the numbers stay below the next ones
pub below-last : (s : BusState) (rs after : List Waiting) (wire : Option Transmission) (node n : ℕ) (f : FrameFields) (next : FinMap nat_cmp ℕ)
    → All (IsBelowNext s) rs → n ≡ next_number s node
    → IsPermutation (new_request node (rank_in rs wire node n) f ∷ map (with_rank_in rs wire node) rs) after
    → next ≡ finmap.insert s.next node (rank_in rs wire node n + 1)
    → All (λ (t : Waiting). t.number < unwrap_or (finmap.get next t.node) 0) after
below-last s rs after wire node n f next below is moved new =
    let e : ℕ = rank_in rs wire node n in
    let g : Waiting → Waiting = with_rank_in rs wire node in
    let P : Waiting → Type 0 = λ t. t.number < unwrap_or (finmap.get next t.node) 0 in
    All-permutation P (new_request node e f ∷ map g rs) after moved
    (All-cons P (new_request node e f) (map g rs)
    (let same = next_same s next node n (e + 1) is new node refl in omega arith)
    (All-map P g rs
    (All-weaker (λ u. Contains rs u × IsBelowNext s u) (λ u. P (g u))
    (λ u h. elim (eqb_tells u.node node) [
      | inl own ↦
          let kept = node-with_rank_in rs wire node u in
          let at = next_same s next node n (e + 1) is new (g u).node (kept ∙ own.1) in
          let less = rises s rs wire node n is u h.0 h.1 own.1 in
          omega arith
      | inr other ↦
          let kept : (g u).node ≡ u.node = node-with_rank_in rs wire node u in
          let at : unwrap_or (finmap.get next (g u).node) 0 ≡ next_number s u.node = ap (λ q. unwrap_or (finmap.get next q) 0) kept ∙ next_other s next node n (e + 1) is new u.node other.1 in
          let value = number-other_rank rs wire node u other.1 in
          let less = h.1 in
          omega arith
    ]) rs (both_all (Contains rs) (IsBelowNext s) rs (All-contains_itself rs) below))))

-- ---- with ranks a heap stays a heap
still_behind : (k l m n p q p' q' : ℕ) → cond (ltb k l) true (cond (ltb l k) false (ltb m n || (eqb m n && ltb p q))) ≡ false → (m ≡ n → q ≤ p → q' ≤ p')
    → cond (ltb k l) true (cond (ltb l k) false (ltb m n || (eqb m n && ltb p' q'))) ≡ false
still_behind k l m n p q p' q' h rise = grind (arith, nat_tests)

ranks_rise : (rs : List Waiting) (wire : Option Transmission) (node : ℕ) (a b : Waiting) → b.node ≡ a.node → a.number ≤ b.number
    → (with_rank_in rs wire node a).number ≤ (with_rank_in rs wire node b).number
ranks_rise rs wire node a b same le =
    elim (eqb_tells a.node node) [
      | inl own ↦
          let left = number-with_rank_in rs wire node a own.1 in
          let right = number-with_rank_in rs wire node b (same ∙ own.1) in
          let more = rank_in-le rs wire node a.number b.number le in
          omega arith
      | inr other ↦
          let left = number-other_rank rs wire node a other.1 in
          let right = number-other_rank rs wire node b (λ e. other.1 (sym same ∙ e)) in
          omega arith
    ]

frame-with_rank_in : (rs : List Waiting) (wire : Option Transmission) (node : ℕ) (u : Waiting) → (with_rank_in rs wire node u).frame ≡ u.frame
frame-with_rank_in rs wire node u =
    elim (eqb u.node node) as (λ b. (cond b (record u { number = rank_in rs wire node u.number }) u).frame ≡ u.frame) [ true ↦ refl | false ↦ refl ]

-- a request that did not go before another does not with ranks
behind-ranks : (rs : List Waiting) (wire : Option Transmission) (node : ℕ) (a b : Waiting) → goes_before b a ≡ false → goes_before (with_rank_in rs wire node b) (with_rank_in rs wire node a) ≡ false
behind-ranks rs wire node a b h =
    let g : Waiting → Waiting = with_rank_in rs wire node in
    let key_a : key_of (g a) ≡ key_of a = ap arbitration_key (frame-with_rank_in rs wire node a) in
    let key_b : key_of (g b) ≡ key_of b = ap arbitration_key (frame-with_rank_in rs wire node b) in
    let node_a : (g a).node ≡ a.node = node-with_rank_in rs wire node a in
    let node_b : (g b).node ≡ b.node = node-with_rank_in rs wire node b in
    goes_before-keys (g b) (g a)
    ∙ (λ i. cond (ltb (key_b i) (key_a i)) true (cond (ltb (key_a i) (key_b i)) false (ltb (node_b i) (node_a i) || (eqb (node_b i) (node_a i) && ltb (g b).number (g a).number))))
    ∙ still_behind (key_of b) (key_of a) b.node a.node b.number a.number (g b).number (g a).number (sym (goes_before-keys b a) ∙ h) (ranks_rise rs wire node a b)

-- so the list stays a heap
pub IsHeap-ranks : (rs : List Waiting) (wire : Option Transmission) (node : ℕ) → IsHeap rs → IsHeap (map (with_rank_in rs wire node) rs)
IsHeap-ranks rs wire node h above below edge low d =
    let g : Waiting → Waiting = with_rank_in rs wire node in
    let long = length-map rs g in
    by_same _ _ _ _ (get_or-map g rs below d d (omega arith)) (get_or-map g rs above d d (omega arith))
    (behind-ranks rs wire node (get_or rs above d) (get_or rs below d) (h above below edge (omega arith) d))
