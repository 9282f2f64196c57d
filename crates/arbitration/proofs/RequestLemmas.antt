-- What a request does to the state of a `PlainBus`.
use Rattle.std.proofs.Common.{◌≡◌, ◌≢◌, ℕ, ◌+◌, ◌<◌, ◌≤◌, Bool, true, false, cond, List, [], ◌∷◌, length, map, get_or, take, drop, eqb, ltb, refl, sym, ap, subst, ◌∙◌, inl, inr, arith, ◌&&◌}
use Rattle.std.specs.Prelude.{Option, None, Some, nat_le, unwrap_or, insert, count_by}
use Rattle.std.specs.List.{All, Contains}
use Rattle.std.specs.Option.{option_map}
use Rattle.std.specs.Ordering.{nat_cmp}
use Rattle.std.specs.FinMap as finmap
use Rattle.std.specs.BTreeMap as btree
use Rattle.std.specs.BTreeMap.{BTreeMap, Updates}
use Rattle.std.specs.FinMap.{from_entries, FinMap, entries, retain_keys, len, len-entries}
use Rattle.std.proofs.lemmas.Bool.Decides.{nat_tests, eqb_tells}
use Rattle.std.proofs.lemmas.List.Elements.{All-append, All-take, All-drop, All-cons, All-weaker, All-map, Contains-get_or}
use Rattle.std.proofs.lemmas.List.Sums.{length-filter, sum_by-cons}
use Rattle.can_frame.specs.Frame.{FrameFields}
use Rattle.can_bus.specs.declared.waiting.Waiting.{Waiting}
use Rattle.can_bus.specs.declared.transmission.Transmission.{Transmission}
use Rattle.can_bus.specs.Waiting.{RequestName, request_name, entry_of, requests_of, members}
use Rattle.can_bus.specs.Bus.{BusState, next_number, last_number, rank, with_rank, transmission_with_rank, with_ranks, with_request, after_request}
use Rattle.can_bus.proofs.Requests.{entries-retain_keys, entries-from_entries, members-requests_of}
use Rattle.can_bus.proofs.NextNumbers.{get-map, insert-map, get-insert_same, get-insert_other, insert-insert}
use Rattle.can_bus.proofs.RankLemmas.{count_on_wire, with_ranks-is}
use Rattle.arbitration.specs.Inside.Places.{InOrder, place_behind}
use Rattle.can_bus.specs.Ranks.{IsBelowNext, rank_in, with_rank_in, transmission_with_rank_in, CarriesInRange}
use Rattle.arbitration.specs.Inside.Ranks.{following_number}
use Rattle.arbitration.proofs.ListEdits.{IsLast, requests_of-insert}
use Rattle.arbitration.proofs.RankLemmas.{same_after, rank_in-le, number-other_rank, with_rank_in-insert, own_rank, other_rank, number-with_rank_in, rank_in-less, map_insert, place_behind-map, map_agree, node-with_rank_in}

-- ---- the request is the last of its node
-- a request under its node's next number is the last of its node
pub IsLast-request : (s : BusState) (rs : List Waiting) (node n : ℕ) (f : FrameFields) → All (IsBelowNext s) rs → n ≡ next_number s node → IsLast rs (record { node = node; number = n; frame = f })
IsLast-request s rs node n f below is =
    All-weaker (IsBelowNext s) (λ (t : Waiting). t.node ≡ node → t.number < n)
    (λ t less own. let same : next_number s t.node ≡ n = ap (next_number s) own ∙ sym is in omega arith) rs below

-- the numbers stay below the next ones
module _ (s : BusState) (next : FinMap nat_cmp ℕ) (node n number : ℕ) (is : n ≡ next_number s node) (new : next ≡ finmap.insert s.next node number) (more : n ≤ number) where
  next_other : (q : ℕ) → q ≢ node → unwrap_or (finmap.get next q) 0 ≡ next_number s q
  next_other q e = ap (λ m. unwrap_or (finmap.get m q) 0) new ∙ ap (λ o. unwrap_or o 0) (get-insert_other s.next node number q e)

  next_same : unwrap_or (finmap.get next node) 0 ≡ number
  next_same = ap (λ m. unwrap_or (finmap.get m node) 0) new ∙ ap (λ o. unwrap_or o 0) (get-insert_same s.next node number)

  still_below : (t : Waiting) → IsBelowNext s t → t.number < unwrap_or (finmap.get next t.node) 0
  still_below t h =
      elim (eqb_tells t.node node) [
        | inl own ↦
            let new_next : unwrap_or (finmap.get next t.node) 0 ≡ number = ap (λ q. unwrap_or (finmap.get next q) 0) own.1 ∙ next_same in
            let old_next : next_number s t.node ≡ n = ap (next_number s) own.1 ∙ sym is in
            omega arith
        | inr other ↦ let same = next_other t.node other.1 in omega arith
      ]

-- what holds of each request and of a further one
pub All-insert : (P : Waiting → Type 0) (rs : List Waiting) (i : ℕ) (r : Waiting) → All P rs → P r → All P (insert rs i r)
All-insert P rs i r h here = All-append P (take i rs) (r ∷ drop i rs) (All-take P i rs h) (All-cons P r (drop i rs) here (All-drop P i rs h))

-- ---- a request under a number before the last
-- the state behind is that after the request
pub after_request-early : (s : BusState) (rs : List Waiting) (node n : ℕ) (f : FrameFields) (next : FinMap nat_cmp ℕ)
    → s.waiting ≡ requests_of rs → All (IsBelowNext s) rs → n ≡ next_number s node → n ≢ last_number → next ≡ finmap.insert s.next node (n + 1)
    → ◌≡◌ {A = BusState} (record s { waiting = requests_of (insert rs (place_behind rs node) (record { node = node; number = n; frame = f })); next = next }) (after_request s node f)
after_request-early s rs node n f next set below is early new =
    let r : Waiting = record { node = node; number = n; frame = f } in
    let early_test : eqb (next_number s node) last_number ≡ false = let h : next_number s node ≢ last_number = λ e. early (is ∙ e) in grind (arith, nat_tests) in
    let waits : requests_of (insert rs (place_behind rs node) r) ≡ finmap.insert s.waiting (node, next_number s node) f =
    requests_of-insert rs r (IsLast-request s rs node n f below is) ∙ ap (λ w. finmap.insert w (node, n) f) (sym set) ∙ ap (λ k. finmap.insert s.waiting (node, k) f) is in
    let counts : next ≡ finmap.insert s.next node (next_number s node + 1) = new ∙ ap (λ k. finmap.insert s.next node (k + 1)) is in
    (λ i. record s { waiting = waits i; next = counts i })
    ∙ ap (λ b. with_request (cond b (with_ranks s node) s) node f) (sym early_test)

-- the numbers stay below the next ones
pub below-early : (s : BusState) (rs : List Waiting) (node n number : ℕ) (f : FrameFields) (next : FinMap nat_cmp ℕ)
    → All (IsBelowNext s) rs → n ≡ next_number s node → n < number → next ≡ finmap.insert s.next node number
    → All (λ (t : Waiting). t.number < unwrap_or (finmap.get next t.node) 0) (insert rs (place_behind rs node) (record { node = node; number = n; frame = f }))
below-early s rs node n number f next below is less new =
    let P : Waiting → Type 0 = λ t. t.number < unwrap_or (finmap.get next t.node) 0 in
    All-insert P rs (place_behind rs node) (record { node = node; number = n; frame = f })
    (All-weaker (IsBelowNext s) P (still_below s next node n number is new (omega arith)) rs below)
    (let same = next_same s next node n number is new (omega arith) in omega arith)

-- ---- ranks in the set and in the list
count_by-map : (p : RequestName × FrameFields → Bool) (rs : List Waiting) → count_by p (map entry_of rs) ≡ count_by (λ r. p (entry_of r)) rs
count_by-map p [] = refl
count_by-map p (r ∷ rs) =
    sum_by-cons (λ e. cond (p e) 1 0) (entry_of r) (map entry_of rs)
    ∙ ap (λ n. cond (p (entry_of r)) 1 0 + n) (count_by-map p rs)
    ∙ sym (sum_by-cons (λ s. cond (p (entry_of s)) 1 0) r rs)

len-retain_keys : (rs : List Waiting) (p : RequestName → Bool) → InOrder rs → len (retain_keys (requests_of rs) p) ≡ count_by (λ r. p (request_name r)) rs
len-retain_keys rs p order =
    len-entries (retain_keys (requests_of rs) p)
    ∙ ap length (entries-retain_keys (requests_of rs) p)
    ∙ length-filter (λ e. p e.0) (entries (requests_of rs))
    ∙ ap (count_by (λ e. p e.0)) (entries-from_entries (map entry_of rs) order)
    ∙ count_by-map (λ e. p e.0) rs

-- the rank by the set is that by the list
pub rank-is : (s : BusState) (rs : List Waiting) (node number : ℕ) → s.waiting ≡ requests_of rs → InOrder rs
    → rank s node number ≡ rank_in rs s.wire node number
rank-is s rs node number set order =
    (λ i. len (retain_keys (set i) (λ name. eqb name.0 node && ltb name.1 number)) + count_on_wire s.wire node number)
    ∙ ap (λ n. n + count_on_wire s.wire node number) (len-retain_keys rs (λ name. eqb name.0 node && ltb name.1 number) order)

-- ---- a request under the last number
-- the request under a number
abbrev pub new_request : ℕ → ℕ → FrameFields → Waiting
new_request node n f = record { node = node; number = n; frame = f }

-- the list with the request behind its node's others
abbrev pub list_with_request : List Waiting → ℕ → ℕ → FrameFields → List Waiting
list_with_request rs node n f = insert rs (place_behind rs node) (new_request node n f)

-- the other requests get the same new numbers with and without the new one
same_rank : (rs : List Waiting) (wire : Option Transmission) (node n : ℕ) (f : FrameFields) (t : Waiting) → (t.node ≡ node → t.number ≤ n)
    → with_rank_in (list_with_request rs node n f) wire node t ≡ with_rank_in rs wire node t
same_rank rs wire node n f t small =
    elim (eqb_tells t.node node) [
      | inl own ↦ with_rank_in-insert rs (place_behind rs node) (new_request node n f) wire node t (small own.1)
      | inr other ↦ other_rank (list_with_request rs node n f) wire node t other.1 ∙ sym (other_rank rs wire node t other.1)
    ]

wire_same : (rs : List Waiting) (wire : Option Transmission) (node n : ℕ) (f : FrameFields) → n ≡ last_number → CarriesInRange wire node
    → option_map (transmission_with_rank_in (list_with_request rs node n f) wire node) wire ≡ option_map (transmission_with_rank_in rs wire node) wire
wire_same rs None node n f last fits = refl
wire_same rs (Some w) node n f last fits =
    let same = same_rank rs (Some w) node n f w.request (λ own. let h = fits own in omega arith) in
    λ i. Some (record w { request = same i })

transmission_alike : (s : BusState) (rs : List Waiting) (wire : Option Transmission) (node : ℕ)
    → ((t : Waiting) → with_rank_in rs wire node t ≡ with_rank s node t) → (w : Option Transmission)
    → option_map (transmission_with_rank_in rs wire node) w ≡ option_map (transmission_with_rank s node) w
transmission_alike s rs wire node same None = refl
transmission_alike s rs wire node same (Some w) = λ i. Some (record { request = same w.request i; end = w.end })

rises : (rs : List Waiting) (wire : Option Transmission) (node n : ℕ) (u : Waiting) → Contains rs u → (u.node ≡ node → u.number < n)
    → (with_rank_in rs wire node u).node ≡ node → (with_rank_in rs wire node u).number < rank_in rs wire node n
rises rs wire node n u in' less own =
    let same : u.node ≡ node = sym (node-with_rank_in rs wire node u) ∙ own in
    let value = number-with_rank_in rs wire node u same in
    let P : ℕ → Type 0 = λ m. rank_in rs wire m u.number < rank_in rs wire m n in
    let more = subst P same (rank_in-less rs wire u n in' (less same)) in
    omega arith

below_one : (s : BusState) (rs : List Waiting) (wire : Option Transmission) (node n : ℕ) (f : FrameFields) (next : FinMap nat_cmp ℕ)
    → n ≡ next_number s node → next ≡ finmap.insert s.next node (rank_in rs wire node n + 1)
    → (u : Waiting) → (u.node ≡ node → u.number ≤ n) → (u.node ≢ node → IsBelowNext s u)
    → (with_rank_in (list_with_request rs node n f) wire node u).number < unwrap_or (finmap.get next (with_rank_in (list_with_request rs node n f) wire node u).node) 0
below_one s rs wire node n f next is new u own_small other_below =
    let longer : List Waiting = list_with_request rs node n f in
    let kept = node-with_rank_in longer wire node u in
    let at : unwrap_or (finmap.get next (with_rank_in longer wire node u).node) 0 ≡ unwrap_or (finmap.get next u.node) 0 = ap (λ q. unwrap_or (finmap.get next q) 0) kept in
    elim (eqb_tells u.node node) [
      | inl own ↦
          let value = number-with_rank_in longer wire node u own.1 in
          let small = rank_in-le longer wire node u.number n (own_small own.1) in
          let without = same_after rs (place_behind rs node) (new_request node n f) node n (omega arith) in
          let following : unwrap_or (finmap.get next u.node) 0 ≡ rank_in rs wire node n + 1 =
          ap (λ q. unwrap_or (finmap.get next q) 0) own.1 ∙ ap (λ m. unwrap_or (finmap.get m node) 0) new ∙ ap (λ o. unwrap_or o 0) (get-insert_same s.next node _) in
          omega arith
      | inr other ↦
          let value = number-other_rank longer wire node u other.1 in
          let same : unwrap_or (finmap.get next u.node) 0 ≡ next_number s u.node =
          ap (λ m. unwrap_or (finmap.get m u.node) 0) new ∙ ap (λ o. unwrap_or o 0) (get-insert_other s.next node _ u.node other.1) in
          let less = other_below other.1 in
          omega arith
    ]

-- the state behind, with ranks, is that after the request
pub after_request-last : (s : BusState) (rs : List Waiting) (node n : ℕ) (f : FrameFields) (next : FinMap nat_cmp ℕ)
    → s.waiting ≡ requests_of rs → InOrder rs → All (IsBelowNext s) rs → n ≡ next_number s node → n ≡ last_number
    → CarriesInRange s.wire node → next ≡ finmap.insert s.next node (rank_in rs s.wire node n + 1)
    → ◌≡◌ {A = BusState}
    (record s {
      waiting = requests_of (map (with_rank_in (list_with_request rs node n f) s.wire node) (list_with_request rs node n f));
      wire = option_map (transmission_with_rank_in (list_with_request rs node n f) s.wire node) s.wire;
      next = next;
    })
    (after_request s node f)
after_request-last s rs node n f next set order below is last fits new =
    let wire : Option Transmission = s.wire in
    let r : Waiting = new_request node n f in
    let longer : List Waiting = list_with_request rs node n f in
    let g : Waiting → Waiting = with_rank_in rs wire node in
    let is_last : IsLast rs r = IsLast-request s rs node n f below is in
    let agree : (u : Waiting) → g u ≡ with_rank s node u =
    λ u. ap (λ m. cond (eqb u.node node) (record u { number = m }) u) (sym (rank-is s rs node u.number set order)) in
    let others : map (with_rank_in longer wire node) rs ≡ map g rs =
    map_agree (with_rank_in longer wire node) g rs
    (All-weaker (λ (u : Waiting). u.node ≡ node → u.number < n) (λ u. with_rank_in longer wire node u ≡ g u) (λ u less. same_rank rs wire node n f u (λ own. let h = less own in omega arith)) rs is_last) in
    let last_new : with_rank_in longer wire node r ≡ new_request node (rank_in rs wire node n) f =
    with_rank_in-insert rs (place_behind rs node) r wire node r (omega arith) ∙ own_rank rs wire node r refl in
    let e : ℕ = rank_in rs wire node n in
    let s' : BusState = record s {
      waiting = requests_of (map (with_rank s node) (members s.waiting));
      wire = option_map (transmission_with_rank s node) s.wire;
      next = finmap.insert s.next node (rank s node (next_number s node));
    } in
    let count : rank s node (next_number s node) ≡ e = ap (rank s node) (sym is) ∙ rank-is s rs node n set order in
    let number : next_number s' node ≡ e = ap (λ o. unwrap_or o 0) (get-insert_same s.next node (rank s node (next_number s node))) ∙ count in
    let node_kept : place_behind rs node ≡ place_behind (map g rs) node = sym (place_behind-map g rs node (node-with_rank_in rs wire node)) in
    let renumbered : map (with_rank s node) (members s.waiting) ≡ map g rs =
    ap (λ w. map (with_rank s node) (members w)) set ∙ ap (map (with_rank s node)) (members-requests_of rs order) ∙ map_agree (with_rank s node) g rs (λ k d low. sym (agree _)) in
    let last_in_ranks : IsLast (map g rs) (new_request node e f) =
    All-map (λ (u : Waiting). u.node ≡ node → u.number < e) g rs
    (λ k d low own. rises rs wire node n (get_or rs k d) (Contains-get_or rs k d low) (is_last k d low) own) in
    let waits : requests_of (map (with_rank_in longer wire node) longer) ≡ finmap.insert s'.waiting (node, next_number s' node) f =
    ap requests_of (map_insert (with_rank_in longer wire node) rs node r)
    ∙ ap (λ us. requests_of (insert us (place_behind rs node) (with_rank_in longer wire node r))) others
    ∙ ap (λ u. requests_of (insert (map g rs) (place_behind rs node) u)) last_new
    ∙ ap (λ k. requests_of (insert (map g rs) k (new_request node e f))) node_kept
    ∙ requests_of-insert (map g rs) (new_request node e f) last_in_ranks
    ∙ ap (λ us. finmap.insert (requests_of us) (node, e) f) (sym renumbered)
    ∙ ap (λ k. finmap.insert s'.waiting (node, k) f) (sym number) in
    let sent : option_map (transmission_with_rank_in longer wire node) wire ≡ s'.wire =
    wire_same rs wire node n f last fits ∙ transmission_alike s rs wire node agree wire in
    let counts : next ≡ finmap.insert s'.next node (next_number s' node + 1) =
    new ∙ ap (λ k. finmap.insert s.next node (k + 1)) (sym number) ∙ sym (insert-insert s.next node _ _) in
    let last_test : eqb (next_number s node) last_number ≡ true = let same : next_number s node ≡ last_number = sym is ∙ last in grind (arith, nat_tests) in
    (λ i. record s { waiting = waits i; wire = sent i; next = counts i })
    ∙ ap (λ u. with_request u node f) (sym (with_ranks-is s node))
    ∙ ap (λ b. with_request (cond b (with_ranks s node) s) node f) (sym last_test)

-- the numbers stay below the next ones
pub below-last : (s : BusState) (rs : List Waiting) (wire : Option Transmission) (node n : ℕ) (f : FrameFields) (next : FinMap nat_cmp ℕ)
    → All (IsBelowNext s) rs → n ≡ next_number s node → next ≡ finmap.insert s.next node (rank_in rs wire node n + 1)
    → All (λ (t : Waiting). t.number < unwrap_or (finmap.get next t.node) 0) (map (with_rank_in (list_with_request rs node n f) wire node) (list_with_request rs node n f))
below-last s rs wire node n f next below is new =
    let longer : List Waiting = list_with_request rs node n f in
    let e : ℕ = rank_in rs wire node n in
    let G : Waiting → Waiting = with_rank_in longer wire node in
    let P : Waiting → Type 0 = λ t. t.number < unwrap_or (finmap.get next t.node) 0 in
    let Q : Waiting → Type 0 = λ u. (u.node ≡ node → u.number ≤ n) × (u.node ≢ node → IsBelowNext s u) in
    let old : All Q rs =
    All-weaker (IsBelowNext s) Q (λ u h. (λ own. let same : next_number s u.node ≡ n = ap (next_number s) own ∙ sym is in omega arith, λ _. h)) rs below in
    let all : All Q longer = All-insert Q rs (place_behind rs node) (new_request node n f) old (λ _. omega arith, λ other. absurd (other refl)) in
    All-map P G longer (All-weaker Q (λ u. P (G u)) (λ u h. below_one s rs wire node n f next is new u h.0 h.1) longer all)

-- ---- the number behind a request's own
following-early : (rs : List Waiting) (wire : Option Transmission) (node n : ℕ) → n ≢ last_number → following_number rs wire node n ≡ n + 1
following-early rs wire node n early = let test : eqb n last_number ≡ false = grind (arith, nat_tests) in ap (λ b. cond b (rank_in rs wire node n) n + 1) test

following-last : (rs : List Waiting) (wire : Option Transmission) (node n : ℕ) → n ≡ last_number → following_number rs wire node n ≡ rank_in rs wire node n + 1
following-last rs wire node n last = let test : eqb n last_number ≡ true = grind (arith, nat_tests) in ap (λ b. cond b (rank_in rs wire node n) n + 1) test

-- the place behind a node is in the list
pub place_behind-le : (rs : List Waiting) (node : ℕ) → place_behind rs node ≤ length rs
place_behind-le [] node = omega arith
place_behind-le (r ∷ rs) node =
    let rest = place_behind-le rs node in
    elim (nat_le r.node node) as (λ b. cond b (place_behind rs node + 1) 0 ≤ length (r ∷ rs)) [ true ↦ omega arith | false ↦ omega arith ]

-- ---- what the code found, as the lemmas above take it
-- the number is the node's next one
pub number_found : (m : BTreeMap ℕ ℕ) (node n : ℕ) (copied found : Option ℕ) → n ≡ unwrap_or copied 0 → copied ≡ found → found ≡ btree.get nat_cmp m node
    → n ≡ unwrap_or (finmap.get (from_entries {R = nat_cmp} m.entries) node) 0
number_found m node n copied found e f g = e ∙ ap (λ o. unwrap_or o 0) (f ∙ g ∙ sym (get-map m node))

-- the list is the one with the request in its place
pub list_found : (rs seen after : List Waiting) (node n place : ℕ) (f : FrameFields) → seen ≡ rs → place ≡ place_behind seen node → after ≡ insert rs place (new_request node n f)
    → after ≡ list_with_request rs node n f
list_found rs seen after node n place f same at e = e ∙ ap (λ k. insert rs k (new_request node n f)) (at ∙ ap (λ us. place_behind us node) same)

-- the numbers noted are the old ones with the node's next number
pub next_found-early : (rs : List Waiting) (wire : Option Transmission) (m m' : BTreeMap ℕ ℕ) (node n following : ℕ) → n ≢ last_number → following ≡ following_number rs wire node n → Updates nat_cmp m m' node (Some following)
    → from_entries {R = nat_cmp} m'.entries ≡ finmap.insert (from_entries m.entries) node (n + 1)
next_found-early rs wire m m' node n following early e updates =
    insert-map m m' node following updates ∙ ap (finmap.insert (from_entries m.entries) node) (e ∙ following-early rs wire node n early)

-- and where the last number is used up
pub next_found-last : (rs seen : List Waiting) (wire : Option Transmission) (m m' : BTreeMap ℕ ℕ) (node n following : ℕ) → seen ≡ rs → n ≡ last_number → following ≡ following_number seen wire node n
    → Updates nat_cmp m m' node (Some following) → from_entries {R = nat_cmp} m'.entries ≡ finmap.insert (from_entries m.entries) node (rank_in rs wire node n + 1)
next_found-last rs seen wire m m' node n following same last e updates =
    insert-map m m' node following updates
    ∙ ap (finmap.insert (from_entries m.entries) node) (e ∙ following-last seen wire node n last ∙ ap (λ us. rank_in us wire node n + 1) same)
