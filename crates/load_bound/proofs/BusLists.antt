-- The waiting requests of a bus as a list, and what the calls make of it.
use Rattle.std.proofs.Common.{◌≡◌, ◌≢◌, ℕ, ◌+◌, ◌<◌, ◌≤◌, Bool, true, false, cond, List, [], ◌∷◌, length, map, get_or, eqb, refl, sym, ap, subst, ◌∙◌, inl, inr, arith}
use Rattle.std.specs.Prelude.{Option, None, Some, IfSome, MatchOption, is_some, unwrap_or, insert, remove}
use Rattle.std.specs.List.{All, Contains}
use Rattle.std.specs.Option.{option_map, option_map_or}
use Rattle.std.specs.Ordering.{nat_cmp}
use Rattle.std.specs.FinMap as finmap
use Rattle.std.specs.FinMap.{FinMap, len, empty}
use Rattle.std.proofs.lemmas.Bool.Decides.{nat_tests, eqb_tells}
use Rattle.std.proofs.lemmas.List.Elements.{All-contains, All-nil}
use Rattle.can_frame.specs.Frame.{FrameFields}
use Rattle.can_bus.specs.declared.waiting.Waiting.{Waiting}
use Rattle.can_bus.specs.declared.transmission.Transmission.{Transmission}
use Rattle.can_bus.specs.Waiting.{Requests, request_name, Waits, IsWinner, members, requests_of, winner}
use Rattle.can_bus.specs.Bus.{time_on_wire, BusState, new_bus, next_number, last_number, after_request, ended, after_finish, is_free, winner_at, with_transmission, after_arbitration, moment_by, next_moment}
use Rattle.can_bus.specs.Ranks.{IsBelowNext, rank_in, with_rank_in, transmission_with_rank_in, CarriesInRange}
use Rattle.can_bus.proofs.Requests.{Contains-members, Waits-members, members-requests_of, len-requests_of}
use Rattle.can_bus.proofs.Winner.{winner_law}
use Rattle.can_bus.proofs.NextNumbers.{get-insert_same, get-insert_other}
use Rattle.arbitration.specs.Inside.Places.{InOrder, place_behind}
use Rattle.arbitration.proofs.ListEdits.{in_order-insert, in_order-remove, requests_of-remove}
use Rattle.arbitration.proofs.RankLemmas.{same_after, rank_in-le, number-with_rank_in, number-other_rank, node-with_rank_in, in_order-ranks}
use Rattle.arbitration.proofs.RequestLemmas.{new_request, list_with_request, IsLast-request, after_request-early, below-early, after_request-last, below-last}
use Rattle.arbitration.proofs.ArbitrationLemmas.{All-remove}

-- the waiting requests are those of a list in order; they and the one on the wire have numbers below their
-- nodes' next ones
pub record IsListed (s : BusState) (rs : List Waiting) : Type 0 where
  pub set : s.waiting ≡ requests_of rs
  pub order : InOrder rs
  pub below : All (IsBelowNext s) rs
  pub wire_below : IfSome s.wire (λ t. IsBelowNext s t.request)

-- a new bus has none
pub IsListed-new : (bit : ℕ) → IsListed (new_bus bit) []
IsListed-new bit = record { set = refl; order = refl; below = All-nil (IsBelowNext (new_bus bit)); wire_below = tt }

-- ---- `finish`
-- it leaves the list
pub IsListed-finish : (s : BusState) (rs : List Waiting) (now : ℕ) → IsListed s rs → IsListed (after_finish s now) rs
IsListed-finish s rs now h =
    elim (is_some (ended s now)) as (λ b. IsListed (cond b (record s { wire = None }) s) rs) [
      | true ↦ record { set = h.set; order = h.order; below = h.below; wire_below = tt }
      | false ↦ h
    ]

-- ---- a request
-- the list after a request: it has one more, perhaps under new numbers
pub record Adds (rs after : List Waiting) (node : ℕ) (f : FrameFields) : Type 0 where
  pub place : ℕ
  pub number : ℕ
  pub renumber : Waiting → Waiting
  pub is : after ≡ map renumber (insert rs place (new_request node number f))
  pub node_kept : (r : Waiting) → (renumber r).node ≡ r.node
  pub frame_kept : (r : Waiting) → (renumber r).frame ≡ r.frame

map_same : (rs : List Waiting) → map (λ (r : Waiting). r) rs ≡ rs
map_same [] = refl
map_same (r ∷ rs) = λ i. r ∷ map_same rs i

module _ (s : BusState) (next : FinMap nat_cmp ℕ) (node number : ℕ) (new : next ≡ finmap.insert s.next node number) where
  next_own : (q : ℕ) → q ≡ node → unwrap_or (finmap.get next q) 0 ≡ number
  next_own q e = ap (λ m. unwrap_or (finmap.get m q) 0) new ∙ ap (λ k. unwrap_or (finmap.get (finmap.insert s.next node number) k) 0) e ∙ ap (λ o. unwrap_or o 0) (get-insert_same s.next node number)

  next_other : (q : ℕ) → q ≢ node → unwrap_or (finmap.get next q) 0 ≡ next_number s q
  next_other q e = ap (λ m. unwrap_or (finmap.get m q) 0) new ∙ ap (λ o. unwrap_or o 0) (get-insert_other s.next node number q e)

  still_below : next_number s node ≤ number → (t : Waiting) → IsBelowNext s t → t.number < unwrap_or (finmap.get next t.node) 0
  still_below more t h =
      elim (eqb_tells t.node node) [
        | inl own ↦ let new_next = next_own t.node own.1 in let old_next = ap (next_number s) own.1 in omega arith
        | inr other ↦ let same = next_other t.node other.1 in omega arith
      ]

wire_still_below : (s : BusState) (next : FinMap nat_cmp ℕ) (node number : ℕ) → next ≡ finmap.insert s.next node number → next_number s node ≤ number
    → (wire : Option Transmission) → IfSome wire (λ t. IsBelowNext s t.request) → IfSome wire (λ t. t.request.number < unwrap_or (finmap.get next t.request.node) 0)
wire_still_below s next node number new more None h = tt
wire_still_below s next node number new more (Some t) h = still_below s next node number new more t.request h

listed-early : (s : BusState) (rs : List Waiting) (node : ℕ) (f : FrameFields) → next_number s node ≢ last_number → IsListed s rs
    → (after : List Waiting) × IsListed (after_request s node f) after × Adds rs after node f
listed-early s rs node f early h =
    let n : ℕ = next_number s node in
    let next : FinMap nat_cmp ℕ = finmap.insert s.next node (n + 1) in
    let after : List Waiting = list_with_request rs node n f in
    let t : BusState = record s { waiting = requests_of after; next = next } in
    let listed : IsListed t after = record {
      set = refl;
      order = in_order-insert rs (new_request node n f) (IsLast-request s rs node n f h.below refl) h.order;
      below = below-early s rs node n (n + 1) f next h.below refl (omega arith) refl;
      wire_below = wire_still_below s next node (n + 1) refl (omega arith) s.wire h.wire_below;
    } in (
      after,
      subst (λ (u : BusState). IsListed u after) (after_request-early s rs node n f next h.set h.below refl early refl) listed,
      record {
        place = place_behind rs node;
        number = n;
        renumber = λ r. r;
        is = sym (map_same after);
        node_kept = λ r. refl;
        frame_kept = λ r. refl;
      },
    )

-- the one on the wire gets a rank below the next number
wire_rank_below : (s : BusState) (rs : List Waiting) (wire on : Option Transmission) (node n : ℕ) (f : FrameFields) (next : FinMap nat_cmp ℕ) → n ≡ next_number s node
    → next ≡ finmap.insert s.next node (rank_in rs wire node n + 1) → IfSome on (λ t. IsBelowNext s t.request)
    → IfSome (option_map (transmission_with_rank_in (list_with_request rs node n f) wire node) on) (λ t. t.request.number < unwrap_or (finmap.get next t.request.node) 0)
wire_rank_below s rs wire None node n f next is new h = tt
wire_rank_below s rs wire (Some t) node n f next is new h =
    let u : Waiting = t.request in
    let longer : List Waiting = list_with_request rs node n f in
    let kept = ap (λ q. unwrap_or (finmap.get next q) 0) (node-with_rank_in longer wire node u) in
    elim (eqb_tells u.node node) [
      | inl own ↦
          let value = number-with_rank_in longer wire node u own.1 in
          let old_next = ap (next_number s) own.1 in
          let small = rank_in-le longer wire node u.number n (omega arith) in
          let without = same_after rs (place_behind rs node) (new_request node n f) node n (omega arith) in
          let new_next = next_own s next node (rank_in rs wire node n + 1) new u.node own.1 in
          omega arith
      | inr other ↦
          let value = number-other_rank longer wire node u other.1 in
          let same = next_other s next node (rank_in rs wire node n + 1) new u.node other.1 in
          omega arith
    ]

carries : (s : BusState) (node : ℕ) → next_number s node ≡ last_number → (wire : Option Transmission) → IfSome wire (λ t. IsBelowNext s t.request) → CarriesInRange wire node
carries s node last None h = tt
carries s node last (Some t) h = λ own. let same = ap (next_number s) own in omega arith

frame-with_rank_in : (rs : List Waiting) (wire : Option Transmission) (node : ℕ) (r : Waiting) → (with_rank_in rs wire node r).frame ≡ r.frame
frame-with_rank_in rs wire node r =
    elim (eqb r.node node) as (λ b. (cond b (record r { number = rank_in rs wire node r.number }) r).frame ≡ r.frame) [ true ↦ refl | false ↦ refl ]

listed-last : (s : BusState) (rs : List Waiting) (node : ℕ) (f : FrameFields) → next_number s node ≡ last_number → IsListed s rs
    → (after : List Waiting) × IsListed (after_request s node f) after × Adds rs after node f
listed-last s rs node f last h =
    let n : ℕ = next_number s node in
    let next : FinMap nat_cmp ℕ = finmap.insert s.next node (rank_in rs s.wire node n + 1) in
    let longer : List Waiting = list_with_request rs node n f in
    let g : Waiting → Waiting = with_rank_in longer s.wire node in
    let after : List Waiting = map g longer in
    let t : BusState = record s { waiting = requests_of after; wire = option_map (transmission_with_rank_in longer s.wire node) s.wire; next = next } in
    let listed : IsListed t after = record {
      set = refl;
      order = in_order-ranks longer s.wire node (in_order-insert rs (new_request node n f) (IsLast-request s rs node n f h.below refl) h.order);
      below = below-last s rs s.wire node n f next h.below refl refl;
      wire_below = wire_rank_below s rs s.wire s.wire node n f next refl refl h.wire_below;
    } in (
      after,
      subst (λ (u : BusState). IsListed u after) (after_request-last s rs node n f next h.set h.order h.below refl last (carries s node last s.wire h.wire_below) refl) listed,
      record {
        place = place_behind rs node;
        number = n;
        renumber = g;
        is = refl;
        node_kept = node-with_rank_in longer s.wire node;
        frame_kept = frame-with_rank_in longer s.wire node;
      },
    )

-- a request adds to the list
pub listed-request : (s : BusState) (rs : List Waiting) (node : ℕ) (f : FrameFields) → IsListed s rs
    → (after : List Waiting) × IsListed (after_request s node f) after × Adds rs after node f
listed-request s rs node f h =
    elim (eqb_tells (next_number s node) last_number) [
      | inl last ↦ listed-last s rs node f last.1 h
      | inr early ↦ listed-early s rs node f early.1 h
    ]

-- ---- arbitration
-- the winner stands in the list, and goes before each other one
pub record IsWinnerIn (s : BusState) (rs : List Waiting) (r : Waiting) : Type 0 where
  pub place : ℕ
  pub within : place < length rs
  pub is : r ≡ get_or rs place r
  pub wins : IsWinner s.waiting r

won_by : (free : Bool) (waiting : Requests) (r : Waiting) → cond free (winner waiting) None ≡ Some r → winner waiting ≡ Some r
won_by true waiting r e = e
won_by false waiting r e = absurd (cc)

is_winner : (waiting : Requests) (r : Waiting) → winner waiting ≡ Some r → IsWinner waiting r
is_winner waiting r e =
    let P : Option Waiting → Type 0 = λ o. MatchOption o (waiting ≡ empty) (IsWinner waiting) in
    subst P e (winner_law waiting)

-- the request that wins arbitration now
pub winner_in : (s : BusState) (rs : List Waiting) (now : ℕ) (r : Waiting) → IsListed s rs → winner_at s now ≡ Some r → IsWinnerIn s rs r
winner_in s rs now r h e =
    let wins = is_winner s.waiting r (won_by (is_free s now) s.waiting r e) in
    let In : List Waiting → Type 0 = λ ms. Contains ms r in
    let in' = subst In (ap members h.set ∙ members-requests_of rs h.order) (Contains-members s.waiting r wins.waits) in
    record { place = in'.0; within = in'.1; is = sym in'.2; wins = wins }

-- a request of the list waits
pub waits_in : (s : BusState) (rs : List Waiting) (x : Waiting) → IsListed s rs → Contains rs x → Waits s.waiting x
waits_in s rs x h in' =
    let In : List Waiting → Type 0 = λ ms. Contains ms x in
    Waits-members s.waiting x (subst In (sym (ap members h.set ∙ members-requests_of rs h.order)) in')

-- the winner leaves the list
pub IsListed-start : (s : BusState) (rs : List Waiting) (now duration : ℕ) (r : Waiting) (h : IsListed s rs) (w : IsWinnerIn s rs r)
    → IsListed (with_transmission s now duration r) (remove rs w.place)
IsListed-start s rs now duration r h w = record {
  set = ap (λ m. finmap.remove m (request_name r)) h.set ∙ sym (requests_of-remove rs w.place r h.order w.within w.is);
  order = in_order-remove rs w.place r h.order w.within w.is;
  below = All-remove (IsBelowNext s) rs (remove rs w.place) w.place refl h.below;
  wire_below = All-contains (IsBelowNext s) rs r h.below (w.place, w.within, sym w.is);
}

-- what arbitration makes of the bus where a request wins
pub arbitration-start : (s : BusState) (now : ℕ) (r : Waiting) → winner_at s now ≡ Some r → after_arbitration s now ≡ with_transmission s now (time_on_wire r.frame s.bit) r
arbitration-start s now r e = ap (λ o. option_map_or (λ (q : Waiting). with_transmission s now (time_on_wire q.frame s.bit) q) o s) e

-- and where none does
pub arbitration-none : (s : BusState) (now : ℕ) → winner_at s now ≡ None → after_arbitration s now ≡ s
arbitration-none s now e = ap (λ o. option_map_or (λ (q : Waiting). with_transmission s now (time_on_wire q.frame s.bit) q) o s) e

-- ---- what is due next
due_by : (wire : Option Transmission) (waiting : Requests) (free : ℕ) → IfSome wire (λ t. t.end ≤ free) → len waiting ≢ 0
    → (due : ℕ) × (moment_by wire waiting free ≡ Some due) × (due ≤ free)
due_by (Some t) waiting free ends some = (t.end, refl, ends)
due_by None waiting free ends some =
    let test : eqb (len waiting) 0 ≡ false = grind (arith, nat_tests) in
    (free, ap (λ b. cond b None (Some free)) test, omega arith)

-- where a request waits, something is due at the latest when the bus is free
pub due_when_waiting : (s : BusState) (rs : List Waiting) → IsListed s rs → IfSome s.wire (λ t. t.end ≤ s.free) → length rs ≢ 0
    → (due : ℕ) × (next_moment s ≡ Some due) × (due ≤ s.free)
due_when_waiting s rs h ends some =
    let many : len s.waiting ≡ length rs = ap len h.set ∙ len-requests_of rs h.order in
    due_by s.wire s.waiting s.free ends (λ e. some (sym many ∙ e))
