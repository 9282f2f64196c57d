-- The requests on a bus: those that wait, behind the one on the wire.
use Rattle.std.proofs.Common.{◌≡◌, ℕ, ◌+◌, ◌<◌, ◌≤◌, cond, List, ◌∷◌, length, map, eqb, refl, sym, ap, subst, ◌∙◌, arith}
use Rattle.std.specs.Prelude.{Option, None, Some, unwrap_or}
use Rattle.std.specs.List.{All}
use Rattle.std.specs.List.Sorted.{IsPermutation}
use Rattle.std.specs.Option.{option_map}
use Rattle.std.specs.Ordering.{nat_cmp}
use Rattle.std.specs.FinMap as finmap
use Rattle.std.specs.FinMap.{FinMap}
use Rattle.std.proofs.lemmas.List.Elements.{All-tail}
use Rattle.std.proofs.lemmas.List.Sorted.{IsPermutation-trans, IsPermutation-cons, IsPermutation-swap, length_permutation}
use Rattle.can_frame.specs.Frame.{FrameFields}
use Rattle.can_bus.specs.declared.waiting.Waiting.{Waiting}
use Rattle.can_bus.specs.declared.transmission.Transmission.{Transmission}
use Rattle.can_bus.specs.Ranks.{IsBelowNext, rank_in, with_rank_in, transmission_with_rank_in}
use Rattle.can_bus.specs.Bus.{BusState, next_number}
use Rattle.arbitration.proofs.RankLemmas.{earlier_count-cons}
use Rattle.arbitration.proofs.RequestLemmas.{new_request}
use Rattle.bus_heap.specs.Inside.HeapBus.{AreNamesDistinct, on_bus}
use Rattle.bus_heap.proofs.SetLemmas.{distinct-permutation, distinct-tail}
use Rattle.bus_heap.proofs.RequestLemmas.{distinct-request, distinct-last, below-early, below-last}

-- ---- those that wait
-- they have distinct names where all have
pub distinct-waiting : (wire : Option Transmission) (rs : List Waiting) → AreNamesDistinct (on_bus wire rs) → AreNamesDistinct rs
distinct-waiting None rs h = h
distinct-waiting (Some t) rs h = distinct-tail t.request rs h

-- what holds of all holds of them
pub All-waiting : (P : Waiting → Type 0) (wire : Option Transmission) (rs : List Waiting) → All P (on_bus wire rs) → All P rs
All-waiting P None rs h = h
All-waiting P (Some t) rs h = All-tail P t.request rs h

-- there are no more of them than of all
pub length-waiting : (wire : Option Transmission) (rs : List Waiting) → length rs ≤ length (on_bus wire rs)
length-waiting None rs = omega arith
length-waiting (Some t) rs = omega arith

-- of all there are as many or one more
pub length-on_bus : (wire : Option Transmission) (rs : List Waiting) → length (on_bus wire rs) ≤ length rs + 1
length-on_bus None rs = omega arith
length-on_bus (Some t) rs = omega arith

-- ---- one more
-- where one more waits, all are those before and it
pub on_bus-more : (wire : Option Transmission) (r : Waiting) (rs after : List Waiting) → IsPermutation (r ∷ rs) after → IsPermutation (r ∷ on_bus wire rs) (on_bus wire after)
on_bus-more None r rs after moved = moved
on_bus-more (Some t) r rs after moved =
    IsPermutation-trans (r ∷ t.request ∷ rs) (t.request ∷ r ∷ rs) (t.request ∷ after)
    (IsPermutation-swap (r ∷ t.request ∷ rs) (t.request ∷ r ∷ rs) 0 1 (omega arith) (omega arith) refl)
    (IsPermutation-cons t.request (r ∷ rs) after moved)

-- there is room for all where there was for two more that wait
pub room-more : (wire : Option Transmission) (r : Waiting) (rs after : List Waiting) (room : ℕ) → IsPermutation (r ∷ rs) after → length rs + 2 ≤ room
    → length (on_bus wire after) ≤ room
room-more wire r rs after room moved enough =
    let long = length_permutation (r ∷ rs) after moved in
    let all = length-on_bus wire after in
    omega arith

-- ---- a request under a number before the last
module _ (s : BusState) (wire : Option Transmission) (rs after : List Waiting) (node n : ℕ) (f : FrameFields) (below : All (IsBelowNext s) (on_bus wire rs)) (is : n ≡ next_number s node)
    (moved : IsPermutation (new_request node n f ∷ rs) after) where
  -- leaves distinct names
  pub distinct-early : AreNamesDistinct (on_bus wire rs) → AreNamesDistinct (on_bus wire after)
  distinct-early distinct =
      distinct-permutation (new_request node n f ∷ on_bus wire rs) (on_bus wire after) (on_bus-more wire (new_request node n f) rs after moved)
      (distinct-request s (on_bus wire rs) node n f below is distinct)

  -- and numbers below the next ones
  pub below-early_all : (next : FinMap nat_cmp ℕ) → next ≡ finmap.insert s.next node (n + 1)
      → All (λ (t : Waiting). t.number < unwrap_or (finmap.get next t.node) 0) (on_bus wire after)
  below-early_all next new = below-early s (on_bus wire rs) (on_bus wire after) node n f next below is (on_bus-more wire (new_request node n f) rs after moved) new

-- ---- a request under the last number
-- ranks by those that wait and the one on the wire are ranks by all
rank-on_bus : (wire : Option Transmission) (rs : List Waiting) (node number : ℕ) → rank_in (on_bus wire rs) None node number ≡ rank_in rs wire node number
rank-on_bus None rs node number = refl
rank-on_bus (Some t) rs node number = let count = earlier_count-cons t.request rs node number in omega arith

with_rank-on_bus : (wire : Option Transmission) (rs : List Waiting) (node : ℕ) (u : Waiting) → with_rank_in (on_bus wire rs) None node u ≡ with_rank_in rs wire node u
with_rank-on_bus wire rs node u = ap (λ m. cond (eqb u.node node) (record u { number = m }) u) (rank-on_bus wire rs node u.number)

ranked-on_bus : (g : Waiting → Waiting) (wire : Option Transmission) (rs : List Waiting) → on_bus (option_map (λ (t : Transmission). record t { request = g t.request }) wire) (map g rs) ≡ map g (on_bus wire rs)
ranked-on_bus g None rs = refl
ranked-on_bus g (Some t) rs = refl

module _ (s : BusState) (wire : Option Transmission) (rs after : List Waiting) (node n : ℕ) (f : FrameFields) (below : All (IsBelowNext s) (on_bus wire rs)) (is : n ≡ next_number s node)
    (moved : IsPermutation (new_request node (rank_in rs wire node n) f ∷ map (with_rank_in rs wire node) rs) after) where
  abbrev ranked : Option Transmission
  ranked = option_map (transmission_with_rank_in rs wire node) wire

  moved-last : IsPermutation (new_request node (rank_in (on_bus wire rs) None node n) f ∷ map (with_rank_in (on_bus wire rs) None node) (on_bus wire rs)) (on_bus ranked after)
  moved-last =
      subst (λ (ls : List Waiting). IsPermutation ls (on_bus ranked after))
      (ap (λ (us : List Waiting). new_request node (rank_in rs wire node n) f ∷ us) (ranked-on_bus (with_rank_in rs wire node) wire rs)
      ∙ (λ i. new_request node (sym (rank-on_bus wire rs node n) i) f ∷ map (λ u. sym (with_rank-on_bus wire rs node u) i) (on_bus wire rs)))
      (on_bus-more ranked (new_request node (rank_in rs wire node n) f) (map (with_rank_in rs wire node) rs) after moved)

  -- leaves distinct names
  pub distinct-last_all : AreNamesDistinct (on_bus wire rs) → AreNamesDistinct (on_bus ranked after)
  distinct-last_all distinct = distinct-permutation _ (on_bus ranked after) moved-last (distinct-last s (on_bus wire rs) None node n f below is distinct)

  -- and numbers below the next ones
  pub below-last_all : (next : FinMap nat_cmp ℕ) → next ≡ finmap.insert s.next node (rank_in rs wire node n + 1)
      → All (λ (t : Waiting). t.number < unwrap_or (finmap.get next t.node) 0) (on_bus ranked after)
  below-last_all next new =
      below-last s (on_bus wire rs) (on_bus ranked after) None node n f next below is moved-last
      (new ∙ ap (λ m. finmap.insert s.next node (m + 1)) (sym (rank-on_bus wire rs node n)))
