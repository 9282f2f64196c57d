-- A request enters the heap, under the last number with new numbers for its node's others.
use Rattle.std.proofs.Common.{◌≡◌, ℕ, ◌+◌, ◌<◌, ◌≤◌, List, ◌∷◌, length, map, refl, sym, ap, subst, ◌∙◌, arith}
use Rattle.std.specs.Prelude.{unwrap_or, vec_capacity}
use Rattle.std.specs.List.{All}
use Rattle.std.specs.List.Sorted.{IsPermutation}
use Rattle.std.specs.Option.{option_map}
use Rattle.std.specs.Ordering.{nat_cmp}
use Rattle.std.specs.FinMap as finmap
use Rattle.std.specs.FinMap.{FinMap, from_entries}
use Rattle.can_bus.specs.declared.waiting.Waiting.{Waiting}
use Rattle.can_bus.specs.Ranks.{IsBelowNext, rank_in, with_rank_in, transmission_with_rank_in}
use Rattle.can_bus.specs.Waiting.{requests_of}
use Rattle.can_bus.specs.Bus.{last_number, after_request}
use Rattle.can_bus.proofs.NextNumbers.{insert-map}
use Rattle.arbitration.proofs.RequestLemmas.{number_found, new_request}
use Rattle.bus_heap.specs.Inside.Heap.{IsHeap}
use Rattle.bus_heap.specs.Inside.HeapBus.{state_of, AreNamesDistinct, on_bus}
use Rattle.bus_heap.proofs.RequestLemmas.{after_request-early, after_request-last, IsHeap-ranks}
use Rattle.bus_heap.proofs.OnBus.{distinct-waiting, All-waiting, room-more, distinct-early, below-early_all, distinct-last_all, below-last_all}
use Rattle.bus_heap.proofs.heap_bus.HeapBusBus.request.Goals as goal

-- each request of the list has a lesser number than its node's next one
Below : FinMap nat_cmp ℕ → List Waiting → Type 0
Below next rs = All (λ (t : Waiting). t.number < unwrap_or (finmap.get next t.node) 0) rs

-- ---- no memory for the request
pub invariant_of-self : goal.invariant_of-self
unfolding Below
invariant_of-self c =
    let b = c.self.inside in
    let kept = c.in_err-add.ensures in
    record {
      takes_time = c.self.invariant.takes_time;
      heap = kept.heap;
      distinct = subst (λ (ls : List Waiting). AreNamesDistinct (on_bus b.wire ls)) (sym kept.waiting_kept) c.self.invariant.distinct;
      below_next = subst (λ (m : FinMap nat_cmp ℕ). Below m (on_bus b.wire c.add.new.waiting.items)) (ap (from_entries {R = nat_cmp}) (sym kept.next_kept))
          (subst (λ (ls : List Waiting). Below (from_entries b.next.entries) (on_bus b.wire ls)) (sym kept.waiting_kept) c.self.invariant.below_next);
      room = subst (λ (ls : List Waiting). length (on_bus b.wire ls) ≤ vec_capacity c.add.new.waiting) (sym kept.waiting_kept)
          (let more = kept.room_kept in let room = c.self.invariant.room in omega arith);
    }

-- ---- a number before the last
pub invariant_of-self-then-number-lt-LAST_NUMBER : goal.invariant_of-self-then-number-lt-LAST_NUMBER
invariant_of-self-then-number-lt-LAST_NUMBER c =
    let b = c.self.inside in
    let rs = b.waiting.items in
    let s = state_of b in
    let node = c.args.node in
    let n = c.unwrap_or-number.result in
    let f = c.args.f.now in
    let is = number_found b.next node n c.copied.result _ c.unwrap_or-number.ensures c.copied.ensures c.get.ensures.value in
    let moved = c.in_ok-add.ensures.waiting in
    let next = insert-map b.next c.add.new.next node (n + 1) c.in_ok-add.ensures.next in
    record {
      takes_time = c.self.invariant.takes_time;
      heap = c.in_ok-add.ensures.heap;
      distinct = distinct-early s b.wire rs c.add.new.waiting.items node n f c.self.invariant.below_next is moved c.self.invariant.distinct;
      below_next = below-early_all s b.wire rs c.add.new.waiting.items node n f c.self.invariant.below_next is moved _ next;
      room = room-more b.wire (new_request node n f) rs c.add.new.waiting.items _ moved (let room = c.in_ok-add.ensures.room in omega arith);
    }

pub returns-then-number-lt-LAST_NUMBER-clause-ok : goal.returns-then-number-lt-LAST_NUMBER-clause-ok
returns-then-number-lt-LAST_NUMBER-clause-ok c =
    let b = c.self.inside in
    let rs = b.waiting.items in
    let s = state_of b in
    let node = c.args.node in
    let n = c.unwrap_or-number.result in
    let f = c.args.f.now in
    let is = number_found b.next node n c.copied.result _ c.unwrap_or-number.ensures c.copied.ensures c.get.ensures.value in
    let next = insert-map b.next c.add.new.next node (n + 1) c.in_ok-add.ensures.next in
    after_request-early s rs c.add.new.waiting.items node n f _ refl (distinct-waiting b.wire rs c.self.invariant.distinct)
    (All-waiting (IsBelowNext s) b.wire rs c.self.invariant.below_next) is c.if-number-lt-LAST_NUMBER.true
    c.in_ok-add.ensures.waiting next
    ∙ ap (λ t. after_request t node f) c.self.view_is

-- ---- the last number
pub add-requires-2-clause-heap : goal.add-requires-2-clause-heap
add-requires-2-clause-heap c =
    let b = c.self.inside in
    let node = c.args.node in
    let ranked : c.in_ok-waiting.waiting.items ≡ map (with_rank_in b.waiting.items b.wire node) b.waiting.items =
    c.in_ok-waiting.ensures ∙ ap (λ us. map (with_rank_in us b.wire node) us) c.deref.ensures.value in
    subst IsHeap (sym ranked) (IsHeap-ranks b.waiting.items b.wire node c.self.invariant.heap)

pub invariant_of-self-2 : goal.invariant_of-self-2
unfolding Below
invariant_of-self-2 c =
    let b = c.self.inside in
    let rs = b.waiting.items in
    let s = state_of b in
    let node = c.args.node in
    let n = c.unwrap_or-number.result in
    let f = c.args.f.now in
    let after = c.add-2.new.waiting.items in
    let is = number_found b.next node n c.copied.result _ c.unwrap_or-number.ensures c.copied.ensures c.get.ensures.value in
    let ranked : c.in_ok-waiting.waiting.items ≡ map (with_rank_in rs b.wire node) rs =
    c.in_ok-waiting.ensures ∙ ap (λ us. map (with_rank_in us b.wire node) us) c.deref.ensures.value in
    let number : c.rank.result ≡ rank_in rs b.wire node n = c.rank.ensures.value ∙ ap (λ us. rank_in us b.wire node n) c.deref-2.ensures.value in
    let moved : IsPermutation (new_request node (rank_in rs b.wire node n) f ∷ map (with_rank_in rs b.wire node) rs) after =
    subst (λ (ls : List Waiting). IsPermutation ls after) (λ i. new_request node (number i) f ∷ ranked i) c.in_ok-add-2.ensures.waiting in
    let next = insert-map b.next c.add-2.new.next node (c.rank.result + 1) c.in_ok-add-2.ensures.next ∙ ap (λ k. finmap.insert (from_entries b.next.entries) node (k + 1)) number in
    let carried : c.transmission_with_rank-self-inside.result ≡ option_map (transmission_with_rank_in rs b.wire node) b.wire =
    c.transmission_with_rank-self-inside.ensures.value ∙ ap (λ us. option_map (transmission_with_rank_in us b.wire node) b.wire) c.deref-3.ensures.value in
    record {
      takes_time = c.self.invariant.takes_time;
      heap = c.in_ok-add-2.ensures.heap;
      distinct = subst (λ w. AreNamesDistinct (on_bus w after)) (sym carried)
          (distinct-last_all s b.wire rs after node n f c.self.invariant.below_next is moved c.self.invariant.distinct);
      below_next = subst (λ w. Below (from_entries c.add-2.new.next.entries) (on_bus w after)) (sym carried)
          (below-last_all s b.wire rs after node n f c.self.invariant.below_next is moved _ next);
      room = room-more c.transmission_with_rank-self-inside.result (new_request node (rank_in rs b.wire node n) f) (map (with_rank_in rs b.wire node) rs) after _ moved
          (let room = c.in_ok-add-2.ensures.room in let same = ap length ranked in omega arith);
    }

pub returns-clause-ok : goal.returns-clause-ok
returns-clause-ok c =
    let b = c.self.inside in
    let rs = b.waiting.items in
    let s = state_of b in
    let node = c.args.node in
    let n = c.unwrap_or-number.result in
    let f = c.args.f.now in
    let after = c.add-2.new.waiting.items in
    let is = number_found b.next node n c.copied.result _ c.unwrap_or-number.ensures c.copied.ensures c.get.ensures.value in
    let ranked : c.in_ok-waiting.waiting.items ≡ map (with_rank_in rs b.wire node) rs =
    c.in_ok-waiting.ensures ∙ ap (λ us. map (with_rank_in us b.wire node) us) c.deref.ensures.value in
    let number : c.rank.result ≡ rank_in rs b.wire node n = c.rank.ensures.value ∙ ap (λ us. rank_in us b.wire node n) c.deref-2.ensures.value in
    let moved : IsPermutation (new_request node (rank_in rs b.wire node n) f ∷ map (with_rank_in rs b.wire node) rs) after =
    subst (λ (ls : List Waiting). IsPermutation ls after) (λ i. new_request node (number i) f ∷ ranked i) c.in_ok-add-2.ensures.waiting in
    let next = insert-map b.next c.add-2.new.next node (c.rank.result + 1) c.in_ok-add-2.ensures.next ∙ ap (λ k. finmap.insert (from_entries b.next.entries) node (k + 1)) number in
    let carried : c.transmission_with_rank-self-inside.result ≡ option_map (transmission_with_rank_in rs b.wire node) b.wire =
    c.transmission_with_rank-self-inside.ensures.value ∙ ap (λ us. option_map (transmission_with_rank_in us b.wire node) b.wire) c.deref-3.ensures.value in
    let last : n ≡ last_number = omega arith in
    (λ i. record s { waiting = requests_of after; wire = carried i; next = from_entries c.add-2.new.next.entries })
    ∙ after_request-last s rs after node n f _ refl (distinct-waiting b.wire rs c.self.invariant.distinct)
    (All-waiting (IsBelowNext s) b.wire rs c.self.invariant.below_next) is last moved next
    ∙ ap (λ t. after_request t node f) c.self.view_is
