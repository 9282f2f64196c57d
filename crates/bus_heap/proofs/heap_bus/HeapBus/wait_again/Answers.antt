-- The request from the wire enters the heap.
use Rattle.std.proofs.Common.{◌≡◌, ◌∷◌, ap, subst, sym, ◌∙◌, length, arith}
use Rattle.std.specs.Prelude.{◌≤◌, Some, vec_capacity}
use Rattle.std.specs.List.{All}
use Rattle.std.proofs.lemmas.List.Sorted.{All-permutation, length_permutation}
use Rattle.can_bus.specs.Ranks.{IsBelowNext}
use Rattle.can_bus.specs.Bus.{BusState}
use Rattle.bus_heap.specs.Retransmission.{with_wire_waiting}
use Rattle.bus_heap.specs.Inside.HeapBus.{state_of, AreNamesDistinct, on_bus}
use Rattle.bus_heap.proofs.SetLemmas.{distinct-permutation, requests_of-more}
use Rattle.bus_heap.proofs.heap_bus.HeapBus.wait_again.Goals as goal

pub add_within-requires-clause-room : goal.add_within-requires-clause-room
add_within-requires-clause-room c =
    let b = c.self.inside in
    let rs = b.waiting.items in
    let t = c.in-Some.carried in
    let was : b.wire ≡ Some t = sym c.in-Some.ensures.value in
    let all : length (t.request ∷ rs) ≤ vec_capacity b.waiting = subst (λ w. length (on_bus w rs) ≤ vec_capacity b.waiting) was c.self.invariant.room in
    omega arith

pub invariant_of-self : goal.invariant_of-self
invariant_of-self c =
    let b = c.self.inside in
    let rs = b.waiting.items in
    let t = c.in-Some.carried in
    let after = c.add_within.new.heap.items in
    let was : b.wire ≡ Some t = sym c.in-Some.ensures.value in
    let moved = c.add_within.ensures.members in
    let distinct : AreNamesDistinct (t.request ∷ rs) = subst (λ w. AreNamesDistinct (on_bus w rs)) was c.self.invariant.distinct in
    let below : All (IsBelowNext (state_of b)) (t.request ∷ rs) = subst (λ w. All (IsBelowNext (state_of b)) (on_bus w rs)) was c.self.invariant.below_next in
    let all : length (t.request ∷ rs) ≤ vec_capacity b.waiting = subst (λ w. length (on_bus w rs) ≤ vec_capacity b.waiting) was c.self.invariant.room in
    let long = length_permutation (t.request ∷ rs) after moved in
    let more = c.add_within.ensures.room in
    let fits : length after ≤ vec_capacity c.add_within.new.heap = omega arith in
    record {
      takes_time = c.self.invariant.takes_time;
      heap = c.add_within.ensures.heap;
      distinct = subst (λ w. AreNamesDistinct (on_bus w after)) (sym c.take.ensures.after) (distinct-permutation (t.request ∷ rs) after moved distinct);
      below_next = subst (λ w. All (IsBelowNext (state_of b)) (on_bus w after)) (sym c.take.ensures.after)
          (All-permutation (IsBelowNext (state_of b)) (t.request ∷ rs) after moved below);
      room = subst (λ w. length (on_bus w after) ≤ vec_capacity c.add_within.new.heap) (sym c.take.ensures.after) fits;
    }

pub returns-in-Some-clause-state : goal.returns-in-Some-clause-state
returns-in-Some-clause-state c =
    let b = c.self.inside in
    let rs = b.waiting.items in
    let t = c.in-Some.carried in
    let after = c.add_within.new.heap.items in
    let s : BusState = state_of b in
    let was : b.wire ≡ Some t = sym c.in-Some.ensures.value in
    let distinct : AreNamesDistinct (t.request ∷ rs) = subst (λ w. AreNamesDistinct (on_bus w rs)) was c.self.invariant.distinct in
    let waits = requests_of-more rs after t.request c.add_within.ensures.members distinct in
    (λ i. record s { waiting = waits i; wire = c.take.ensures.after i })
    ∙ sym (ap (λ w. with_wire_waiting (record s { wire = w })) was)
    ∙ ap with_wire_waiting c.self.view_is
