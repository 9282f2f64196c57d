-- The first request leaves, and the last sinks from its place.
use Rattle.std.proofs.Common.{◌≡◌, List, ◌∷◌, sym, subst, arith}
use Rattle.std.specs.List.Sorted.{IsPermutation}
use Rattle.std.specs.Vec.{with_items}
use Rattle.std.proofs.lemmas.List.{with_items_is}
use Rattle.std.proofs.lemmas.List.Sorted.{IsPermutation-trans, IsPermutation-cons, IsPermutation-swap_remove}
use Rattle.can_bus.specs.declared.waiting.Waiting.{Waiting}
use Rattle.bus_heap.specs.Inside.Heap.{IsTakenFirst}
use Rattle.bus_heap.proofs.HeapLemmas.{none_before_first, IsHeap-from_first}
use Rattle.bus_heap.proofs.heap.take_first.Goals as goal

pub returns-clause-taken : goal.returns-clause-taken
returns-clause-taken c =
    let rs = c.args.heap.now.items in
    let r = c.swap_remove-first.result in
    let left = c.swap_remove-first.new.self in
    let sunk = c.sift_down.new.heap in
    let e : (with_items left sunk).items ≡ sunk = with_items_is left sunk (omega arith) in
    let moved : IsPermutation rs (r ∷ left.items) =
    subst (λ (ls : List Waiting). IsPermutation rs (r ∷ ls)) (sym c.swap_remove-first.ensures.items) (IsPermutation-swap_remove rs 0 r (omega arith) c.swap_remove-first.ensures.value) in
    let sunk_moves : IsPermutation left.items sunk =
    subst (λ (ls : List Waiting). IsPermutation ls sunk) c.deref_mut.ensures.value c.sift_down.ensures.same in
    subst (λ (ls : List Waiting). IsTakenFirst rs ls r) (sym e) (record {
      first = none_before_first rs r c.requires.heap c.swap_remove-first.ensures.value;
      others = IsPermutation-trans rs (r ∷ left.items) (r ∷ sunk) moved (IsPermutation-cons r left.items sunk sunk_moves);
      heap = IsHeap-from_first sunk c.sift_down.ensures.order;
    })
