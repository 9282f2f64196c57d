-- The list is the set's members as a heap.
use Rattle.std.proofs.Common.{◌-◌, ◌/◌, List, get_or, sym, subst, inl, inr, arith}
use Rattle.std.specs.List.Sorted.{IsPermutation}
use Rattle.std.proofs.lemmas.List.Sorted.{IsPermutation-sym}
use Rattle.can_bus.specs.declared.waiting.Waiting.{Waiting}
use Rattle.can_bus.specs.Waiting.{requests_of, members}
use Rattle.can_bus.specs.Bus.{BusState}
use Rattle.can_bus.proofs.Precedence.{goes_before-decides, one_goes_first}
use Rattle.bus_heap.specs.Heap.{IsInHeapOrder}
use Rattle.bus_heap.specs.Inside.Heap.{IsHeap}
use Rattle.bus_heap.specs.Inside.HeapBus.{AreNamesDistinct}
use Rattle.bus_heap.proofs.OnBus.{distinct-waiting}
use Rattle.bus_heap.proofs.SetLemmas.{members-permutation, distinct-places}
use Rattle.bus_heap.proofs.heap_bus.HeapBus.waiting.Goals as goal

pub returns-clause-members : goal.returns-clause-members
returns-clause-members c =
    let rs = c.self.inside.waiting.items in
    let moved = IsPermutation-sym rs (members (requests_of rs)) (members-permutation rs (distinct-waiting c.self.inside.wire rs c.self.invariant.distinct)) in
    subst (λ (s : BusState). IsPermutation (members s.waiting) c.deref.result.now) c.self.view_is
    (subst (IsPermutation (members (requests_of rs))) (sym c.deref.ensures.value) moved)

in_order : (rs : List Waiting) → IsHeap rs → AreNamesDistinct rs → IsInHeapOrder rs
in_order rs h distinct place d behind low =
    let above = (place - 1) / 2 in
    elim (one_goes_first (get_or rs place d) (get_or rs above d) (h above place (omega arith, omega arith) low d)) [
      | inl same ↦ absurd (distinct-places rs above place d distinct (omega arith) low same)
      | inr before ↦ (goes_before-decides (get_or rs above d) (get_or rs place d)).0 before
    ]

pub returns-clause-order : goal.returns-clause-order
returns-clause-order c =
    subst IsInHeapOrder (sym c.deref.ensures.value) (in_order c.self.inside.waiting.items c.self.invariant.heap
    (distinct-waiting c.self.inside.wire c.self.inside.waiting.items c.self.invariant.distinct))
