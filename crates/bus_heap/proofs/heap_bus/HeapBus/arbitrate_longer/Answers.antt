-- The first of the heap leaves it and begins.
use Rattle.std.proofs.Common.{◌≡◌, ◌∷◌, ◌+◌, ◌*◌, ap, sym, ◌∙◌, refl, arith}
use Rattle.std.specs.Prelude.{is_some, None}
use Rattle.std.proofs.lemmas.Bool.Decides.{nat_tests}
use Rattle.std.proofs.lemmas.List.Sorted.{All-permutation, length_permutation}
use Rattle.can_bus.specs.Bus.{is_free, winner_at}
use Rattle.can_bus.specs.Ranks.{IsBelowNext}
use Rattle.bus_heap.specs.Retransmission.{after_longer_arbitration}
use Rattle.bus_heap.specs.Inside.HeapBus.{state_of}
use Rattle.bus_heap.proofs.SetLemmas.{distinct-permutation, len-list}
use Rattle.bus_heap.proofs.OnBus.{distinct-waiting, All-waiting, length-waiting}
use Rattle.bus_heap.proofs.ArbitrationLemmas.{winner_at-nothing, winner_at-busy, winner_at-first, longer_arbitration-nothing, begins}
use Rattle.bus_heap.proofs.heap_bus.HeapBus.arbitrate_longer.Goals as goal

-- ---- nothing begins
pub returns-then-not-is_free-clause-state : goal.returns-then-not-is_free-clause-state
returns-then-not-is_free-clause-state c =
    sym (longer_arbitration-nothing c.args.self.now c.args.now c.args.bits (winner_at-busy c.args.self.now c.args.now (sym c.is_free.ensures ∙ c.if-not-is_free.true)))

pub returns-then-not-is_free-clause-begins : goal.returns-then-not-is_free-clause-begins
returns-then-not-is_free-clause-begins c =
    sym (ap is_some (winner_at-busy c.args.self.now c.args.now (sym c.is_free.ensures ∙ c.if-not-is_free.true)))

pub returns-then-is_empty-clause-state : goal.returns-then-is_empty-clause-state
returns-then-is_empty-clause-state c =
    let rs = c.self.inside.waiting.items in
    let none : winner_at (state_of c.self.inside) c.args.now ≡ None =
    winner_at-nothing (state_of c.self.inside) c.args.now (len-list rs (distinct-waiting c.self.inside.wire rs c.self.invariant.distinct) ∙ grind (arith, nat_tests)) in
    sym (longer_arbitration-nothing c.args.self.now c.args.now c.args.bits (ap (λ s. winner_at s c.args.now) (sym c.self.view_is) ∙ none))

pub returns-then-is_empty-clause-begins : goal.returns-then-is_empty-clause-begins
returns-then-is_empty-clause-begins c =
    let rs = c.self.inside.waiting.items in
    let none : winner_at (state_of c.self.inside) c.args.now ≡ None =
    winner_at-nothing (state_of c.self.inside) c.args.now (len-list rs (distinct-waiting c.self.inside.wire rs c.self.invariant.distinct) ∙ grind (arith, nat_tests)) in
    sym (ap is_some (ap (λ s. winner_at s c.args.now) (sym c.self.view_is) ∙ none))

-- ---- the first begins
pub invariant_of-self : goal.invariant_of-self
invariant_of-self c =
    let b = c.self.inside in
    let rs = b.waiting.items in
    let r = c.take_first-request.result in
    let after = c.take_first-request.new.heap.items in
    let taken = c.take_first-request.ensures.taken in
    record {
      takes_time = c.self.invariant.takes_time;
      heap = taken.heap;
      distinct = distinct-permutation rs (r ∷ after) taken.others (distinct-waiting b.wire rs c.self.invariant.distinct);
      below_next = All-permutation (IsBelowNext (state_of b)) rs (r ∷ after) taken.others (All-waiting (IsBelowNext (state_of b)) b.wire rs c.self.invariant.below_next);
      room =
          let same = c.take_first-request.ensures.room in
          let room = c.self.invariant.room in
          let long = length_permutation rs (r ∷ after) taken.others in
          let fewer = length-waiting b.wire rs in
          omega arith;
    }

pub returns-clause-state : goal.returns-clause-state
returns-clause-state c =
    begins (state_of c.self.inside) c.self.inside.waiting.items c.take_first-request.new.heap.items c.args.now c.take_first-request.result refl
    (distinct-waiting c.self.inside.wire c.self.inside.waiting.items c.self.invariant.distinct) c.take_first-request.ensures.taken
    (ap (λ t. is_free t c.args.now) c.self.view_is ∙ sym c.is_free.ensures ∙ c.if-not-is_free.false)
    c.args.bits (c.time_on_wire.result + c.from.result * c.from-2.result) c.intermission.result
    ((λ i. c.time_on_wire.ensures.value i + c.from.ensures i * c.from-2.ensures i)) c.intermission.ensures
    ∙ ap (λ t. after_longer_arbitration t c.args.now c.args.bits) c.self.view_is

pub returns-clause-begins : goal.returns-clause-begins
returns-clause-begins c =
    sym (ap is_some (ap (λ t. winner_at t c.args.now) (sym c.self.view_is)
    ∙ winner_at-first (state_of c.self.inside) c.self.inside.waiting.items c.take_first-request.new.heap.items c.args.now c.take_first-request.result refl
    (distinct-waiting c.self.inside.wire c.self.inside.waiting.items c.self.invariant.distinct) c.take_first-request.ensures.taken
    (ap (λ t. is_free t c.args.now) c.self.view_is ∙ sym c.is_free.ensures ∙ c.if-not-is_free.false)))
