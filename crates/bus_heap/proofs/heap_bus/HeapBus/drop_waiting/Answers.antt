-- The requests of other nodes stay.
use Rattle.std.proofs.Common.{ap, ◌∙◌, arith}
use Rattle.can_bus.specs.Ranks.{IsBelowNext}
use Rattle.can_bus.specs.Bus.{BusState}
use Rattle.bus_heap.specs.Retransmission.{without_waiting_of}
use Rattle.bus_heap.specs.Inside.HeapBus.{state_of}
use Rattle.bus_heap.proofs.Dropped.{requests_of-dropped, distinct-dropped, All-dropped, length-dropped}
use Rattle.bus_heap.proofs.heap_bus.HeapBus.drop_waiting.Goals as goal

pub invariant_of-self : goal.invariant_of-self
invariant_of-self c =
    let b = c.self.inside in
    let rs = b.waiting.items in
    let after = c.drop_node.new.heap.items in
    let moved = c.drop_node.ensures.members in
    record {
      takes_time = c.self.invariant.takes_time;
      heap = c.drop_node.ensures.heap;
      distinct = distinct-dropped c.args.node b.wire rs after moved c.self.invariant.distinct;
      below_next = All-dropped c.args.node b.wire rs after moved (IsBelowNext (state_of b)) c.self.invariant.below_next;
      room =
          let same = c.drop_node.ensures.room in
          let room = c.self.invariant.room in
          let fewer = length-dropped c.args.node b.wire rs after moved in
          omega arith;
    }

pub returns-clause-state : goal.returns-clause-state
returns-clause-state c =
    let b = c.self.inside in
    let s : BusState = state_of b in
    ap (λ w. record s { waiting = w }) (requests_of-dropped c.args.node b.wire b.waiting.items c.drop_node.new.heap.items c.drop_node.ensures.members c.self.invariant.distinct)
    ∙ ap (λ t. without_waiting_of t c.args.node) c.self.view_is
