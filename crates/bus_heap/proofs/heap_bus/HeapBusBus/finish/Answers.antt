-- What ends leaves the others as they are.
use Rattle.std.proofs.Common.{arith}
use Rattle.can_bus.specs.Ranks.{IsBelowNext}
use Rattle.bus_heap.specs.Inside.HeapBus.{state_of}
use Rattle.bus_heap.proofs.OnBus.{distinct-waiting, All-waiting, length-waiting}
use Rattle.bus_heap.proofs.heap_bus.HeapBusBus.finish.Goals as goal

pub invariant_of-self : goal.invariant_of-self
invariant_of-self c =
    let b = c.self.inside in
    let rs = b.waiting.items in
    record {
      takes_time = c.self.invariant.takes_time;
      heap = c.self.invariant.heap;
      distinct = distinct-waiting b.wire rs c.self.invariant.distinct;
      below_next = All-waiting (IsBelowNext (state_of b)) b.wire rs c.self.invariant.below_next;
      room = let room = c.self.invariant.room in let fewer = length-waiting b.wire rs in omega arith;
    }
