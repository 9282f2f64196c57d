-- All are in order but the request that sinks, and what is below it is in order with what is above it.
use Rattle.std.proofs.Common.{◌≡◌, ◌-◌, length}
use Rattle.std.specs.List.Sorted.{IsPermutation}
use Rattle.bus_heap.proofs.HeapLemmas.{Sinks}
use Rattle.bus_heap.proofs.heap.sift_down.Given as goal

abbrev pub invariant-loop-below : goal.invariant-loop-below
invariant-loop-below l = record {
  long : length l.heap ≡ length l.initial.heap;
  same : IsPermutation l.initial.heap l.heap;
  sinks : Sinks l.heap l.fn.start l.place;
}

abbrev pub decreases-loop-below : goal.decreases-loop-below
decreases-loop-below l = length l.initial.heap - l.place
