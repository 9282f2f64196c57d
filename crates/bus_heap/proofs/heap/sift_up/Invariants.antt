-- All are in order but the request that rises, and what is below it is in order with what is above it.
use Rattle.std.proofs.Common.{◌≡◌, length}
use Rattle.std.specs.List.Sorted.{IsPermutation}
use Rattle.bus_heap.proofs.HeapLemmas.{Rises}
use Rattle.bus_heap.proofs.heap.sift_up.Given as goal

abbrev pub invariant-loop-place : goal.invariant-loop-place
invariant-loop-place l = record {
  long : length l.heap ≡ length l.initial.heap;
  same : IsPermutation l.initial.heap l.heap;
  rises : Rises l.heap l.place;
}

abbrev pub decreases-loop-place : goal.decreases-loop-place
decreases-loop-place l = l.place
