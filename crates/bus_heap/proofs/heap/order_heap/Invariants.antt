-- From the place on the requests are in the order of a heap.
use Rattle.std.proofs.Common.{◌≡◌, ◌≤◌, length}
use Rattle.std.specs.List.Sorted.{IsPermutation}
use Rattle.bus_heap.specs.Inside.Heap.{IsHeapFrom}
use Rattle.bus_heap.proofs.heap.order_heap.Given as goal

abbrev pub invariant-loop-place : goal.invariant-loop-place
invariant-loop-place l = record {
  long : length l.heap ≡ length l.initial.heap;
  within : l.place ≤ length l.heap;
  same : IsPermutation l.initial.heap l.heap;
  order : IsHeapFrom l.place l.heap;
}

abbrev pub decreases-loop-place : goal.decreases-loop-place
decreases-loop-place l = l.place
