-- One more request sinks to its place.
use Rattle.std.proofs.Common.{arith}
use Rattle.std.proofs.lemmas.List.Sorted.{IsPermutation-trans}
use Rattle.bus_heap.proofs.heap.order_heap.Goals as goal

pub loop-place-preserved : goal.loop-place-preserved
loop-place-preserved c =
    let sunk = c.sift_down.new.heap in
    let kept = c.loop-place.invariant in
    record {
      long = omega arith;
      within = omega arith;
      same = IsPermutation-trans c.args.heap.now c.loop-place.heap sunk kept.same c.sift_down.ensures.same;
      order = c.sift_down.ensures.order;
    }
