-- The request rises one place.
use Rattle.std.proofs.Common.{◌-◌, ◌/◌, refl, sym, ◌∙◌, arith}
use Rattle.std.proofs.lemmas.List.Sorted.{IsPermutation-trans}
use Rattle.bus_heap.proofs.HeapLemmas.{read_test, Rises-up}
use Rattle.bus_heap.proofs.heap.sift_up.Goals as goal

pub loop-place-preserved : goal.loop-place-preserved
loop-place-preserved c =
    let place = c.loop-place.place in
    let rs = c.loop-place.heap in
    let within = c.loop-place.invariant.rises.within in
    record {
      long = omega arith;
      same = IsPermutation-trans c.args.heap.now rs c.swap.new.self c.loop-place.invariant.same c.swap.ensures.permutation;
      rises = Rises-up rs c.swap.new.self place ((place - 1) / 2) refl c.loop-place-test.true c.swap.ensures.after c.loop-place.invariant.rises
          (read_test rs place ((place - 1) / 2) c.index-heap-place.result c.index-heap-above.result _ (omega arith) (omega arith) c.index-heap-place.is c.index-heap-above.is (sym c.goes_before.ensures ∙ c.if-not-goes_before.false));
    }
