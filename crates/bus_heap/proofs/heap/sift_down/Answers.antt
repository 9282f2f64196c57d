-- The request sinks one place, and stays where none below goes before it.
use Rattle.std.proofs.Common.{sym, ◌∙◌, arith}
use Rattle.std.proofs.lemmas.List.Sorted.{IsPermutation-trans}
use Rattle.bus_heap.proofs.HeapLemmas.{read_test, Sinks-down, Sinks-rests}
use Rattle.bus_heap.proofs.heap.sift_down.Goals as goal

pub returns-then-not-goes_before-clause-order : goal.returns-then-not-goes_before-clause-order
returns-then-not-goes_before-clause-order c =
    let place = c.loop-below.place in
    let below = c.in-Some.below in
    let rs = c.loop-below.heap in
    let first = c.in-Some.ensures.some in
    let edge = first.below in
    let inside = first.within in
    Sinks-rests rs c.args.start place below first
    (read_test rs below place c.index-heap-below.result c.index-heap-place.result _ inside (omega arith) c.index-heap-below.is c.index-heap-place.is (sym c.goes_before.ensures ∙ c.if-not-goes_before.true))
    c.loop-below.invariant.sinks

pub loop-below-preserved : goal.loop-below-preserved
loop-below-preserved c =
    let place = c.loop-below.place in
    let below = c.in-Some.below in
    let rs = c.loop-below.heap in
    let first = c.in-Some.ensures.some in
    let edge = first.below in
    let inside = first.within in
    record {
      long = omega arith;
      same = IsPermutation-trans c.args.heap.now rs c.swap.new.self c.loop-below.invariant.same c.swap.ensures.permutation;
      sinks = Sinks-down rs c.swap.new.self c.args.start place below c.swap.ensures.after c.loop-below.invariant.sinks first
          (read_test rs below place c.index-heap-below.result c.index-heap-place.result _ inside (omega arith) c.index-heap-below.is c.index-heap-place.is (sym c.goes_before.ensures ∙ c.if-not-goes_before.false));
    }
