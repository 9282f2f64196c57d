-- Which of the two places below is given.
use Rattle.std.proofs.Common.{◌+◌, ◌*◌, sym, ◌∙◌, arith}
use Rattle.bus_heap.proofs.HeapLemmas.{read_test, IsFirstBelow-second, IsFirstBelow-first}
use Rattle.bus_heap.proofs.heap.first_below.Goals as goal
use Rattle.bus_heap.proofs.heap.first_below.Goals.{else-next-heap-via-then-next-heap+else-goes_before, else-next-heap-via-else-next-heap}

pub returns-then-goes_before-clause-some : goal.returns-then-goes_before-clause-some
returns-then-goes_before-clause-some c =
    IsFirstBelow-second c.args.heap.now c.args.place (2 * c.args.place + 1) (omega arith) (omega arith)
    (read_test c.args.heap.now _ _ c.index-heap-next.result c.index-heap-below.result _ (omega arith) (omega arith) c.index-heap-next.is c.index-heap-below.is (sym c.goes_before.ensures ∙ c.if-goes_before.true))

pub returns-clause-some : goal.returns-clause-some
returns-clause-some c =
    IsFirstBelow-first c.args.heap.now c.args.place (2 * c.args.place + 1) (omega arith) (omega arith)
    (elim c.else-next-heap.branch [
      | else-next-heap-via-then-next-heap+else-goes_before w ↦ λ inside.
          read_test c.args.heap.now _ _ w.index-heap-next.result w.index-heap-below.result _ (omega arith) (omega arith) w.index-heap-next.is w.index-heap-below.is (sym w.goes_before.ensures ∙ w.if-goes_before.false)
      | else-next-heap-via-else-next-heap w ↦ λ inside. absurd (omega arith)
    ])
