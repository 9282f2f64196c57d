-- What is due where the wire is empty.
use Rattle.std.proofs.Common.{ap, sym, ◌∙◌, arith}
use Rattle.std.proofs.lemmas.Bool.Decides.{nat_tests}
use Rattle.can_bus.specs.Bus.{next_moment}
use Rattle.bus_heap.proofs.OnBus.{distinct-waiting}
use Rattle.bus_heap.proofs.ArbitrationLemmas.{due-nothing, due-free}
use Rattle.bus_heap.proofs.heap_bus.HeapBusBus.next_time.Goals as goal

pub returns-then-is_empty-clause-moment : goal.returns-then-is_empty-clause-moment
returns-then-is_empty-clause-moment c =
    sym (due-nothing _ c.self.inside.waiting.items c.self.inside.free c.in_default.is (distinct-waiting c.self.inside.wire c.self.inside.waiting.items c.self.invariant.distinct) (grind (arith, nat_tests)))
    ∙ ap next_moment c.self.view_is

pub returns-clause-moment : goal.returns-clause-moment
returns-clause-moment c =
    sym (due-free _ c.self.inside.waiting.items c.self.inside.free c.in_default.is (distinct-waiting c.self.inside.wire c.self.inside.waiting.items c.self.invariant.distinct) (grind (arith, nat_tests)))
    ∙ ap next_moment c.self.view_is
