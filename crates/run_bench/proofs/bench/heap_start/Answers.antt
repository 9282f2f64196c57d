-- Nothing is on a new bus.
use Rattle.run_bench.proofs.NewBus.{frames_are_real, nothing_due}
use Rattle.run_bench.proofs.bench.heap_start.Goals as goal

pub start_on-requires-clause-new_bus : goal.start_on-requires-clause-new_bus
start_on-requires-clause-new_bus c = nothing_due c.make-bus.result c.in_ok-course.course.bit c.make-bus.ensures

pub start_on-requires-clause-frames : goal.start_on-requires-clause-frames
start_on-requires-clause-frames c = frames_are_real c.make-bus.result c.in_ok-course.course.bit c.make-bus.ensures
