-- The next wait is a low too.
use Rattle.std.proofs.Common.{ap₂, ◌+◌}
use Rattle.load_bound.proofs.starts.settled.Goals as goal

pub loop-wait-preserved : goal.loop-wait-preserved
loop-wait-preserved c =
    c.next_wait-wait.ensures.low c.args.stream.now c.busiest-busiest.ensures (ap₂ (λ a b. a + b) c.blocking-blocking.ensures.value c.interference.ensures.value) c.loop-wait.invariant
