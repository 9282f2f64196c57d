-- A timer that is set is active.
use Rattle.std.proofs.Common.{arith, ap, ◌∙◌}
use Rattle.timer_queue.specs.Timers.{Timers, active_timers}
use Rattle.node_run.proofs.ActiveTimers.{active-after_set, length-active_timers}
use Rattle.node_run.proofs.host.NodeHostHost.set_timer.Goals as goal

pub set-requires-clause-exists : goal.set-requires-clause-exists
set-requires-clause-exists g c = omega (arith, c.requires.exists, length-active_timers c.args.self.now.timers.now)

pub returns-then-not-self-clause-activates : goal.returns-then-not-self-clause-activates
returns-then-not-self-clause-activates g c open_host =
    ap (λ (t : Timers). active_timers t) c.set.ensures.set ∙ active-after_set c.args.self.now.timers.now c.args.timer c.args.self.now.moment c.args.micros c.args.cyclic
