-- A cancelled timer is not active.
use Rattle.std.proofs.Common.{◌<◌, arith, rules, ap, ◌∙◌}
use Rattle.timer_queue.specs.Timers.{Timers, active_timers}
use Rattle.node_run.proofs.ActiveTimers.{active-after_cancel, length-active_timers}
use Rattle.node_run.proofs.host.NodeHostHost.cancel.Goals as goal

pub cancel-requires : goal.cancel-requires
cancel-requires g c = omega (arith, c.requires, length-active_timers c.args.self.now.timers.now)

pub returns-then-not-self-clause-taken : goal.returns-then-not-self-clause-taken
returns-then-not-self-clause-taken g c =
    let within : c.args.timer < c.args.self.now.timers.now.count = omega (arith, c.requires, length-active_timers c.args.self.now.timers.now) in
    record { taken = λ open_host. (search rules, search rules, search rules, (within, search rules)); passed = search rules }

pub returns-then-not-self-clause-deactivates : goal.returns-then-not-self-clause-deactivates
returns-then-not-self-clause-deactivates g c open_host = ap (λ (t : Timers). active_timers t) c.cancel.ensures.cancelled ∙ active-after_cancel c.args.self.now.timers.now c.args.timer
