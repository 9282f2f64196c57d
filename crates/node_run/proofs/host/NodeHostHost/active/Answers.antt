-- A timer that the host has is a timer of the queue.
use Rattle.std.proofs.Common.{◌<◌, arith, sym, ◌∙◌}
use Rattle.node_run.proofs.ActiveTimers.{get_or-active_timers, length-active_timers}
use Rattle.node_run.proofs.host.NodeHostHost.active.Goals as goal

pub active-requires : goal.active-requires
active-requires g c = omega (arith, c.requires, length-active_timers c.args.self.now.timers.now)

pub returns : goal.returns
returns g c =
    let within : c.args.timer < c.args.self.now.timers.now.count = omega (arith, c.requires, length-active_timers c.args.self.now.timers.now) in
    c.active.ensures ∙ sym (get_or-active_timers c.args.self.now.timers.now c.args.timer within)
