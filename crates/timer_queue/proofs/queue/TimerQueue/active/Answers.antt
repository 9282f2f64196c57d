-- A timer with a place is active.
use Rattle.std.proofs.Common.{ap, ◌∙◌}
use Rattle.timer_queue.specs.Timers.{Timers, is_active}
use Rattle.timer_queue.proofs.QueueLemmas.{active_known}
use Rattle.timer_queue.proofs.queue.TimerQueue.active.Goals as goal

pub returns : goal.returns
returns c =
    c.is_some.ensures ∙ active_known c.self.inside.slots.slots c.args.timer c.place_of.result c.place_of.ensures
    ∙ ap (λ (t : Timers). is_active t.settings c.args.timer) c.self.view_is
