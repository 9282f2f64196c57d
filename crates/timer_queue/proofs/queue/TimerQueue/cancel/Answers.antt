-- The settings without those of a timer are settings of timers.
use Rattle.timer_queue.specs.Timers.{after_cancel}
use Rattle.timer_queue.specs.Fields.TimerQueue.{timers_of}
use Rattle.timer_queue.proofs.TimersLemmas.{IsTimers-after_cancel, still_timers}
use Rattle.timer_queue.proofs.queue.TimerQueue.cancel.Goals as goal

pub invariant_of-self : goal.invariant_of-self
invariant_of-self c =
    still_timers (after_cancel (timers_of c.self.inside) c.args.timer) (timers_of (record { slots = c.remove.new.slots }))
    (IsTimers-after_cancel (timers_of c.self.inside) c.args.timer c.self.invariant) c.remove.ensures.timers c.remove.ensures.others

pub returns-clause-valid : goal.returns-clause-valid
returns-clause-valid c =
    still_timers (after_cancel (timers_of c.self.inside) c.args.timer) (timers_of (record { slots = c.remove.new.slots }))
    (IsTimers-after_cancel (timers_of c.self.inside) c.args.timer c.self.invariant) c.remove.ensures.timers c.remove.ensures.others
