-- The oldest due setting fires, and the settings are those of timers again.
use Rattle.std.proofs.Common.{◌++◌, arith, ap, sym, ◌∙◌}
use Rattle.timer_queue.specs.Timers.{is_active, others, again, after_firing}
use Rattle.timer_queue.specs.Inside.Slots.{SlotList, settings_in}
use Rattle.timer_queue.specs.Fields.TimerQueue.{timers_of}
use Rattle.timer_queue.proofs.TimersLemmas.{fired_known, period_fits, others_inactive, IsTimers-after_firing, still_timers}
use Rattle.timer_queue.proofs.queue.TimerQueue.take_due.Goals as goal

pub remove-requires : goal.remove-requires
remove-requires c =
    let is = sym c.first_due.ensures.first ∙ c.in_ok-fired.was in
    let fired = fired_known (timers_of c.self.inside) c.args.now c.in_ok-fired.fired c.self.invariant is in
    omega (arith, fired.exists, ap (λ (v : SlotList). v.timers) c.first_due.ensures.same)

pub set_again-requires-clause-exists : goal.set_again-requires-clause-exists
set_again-requires-clause-exists c =
    let is = sym c.first_due.ensures.first ∙ c.in_ok-fired.was in
    let fired = fired_known (timers_of c.self.inside) c.args.now c.in_ok-fired.fired c.self.invariant is in
    omega (arith, fired.exists, c.remove.ensures.timers, ap (λ (v : SlotList). v.timers) c.first_due.ensures.same)

pub set_again-requires-clause-inactive : goal.set_again-requires-clause-inactive
set_again-requires-clause-inactive c =
    ap (λ ss. is_active ss c.in_ok-fired.fired.timer) c.remove.ensures.others
    ∙ others_inactive (settings_in c.first_due.new.self.slots) c.in_ok-fired.fired.timer

pub set_again-requires-clause-in_range : goal.set_again-requires-clause-in_range
set_again-requires-clause-in_range c =
    let is = sym c.first_due.ensures.first ∙ c.in_ok-fired.was in
    let fired = fired_known (timers_of c.self.inside) c.args.now c.in_ok-fired.fired c.self.invariant is in
    period_fits c.in_ok-fired.fired.period c.in_ok-fired.fired.due c.args.now fired.due c.requires fired.period

pub invariant_of-self-2 : goal.invariant_of-self-2
invariant_of-self-2 c =
    let is = sym c.first_due.ensures.first ∙ c.in_ok-fired.was in
    let fired = fired_known (timers_of c.self.inside) c.args.now c.in_ok-fired.fired c.self.invariant is in
    let left = c.remove.ensures.others ∙ ap (λ (v : SlotList). others (settings_in v.slots) c.in_ok-fired.fired.timer) c.first_due.ensures.same in
    still_timers (record (timers_of c.self.inside) { settings = after_firing (settings_in c.self.inside.slots.slots) c.in_ok-fired.fired })
    (timers_of (record { slots = c.set_again.new.slots }))
    (IsTimers-after_firing (timers_of c.self.inside) c.args.now c.in_ok-fired.fired c.self.invariant fired)
    (c.set_again.ensures.timers ∙ c.remove.ensures.timers ∙ ap (λ (v : SlotList). v.timers) c.first_due.ensures.same)
    (c.set_again.ensures.added ∙ ap (λ ss. ss ++ again c.in_ok-fired.fired) left)

pub returns-clause-valid : goal.returns-clause-valid
returns-clause-valid c =
    let is = sym c.first_due.ensures.first ∙ c.in_ok-fired.was in
    let fired = fired_known (timers_of c.self.inside) c.args.now c.in_ok-fired.fired c.self.invariant is in
    let left = c.remove.ensures.others ∙ ap (λ (v : SlotList). others (settings_in v.slots) c.in_ok-fired.fired.timer) c.first_due.ensures.same in
    still_timers (record (timers_of c.self.inside) { settings = after_firing (settings_in c.self.inside.slots.slots) c.in_ok-fired.fired })
    (timers_of (record { slots = c.set_again.new.slots }))
    (IsTimers-after_firing (timers_of c.self.inside) c.args.now c.in_ok-fired.fired c.self.invariant fired)
    (c.set_again.ensures.timers ∙ c.remove.ensures.timers ∙ ap (λ (v : SlotList). v.timers) c.first_due.ensures.same)
    (c.set_again.ensures.added ∙ ap (λ ss. ss ++ again c.in_ok-fired.fired) left)
