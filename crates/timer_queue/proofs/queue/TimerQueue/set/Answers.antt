-- A timer's new setting is its only one, and the settings are those of timers.
use Rattle.std.proofs.Common.{◌<◌, [], ◌∷◌, ◌++◌, arith, ap, ◌∙◌}
use Rattle.timer_queue.specs.declared.setting.Setting.{Setting}
use Rattle.timer_queue.specs.Timers.{Timers, is_active, others, after_set}
use Rattle.timer_queue.specs.Inside.Slots.{settings_in}
use Rattle.timer_queue.specs.Fields.TimerQueue.{timers_of}
use Rattle.timer_queue.proofs.TimersLemmas.{others_inactive, IsTimers-after_set, still_timers}
use Rattle.timer_queue.proofs.queue.TimerQueue.set.Goals as goal

pub add-requires-clause-inactive : goal.add-requires-clause-inactive
add-requires-clause-inactive c =
    let inactive = ap (λ ss. is_active ss c.args.timer) c.remove.ensures.others ∙ others_inactive (settings_in c.self.inside.slots.slots) c.args.timer in
    ap (λ (s : Setting). is_active (settings_in c.remove.new.slots.slots) s.timer) c.setting_at.ensures ∙ inactive

pub invariant_of-self : goal.invariant_of-self
invariant_of-self c =
    let exists : c.args.timer < c.self.inside.slots.timers = omega (arith, c.requires.exists, ap (λ (t : Timers). t.count) c.self.view_is) in
    still_timers (after_set (timers_of c.self.inside) c.args.timer c.args.now c.args.micros c.args.cyclic) (timers_of (record { slots = c.add.new.slots }))
    (IsTimers-after_set (timers_of c.self.inside) c.args.timer c.args.now c.args.micros c.args.cyclic c.self.invariant exists (c.requires.later, c.requires.in_range))
    (c.add.ensures.timers ∙ c.remove.ensures.timers)
    (c.add.ensures.added ∙ ap (λ ss. ss ++ c.setting_at.result ∷ []) c.remove.ensures.others ∙ ap (λ s. others (settings_in c.self.inside.slots.slots) c.args.timer ++ s ∷ []) c.setting_at.ensures)

pub returns-clause-valid : goal.returns-clause-valid
returns-clause-valid c =
    let exists : c.args.timer < c.self.inside.slots.timers = omega (arith, c.requires.exists, ap (λ (t : Timers). t.count) c.self.view_is) in
    still_timers (after_set (timers_of c.self.inside) c.args.timer c.args.now c.args.micros c.args.cyclic) (timers_of (record { slots = c.add.new.slots }))
    (IsTimers-after_set (timers_of c.self.inside) c.args.timer c.args.now c.args.micros c.args.cyclic c.self.invariant exists (c.requires.later, c.requires.in_range))
    (c.add.ensures.timers ∙ c.remove.ensures.timers)
    (c.add.ensures.added ∙ ap (λ ss. ss ++ c.setting_at.result ∷ []) c.remove.ensures.others ∙ ap (λ s. others (settings_in c.self.inside.slots.slots) c.args.timer ++ s ∷ []) c.setting_at.ensures)
