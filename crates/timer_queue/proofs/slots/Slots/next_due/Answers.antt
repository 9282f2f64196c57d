-- The least moment is that of a setting where there is one.
use Rattle.std.proofs.Common.{◌≢◌, is_some, count_by, arith, ap, sym, ◌∙◌}
use Rattle.timer_queue.specs.Timers.{least_due}
use Rattle.timer_queue.specs.Inside.Slots.{SlotList, settings_in}
use Rattle.timer_queue.proofs.DueLemmas.{next_due_none, next_due_some}
use Rattle.timer_queue.proofs.slots.Slots.next_due.Goals as goal

pub returns-then-self-eq0 : goal.returns-then-self-eq0
returns-then-self-eq0 c =
    sym (next_due_none c.self.inside.slots.items (c.self.invariant.filled.in_slots ∙ c.if-self-eq0.true))
    ∙ ap (λ (v : SlotList). least_due (settings_in v.slots)) c.self.view_is

pub returns : goal.returns
returns c =
    let some : count_by is_some c.self.inside.slots.items ≢ 0 = λ none. absurd (omega (arith, none, c.self.invariant.filled.in_slots)) in
    sym (next_due_some c.self.inside.slots.items c.self.inside.moments c.least.result c.self.invariant.moments c.least.ensures some)
    ∙ ap (λ (v : SlotList). least_due (settings_in v.slots)) c.self.view_is
