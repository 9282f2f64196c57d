-- The first slot whose moment is reached has the first due setting.
use Rattle.std.proofs.Common.{None, arith, ap, sym, ◌∙◌}
use Rattle.std.proofs.lemmas.List.{get_or_default}
use Rattle.timer_queue.specs.Timers.{first_due}
use Rattle.timer_queue.specs.Inside.Slots.{SlotList, settings_in}
use Rattle.timer_queue.proofs.DueLemmas.{first_due_none, first_due_some, due_within}
use Rattle.timer_queue.proofs.slots.Slots.first_due.Goals as goal

pub returns-in_err-place-clause-first : goal.returns-in_err-place-clause-first
returns-in_err-place-clause-first c =
    let slots = c.self.inside.slots.items in
    let none = first_due_none slots c.self.inside.moments c.args.now c.requires c.self.invariant.moments c.in_err-place.ensures.none in
    let same = ap (λ (v : SlotList). first_due (settings_in v.slots) c.args.now) c.self.view_is in
    c.from_residual.ensures ∙ sym none ∙ same

pub index-requires : goal.index-requires
index-requires c =
    omega (arith, due_within c.self.inside.slots.items c.self.inside.moments c.args.now c.in_ok-place.place c.requires c.self.invariant.moments c.in_ok-place.ensures.some, c.self.inside.slots.ok.0)

pub returns-clause-first : goal.returns-clause-first
returns-clause-first c =
    let slots = c.self.inside.slots.items in
    let place = c.in_ok-place.place in
    let up = c.in_ok-place.ensures.some in
    let within = due_within slots c.self.inside.moments c.args.now place c.requires c.self.invariant.moments up in
    c.index.ensures ∙ get_or_default slots place c.index.result.now None within
    ∙ sym (first_due_some slots c.self.inside.moments c.args.now place c.requires c.self.invariant.moments up)
    ∙ ap (λ (v : SlotList). first_due (settings_in v.slots) c.args.now) c.self.view_is
