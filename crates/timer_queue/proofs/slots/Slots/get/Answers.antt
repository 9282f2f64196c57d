-- The timer of a setting in a slot is there.
use Rattle.std.proofs.Common.{◌<◌, length, arith, ap}
use Rattle.timer_queue.specs.Inside.Slots.{SlotList}
use Rattle.timer_queue.proofs.SlotLemmas.{slot_read, exists_known}
use Rattle.timer_queue.proofs.slots.Slots.get.Goals as goal

pub returns-clause-exists : goal.returns-clause-exists
returns-clause-exists c =
    let slots = c.self.inside.slots.items in
    let within : c.args.place < length slots = omega (arith, c.requires, ap (λ (v : SlotList). length v.slots) c.self.view_is) in
    exists_known slots c.self.inside.places.items c.self.invariant.linked c.args.place c.index.result.now c.args.self.now.timers
    (slot_read slots c.args.place c.index.result.now within c.index.ensures) (ap (λ (v : SlotList). v.timers) c.self.view_is)
