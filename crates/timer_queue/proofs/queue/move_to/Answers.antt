-- A setting moves to the front over empty slots.
use Rattle.std.proofs.Common.{◌≡◌, Some, None, ap, sym, ◌∙◌}
use Rattle.std.proofs.Math.ListN.{set}
use Rattle.timer_queue.specs.Inside.Slots.{SlotList, settings_in}
use Rattle.timer_queue.proofs.QueueLemmas.{moved}
use Rattle.timer_queue.proofs.queue.move_to.Goals as goal

pub returns-clause-same : goal.returns-clause-same
returns-clause-same c =
    let slots = c.args.slots.now.slots in
    let cleared : c.clear.new.self.slots ≡ set slots c.args.place None = ap (λ (v : SlotList). v.slots) c.clear.ensures in
    ap (λ (v : SlotList). settings_in v.slots) c.put.ensures ∙ ap (λ ss. settings_in (set ss c.args.filled (Some c.in-Some.setting))) cleared
    ∙ moved slots c.args.filled c.args.place c.in-Some.setting c.requires.packed.within (sym c.in-Some.ensures.slot) c.requires.packed.empty
