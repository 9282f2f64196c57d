-- Without a timer's setting there are those of the others.
use Rattle.std.proofs.Common.{ap, ◌∙◌}
use Rattle.timer_queue.specs.Inside.Slots.{SlotList, settings_in}
use Rattle.timer_queue.proofs.QueueLemmas.{others_all, others_cleared}
use Rattle.timer_queue.proofs.queue.remove.Goals as goal

pub returns-in-Some-clause-others : goal.returns-in-Some-clause-others
returns-in-Some-clause-others c =
    ap (λ (v : SlotList). settings_in v.slots) c.clear.ensures ∙ others_cleared c.args.slots.now.slots c.args.timer c.in-Some.place c.in-Some.ensures

pub returns-in_default-clause-others : goal.returns-in_default-clause-others
returns-in_default-clause-others c = others_all c.args.slots.now.slots c.args.timer c.in_default.ensures
