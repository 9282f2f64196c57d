-- A cyclic setting leaves one that is due a period later, another one nothing.
use Rattle.std.proofs.Common.{sym, ◌∙◌}
use Rattle.timer_queue.specs.Inside.Slots.{settings_in}
use Rattle.timer_queue.proofs.TimersLemmas.{again_none, again_some}
use Rattle.timer_queue.proofs.queue.set_again.Goals as goal

pub returns-in-Some-clause-added : goal.returns-in-Some-clause-added
returns-in-Some-clause-added c =
    c.add.ensures.added ∙ sym (again_some c.args.fired (settings_in c.args.slots.now.slots) c.in-Some.period c.in-Some.is)

pub returns-in_default-clause-added : goal.returns-in_default-clause-added
returns-in_default-clause-added c = sym (again_none c.args.fired (settings_in c.args.slots.now.slots) c.in_default.is)
