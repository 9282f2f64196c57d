-- The least due moment has come exactly where a timer is due.
use Rattle.std.proofs.Common.{sym, ◌∙◌}
use Rattle.node_run.proofs.DueTimers.{least_due_tells}
use Rattle.node_run.proofs.node.is_due.Goals as goal

pub returns-in-Some : goal.returns-in-Some
returns-in-Some c = least_due_tells c.args.timers.now.settings c.args.now c.in-Some.due (sym c.next_due.ensures.least ∙ c.in-Some.is)
