-- The tasks of each node stay in order.
use Rattle.task_orders.proofs.SameSteps.{differ}
use Rattle.task_orders.proofs.laws.picks_change_order_alone.Goals as goal

pub returns : goal.returns
returns c rounds picks others = differ rounds picks others
