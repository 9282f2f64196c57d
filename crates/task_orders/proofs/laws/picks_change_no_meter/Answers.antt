-- Runs and turns are sums.
use Rattle.task_orders.proofs.Rows.{meter_stays}
use Rattle.task_orders.proofs.laws.picks_change_no_meter.Goals as goal

pub returns : goal.returns
returns c first_rows rounds picks others before after end one other = meter_stays first_rows rounds picks others before after end one other
