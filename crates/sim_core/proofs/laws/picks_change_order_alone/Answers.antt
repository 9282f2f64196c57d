-- Nodes that run their code have one run.
use Rattle.sim_core.proofs.RunOrders.{run_alike}
use Rattle.sim_core.proofs.laws.picks_change_order_alone.Goals as goal

pub returns : goal.returns
returns g c before after end picks into into_after others others_after meter meter_after meter_end run other =
    run_alike g.B.Bus.meaning g.R.Record.meaning before after end picks into into_after others others_after meter meter_after meter_end run other
