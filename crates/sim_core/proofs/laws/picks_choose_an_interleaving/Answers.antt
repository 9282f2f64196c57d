-- Requests of different nodes commute.
use Rattle.sim_core.proofs.RunOrders.{interleaved}
use Rattle.sim_core.proofs.laws.picks_choose_an_interleaving.Goals as goal

pub returns : goal.returns
returns g c before after into into_after meter meter_after run =
    interleaved g.B.Bus.meaning g.met.B.Bus.requests_commute g.R.Record.meaning before after into into_after meter meter_after run
