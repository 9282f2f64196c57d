-- An interleaving is that of picks, and there is one run.
use Rattle.sim_core.proofs.RunOrders.{ends_alike, has_picks}
use Rattle.sim_core.proofs.laws.interleavings_end_alike.Goals as goal

pub returns-clause-ends : goal.returns-clause-ends
returns-clause-ends g c before after into into_after meter meter_after moves end run inter =
    ends_alike g.B.Bus.meaning g.met.B.Bus.requests_commute g.R.Record.meaning before after into into_after meter meter_after moves end run inter

pub returns-clause-picks : goal.returns-clause-picks
returns-clause-picks g c before after into into_after meter meter_after moves end run inter =
    has_picks g.B.Bus.meaning g.met.B.Bus.requests_commute g.R.Record.meaning before after into into_after meter meter_after moves end run inter
