-- The law is a lemma.
use Rattle.sim_core.proofs.OneResult.{result_once}
use Rattle.sim_core.proofs.laws.one_result.Goals as goal

pub returns : goal.returns
returns g c = result_once g.B.Bus.meaning g.R.Record.meaning
