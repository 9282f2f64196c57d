-- The one end of a run.
use Rattle.bytecode.proofs.RunLemmas.{one_end}
use Rattle.bytecode.proofs.laws.a_run_has_one_end.Goals as goal

pub returns : goal.returns
returns c = one_end
