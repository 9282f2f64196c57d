-- The ends of runs of verified code.
use Rattle.bytecode.proofs.VerifiedRuns.{runs_to_its_end}
use Rattle.bytecode.proofs.laws.verified_code_runs_to_its_end.Goals as goal

pub returns : goal.returns
returns c = runs_to_its_end
