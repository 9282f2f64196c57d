-- The steps of runs of verified code.
use Rattle.bytecode.proofs.VerifiedRuns.{steps_in_code}
use Rattle.bytecode.proofs.laws.each_step_of_verified_code.Goals as goal

pub returns : goal.returns
returns c = steps_in_code
