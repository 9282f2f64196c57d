-- The code is verified, as the fields keep it.
use Rattle.std.proofs.Common.{subst}
use Rattle.bytecode.specs.Verified.{IsVerified}
use Rattle.node_run.proofs.procedures.Procedures.code.Goals as goal

pub returns-clause-verified : goal.returns-clause-verified
returns-clause-verified c = subst IsVerified c.self.view_is c.self.invariant.verified
