-- A memory stays one of its code.
use Rattle.std.proofs.Common.{subst}
use Rattle.bytecode.specs.Verified.{IsVerified}
use Rattle.machine_tests.proofs.machine.run_once.Goals as goal

pub run-ended-requires-clause-memory : goal.run-ended-requires-clause-memory
run-ended-requires-clause-memory c =
    let code = c.args.code.now in
    let verified : IsVerified code = subst IsVerified c.code.ensures.same c.code.ensures.verified in
    c.set_key.ensures.stays code verified (c.set_frame.ensures.stays code verified c.in_ok-memory.ensures.of_code)
