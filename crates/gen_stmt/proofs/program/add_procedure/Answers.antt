-- Each procedure has some code.
use Rattle.std.proofs.Common.{arith}
use Rattle.gen_stmt.proofs.Nonempty.{some_procedure}
use Rattle.gen_stmt.proofs.program.add_procedure.Goals as goal

pub returns-clause-some : goal.returns-clause-some
returns-clause-some c =
    let some = some_procedure c.args.typed.now c.args.gives c.args.body.now in
    omega (arith, some, c.in_ok-emit_procedure.ensures.grows)
