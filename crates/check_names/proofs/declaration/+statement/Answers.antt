-- An `if` declares what its arms do, and then what stands behind a last `else` does.
use Rattle.std.proofs.Common.{rules}
use Rattle.check_names.proofs.GatherLemmas.{if_gathered}
use Rattle.check_names.proofs.declaration.+statement.Goals as goal

pub gather-returns-in_ok-gather_in_arms-in-If : goal.gather-returns-in_ok-gather_in_arms-in-If
gather-returns-in_ok-gather_in_arms-in-If t c =
    if_gathered c.args.statement.now c.in-If.arms c.in-If.other _ _ _ _ c.in-If.is (search rules) c.gather_in_else.ensures
