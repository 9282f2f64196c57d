-- What is found and what the rest becomes are what all tokens become.
use Rattle.std.proofs.Common.{◌≡◌, ◌++◌, length}
use Rattle.sys_vars.specs.Lowering.{lowered, lowered_from}
use Rattle.sys_vars.proofs.lowering.lower.Given as goal

abbrev pub invariant-loop-token : goal.invariant-loop-token
invariant-loop-token l = l.found.items ++ lowered_from l.items l.passed l.behind_on l.rest ≡ lowered l.items l.fn.tokens

abbrev pub decreases-loop-token : goal.decreases-loop-token
decreases-loop-token l = length l.rest
