-- The run has come to the state, and each step leaves fewer steps.
use Rattle.std.proofs.Common.{[]}
use Rattle.bytecode.specs.Runs.{steps_left}
use Rattle.stack_vm.specs.Inside.Runs.{ComesTo, machine_on}
use Rattle.stack_vm.proofs.runs.run_on.Given as goal

abbrev pub invariant-loop-outcome : goal.invariant-loop-outcome
invariant-loop-outcome g l = ComesTo g.H.Host.meaning l.code l.fn.state l.fn.host l.own l.host

abbrev pub decreases-loop-outcome : goal.decreases-loop-outcome
decreases-loop-outcome g l = steps_left l.code (machine_on g.H.Host.meaning l.own l.host [])
