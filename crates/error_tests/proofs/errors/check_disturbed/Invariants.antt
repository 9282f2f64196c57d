-- The bus keeps its nodes.
use Rattle.std.proofs.Common.{◌≡◌, length}
use Rattle.error_tests.proofs.errors.check_disturbed.Given as goal

abbrev pub invariant-loop-time : goal.invariant-loop-time
invariant-loop-time g l = length l.bus.counts ≡ length l.initial.bus.counts
