-- The places of the function so far keep their rules.
use Rattle.std.proofs.Common.{ℕ, ◌≤◌, ◌<◌}
use Rattle.bytecode.specs.Inside.Failure.{KeepsRuleIn}
use Rattle.bytecode.proofs.failure.first_broken_of.Given as goal

abbrev pub invariant-loop-place : goal.invariant-loop-place
invariant-loop-place l = (earlier : ℕ) → l.function.start ≤ earlier → earlier < l.place → KeepsRuleIn l.code l.number l.function earlier
