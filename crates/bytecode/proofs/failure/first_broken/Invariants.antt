-- The places of the functions so far keep their rules.
use Rattle.std.proofs.Common.{ℕ, ◌<◌, ◌≡◌, slice_get, Some}
use Rattle.bytecode.specs.declared.code.Fun.{Fun}
use Rattle.bytecode.specs.Inside.Failure.{KeepsRulesOf}
use Rattle.bytecode.proofs.failure.first_broken.Given as goal

abbrev pub invariant-loop-number : goal.invariant-loop-number
invariant-loop-number l = (earlier : ℕ) (function : Fun) → earlier < l.number → slice_get l.code.functions earlier ≡ Some function → KeepsRulesOf l.code earlier function
