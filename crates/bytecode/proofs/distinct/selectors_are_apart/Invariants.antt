-- The selectors of the ranks so far are apart.
use Rattle.std.proofs.Common.{ℕ, ◌<◌}
use Rattle.std.specs.Prelude.{AllPairs}
use Rattle.bytecode.specs.Tables.{all_selectors}
use Rattle.bytecode.specs.Inside.Distinct.{AreApartIn}
use Rattle.bytecode.proofs.distinct.selectors_are_apart.Given as goal

abbrev pub invariant-loop-rank : goal.invariant-loop-rank
invariant-loop-rank l = (rank : ℕ) → rank < l.rank → AllPairs (AreApartIn rank) (all_selectors l.handlers)
