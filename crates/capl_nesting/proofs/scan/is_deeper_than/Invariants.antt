-- The scan goes on from the levels, and has not been deeper.
use Rattle.std.proofs.Common.{◌≡◌, ◌≤◌, ◌<◌, length}
use Rattle.std.specs.Prelude.{◌↔◌}
use Rattle.capl_tree.specs.Nesting.{nesting, deepest}
use Rattle.capl_nesting.specs.Inside.Levels.{counts, IsSummed, told}
use Rattle.capl_nesting.specs.Tokens.{toks}
use Rattle.capl_nesting.proofs.scan.is_deeper_than.Given as goal

abbrev pub invariant-loop-first : goal.invariant-loop-first
invariant-loop-first l = record {
  same : (l.fn.most < nesting (toks l.fn.tokens)) ↔ (l.fn.most < deepest (counts l.levels) (told l.before) (toks l.rest));
  summed : IsSummed l.levels;
  low : l.levels.depth ≤ l.most;
}

abbrev pub decreases-loop-first : goal.decreases-loop-first
decreases-loop-first l = length l.rest
