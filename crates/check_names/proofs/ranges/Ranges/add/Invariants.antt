-- What is in the map and what is to be added are the ranges so far and the new one; one was met, or nothing
-- has changed.
use Rattle.std.proofs.Common.{◌≡◌, ◌≤◌, ◌∷◌, ℕ, List, true, false}
use Rattle.std.specs.BTreeMap.{btree_map_len}
use Rattle.check_names.specs.declared.ranges.Ranges.{Ranges}
use Rattle.check_names.specs.Inside.Ranges.{AreRanges, AreRangesWith, IsMet}
use Rattle.check_names.proofs.ranges.Ranges.add.Given as goal

abbrev pub invariant-loop-start : goal.invariant-loop-start
invariant-loop-start l = record {
  rises : l.low ≤ l.high;
  known : l.known ≡ true → IsMet l.fn.self l.fn.low l.fn.high;
  unknown : l.known ≡ false →
      ◌≡◌ {A = Ranges × ℕ × ℕ} (l.self, l.low, l.high) (l.fn.self, l.fn.low, l.fn.high);
  are : (all : List (ℕ × ℕ)) → AreRanges l.fn.self all → AreRangesWith l.self l.low l.high ((l.fn.low, l.fn.high) ∷ all);
}

abbrev pub decreases-loop-start : goal.decreases-loop-start
decreases-loop-start l = btree_map_len l.self.ends
