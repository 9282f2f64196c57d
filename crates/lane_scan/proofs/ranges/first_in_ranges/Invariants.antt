-- No range before the place holds the key.
use Rattle.lane_scan.specs.Inside.Ranges.{IsPassed}
use Rattle.lane_scan.proofs.ranges.first_in_ranges.Given as goal

abbrev pub invariant-loop-place : goal.invariant-loop-place
invariant-loop-place l = IsPassed l.lows l.highs l.key l.place
