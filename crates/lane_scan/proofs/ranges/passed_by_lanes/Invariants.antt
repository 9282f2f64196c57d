-- No range before the place holds the key.
use Rattle.std.proofs.Common.{◌-◌, length}
use Rattle.lane_scan.specs.Inside.Ranges.{IsPassed}
use Rattle.lane_scan.proofs.ranges.passed_by_lanes.Given as goal

abbrev pub invariant-loop-place : goal.invariant-loop-place
invariant-loop-place l = IsPassed l.lows l.highs l.key l.place

abbrev pub decreases-loop-place : goal.decreases-loop-place
decreases-loop-place l = length l.lows - l.place
