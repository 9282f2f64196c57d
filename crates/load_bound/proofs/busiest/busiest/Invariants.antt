-- The stream that was found is stronger, and its share is in range.
use Rattle.std.proofs.Common.{◌<◌, ◌≤◌, ◌^◌}
use Rattle.std.specs.Prelude.{IfSome}
use Rattle.load_bound.specs.Inside.Starts.{IsStrongerAt}
use Rattle.load_bound.proofs.busiest.busiest.Given as goal

abbrev pub invariant-loop-place : goal.invariant-loop-place
invariant-loop-place l = record {
  found : IfSome l.found (IsStrongerAt l.streams l.stream);
  time : l.most.0 ≤ 16000;
  period : l.most.1 < 2 ^ 32;
}
