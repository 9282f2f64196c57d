-- The stronger streams so far have waits.
use Rattle.std.proofs.Common.{take}
use Rattle.load_bound.specs.Waits.{StrongerHaveWaits}
use Rattle.load_bound.proofs.waits.stronger_have_waits.Given as goal

abbrev pub invariant-loop-place : goal.invariant-loop-place
invariant-loop-place l = StrongerHaveWaits (take l.place l.streams) (take l.place l.waits) l.stream
