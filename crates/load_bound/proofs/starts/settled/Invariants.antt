-- The wait so far is a low.
use Rattle.std.proofs.Common.{◌-◌}
use Rattle.load_bound.specs.Inside.Starts.{IsLow}
use Rattle.load_bound.proofs.starts.settled.Given as goal

abbrev pub invariant-loop-wait : goal.invariant-loop-wait
invariant-loop-wait l = IsLow l.bit l.streams l.stream l.wait

abbrev pub decreases-loop-wait : goal.decreases-loop-wait
decreases-loop-wait l = l.stream.apart - l.wait
