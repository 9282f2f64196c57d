-- Each time so far is a low.
use Rattle.std.specs.List.{AllZip}
use Rattle.load_bound.specs.Inside.Starts.{IsLow}
use Rattle.load_bound.proofs.starts.lows_of.Given as goal

abbrev pub invariant-loop-place : goal.invariant-loop-place
invariant-loop-place l = AllZip (IsLow l.bit l.streams) l.streams l.lows.items
