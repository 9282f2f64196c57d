-- The waits so far.
use Rattle.std.proofs.Common.{take}
use Rattle.std.specs.List.{AllZip}
use Rattle.load_bound.specs.Inside.Starts.{IsOwnWait}
use Rattle.load_bound.proofs.found.own_waits.Given as goal

abbrev pub invariant-loop-place : goal.invariant-loop-place
invariant-loop-place l = AllZip (IsOwnWait l.bit l.streams) (take l.place l.streams) l.waits.items
