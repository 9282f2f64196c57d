-- The waits so far are accepted.
use Rattle.std.proofs.Common.{take}
use Rattle.std.specs.List.{AllZip}
use Rattle.load_bound.specs.Waits.{IsAcceptedAt}
use Rattle.load_bound.proofs.accepted.accept.Given as goal

abbrev pub invariant-loop-place : goal.invariant-loop-place
invariant-loop-place l = AllZip (IsAcceptedAt l.bit l.streams l.waits) (take l.place l.streams) (take l.place l.waits)
