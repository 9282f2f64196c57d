-- No request so far goes before the best one.
use Rattle.std.proofs.Common.{◌<◌, length}
use Rattle.can_bus.proofs.Winner.{IsFirstAt}
use Rattle.arbitration.proofs.places.winner_place.Given as goal

abbrev pub invariant-loop-place : goal.invariant-loop-place
invariant-loop-place l = (l.best < length l.waiting) × IsFirstAt l.waiting l.place l.best
