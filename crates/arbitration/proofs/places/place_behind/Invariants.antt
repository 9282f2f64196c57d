-- The place behind the node counts on from here.
use Rattle.std.proofs.Common.{◌≡◌, ◌+◌, ◌-◌, length, drop}
use Rattle.arbitration.specs.Inside.Places.{place_behind}
use Rattle.arbitration.proofs.places.place_behind.Given as goal

abbrev pub invariant-loop-place : goal.invariant-loop-place
invariant-loop-place l = place_behind l.waiting l.node ≡ l.place + place_behind (drop l.place l.waiting) l.node

abbrev pub decreases-loop-place : goal.decreases-loop-place
decreases-loop-place l = length l.waiting - l.place
