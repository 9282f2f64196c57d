-- The places so far are ranked no higher.
use Rattle.std.proofs.Common.{◌≤◌, ◌<◌, ℕ, get_or}
use Rattle.check_calls.proofs.ranks.are_no_higher.Given as goal

abbrev pub invariant-loop-place : goal.invariant-loop-place
invariant-loop-place l = (k : ℕ) → k < l.place-index → get_or l.ranks (get_or l.places k 0) 0 ≤ l.rank
