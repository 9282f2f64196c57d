-- The places so far are in range.
use Rattle.std.proofs.Common.{◌<◌, length}
use Rattle.std.specs.List.{All}
use Rattle.load_bound.proofs.starts.by_strength.Given as goal

abbrev pub invariant-loop-place : goal.invariant-loop-place
invariant-loop-place l = All (λ entry. entry.1 < length l.streams) l.order.items
