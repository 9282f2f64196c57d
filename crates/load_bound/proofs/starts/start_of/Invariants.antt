-- A low of the stream, where the times of the others are lows of theirs.
use Rattle.std.proofs.Common.{ℕ}
use Rattle.std.specs.List.{AllZip}
use Rattle.load_bound.specs.Inside.Starts.{IsLow}
use Rattle.load_bound.proofs.starts.start_of.Given as goal

abbrev pub invariant-loop-place : goal.invariant-loop-place
invariant-loop-place l = (bit : ℕ) → AllZip (IsLow bit l.streams) l.streams l.lows → IsLow bit l.streams l.stream l.start
