-- What stands between two writes.
use Rattle.std.proofs.Common.{◌≤◌, ◌-◌, length, take}
use Rattle.std.specs.Io.KnownBytes.{Appends}
use Rattle.sim_outside.proofs.writer.write_whole.Given as goal

-- the writer took so many bytes of the piece
abbrev pub invariant-loop-sent : goal.invariant-loop-sent
invariant-loop-sent g l = record {
  within : l.sent ≤ length l.piece;
  taken : Appends (g.W.Write.contents l.fn.writer) (g.W.Write.contents l.writer) (take l.sent l.piece);
}

abbrev pub decreases-loop-sent : goal.decreases-loop-sent
decreases-loop-sent g l = length l.piece - l.sent
