-- The greatest time of the streams so far.
use Rattle.std.proofs.Common.{◌≡◌, ◌≤◌, take}
use Rattle.load_bound.specs.Streams.{blocking}
use Rattle.load_bound.proofs.times.blocking.Given as goal

abbrev pub invariant-loop-stream : goal.invariant-loop-stream
invariant-loop-stream l = record {
  greatest : l.longest ≡ blocking l.bit (take l.stream-index l.streams);
  bounded : l.longest ≤ 16000;
}
