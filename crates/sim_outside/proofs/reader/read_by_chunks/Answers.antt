-- A read that gave more than there is room for.
use Rattle.std.proofs.Common.{◌≤◌, ◌+◌, length, take, arith, length-take}
use Rattle.sim_outside.proofs.Transfers.{takes_further}
use Rattle.sim_outside.proofs.reader.read_by_chunks.Goals as goal

-- it gave at most one byte more
pub returns-then-count-room-clause-takes : goal.returns-then-count-room-clause-takes
returns-then-count-room-clause-takes g c =
    let asked = length-take (c.min-asked.result + 1) c.loop-count.chunk in
    let given : length (take c.in-Ok.count c.read.new.buf) ≤ c.min-asked.result + 1 = omega (arith, c.in-Ok.ensures.bound.0, c.in-Ok.ensures.bound.1, c.read.auto.buf, asked) in
    takes_further _ _ _ c.loop-count.bytes.items _ c.args.limit c.loop-count.invariant.taken c.in-Ok.ensures.bytes.0
    (omega (arith, given, c.min-asked.ensures, c.len.ensures, c.loop-count.bytes.ok.0, c.loop-count.invariant.within))
