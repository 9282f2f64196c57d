-- A vector in which a range holds the key, and one in which none does.
use Rattle.std.proofs.Common.{arith}
use Rattle.lane_scan.proofs.LaneLemmas.{IsPassed-vector, IsPassed-lanes}
use Rattle.lane_scan.proofs.ranges.passed_by_lanes.Goals as goal

pub returns-then-held-ne0 : goal.returns-then-held-ne0
returns-then-held-ne0 c =
    IsPassed-lanes c.args.lows.now c.args.highs.now c.args.key c.loop-place.place 16 _ c.requires (omega arith) (omega arith) c.loop-place.invariant c.held_lanes-held.ensures c.if-held-ne0.true

pub loop-place-preserved : goal.loop-place-preserved
loop-place-preserved c =
    IsPassed-vector c.args.lows.now c.args.highs.now c.args.key c.loop-place.place 16 _ c.requires (omega arith) c.loop-place.invariant c.held_lanes-held.ensures c.if-held-ne0.false
