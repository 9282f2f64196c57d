-- The bits of the lanes that hold the key.
use Rattle.std.proofs.Common.{arith}
use Rattle.lane_scan.proofs.LaneLemmas.{held_mask}
use Rattle.lane_scan.proofs.ranges.held_lanes.Goals as goal

pub returns : goal.returns
returns c = held_mask c.args.key c.args.place 16 c.args.lows.now c.args.highs.now c.requires.room c.requires.same (omega arith)
