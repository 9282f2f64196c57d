-- The sum over the stronger streams so far.
use Rattle.std.proofs.Common.{◌≡◌, ◌*◌, ◌^◌, ◌≤◌, take}
use Rattle.load_bound.specs.Waits.{interference}
use Rattle.load_bound.proofs.waits.interference.Given as goal

abbrev pub invariant-loop-other : goal.invariant-loop-other
invariant-loop-other l = record {
  sum : l.total ≡ interference l.bit (take l.other-index l.streams) l.stream l.wait;
  bounded : l.total ≤ 2 ^ 33 * 16000 * l.other-index;
}
