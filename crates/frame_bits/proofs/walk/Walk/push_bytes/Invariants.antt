-- The walk has gone over the bytes so far.
use Rattle.std.proofs.Common.{◌+◌, ◌*◌, ◌≤◌, Bool, List, ◌++◌, take}
use Rattle.frame_bits.specs.Length.{data_bits}
use Rattle.frame_bits.specs.Inside.Walk.{HasWalked}
use Rattle.frame_bits.proofs.walk.Walk.push_bytes.Given as goal

abbrev pub invariant-loop-byte : goal.invariant-loop-byte
invariant-loop-byte l = record {
  walked : (bits : List Bool) → HasWalked l.initial.self bits → HasWalked l.self (bits ++ data_bits (take l.byte-index l.bytes));
  counted : l.self.stuffing.count ≤ l.initial.self.stuffing.count + 16 * l.byte-index;
}
