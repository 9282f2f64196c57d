-- The bits of the bytes so far are appended.
use Rattle.std.proofs.Common.{◌≡◌, ◌++◌, take}
use Rattle.frame_bits.specs.Length.{data_bits}
use Rattle.frame_bits.proofs.bits.append_bytes.Given as goal

abbrev pub invariant-loop-byte : goal.invariant-loop-byte
invariant-loop-byte l = l.bits.items ≡ l.initial.bits.items ++ data_bits (take l.byte-index l.bytes)
