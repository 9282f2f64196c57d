-- The register holds what the bits so far leave.
use Rattle.std.proofs.Common.{take}
use Rattle.frame_bits.specs.Inside.Crc.{IsRegister}
use Rattle.frame_bits.proofs.crc.crc15.Given as goal

abbrev pub invariant-loop-bit : goal.invariant-loop-bit
invariant-loop-bit l = IsRegister l.crc.register (take l.bit-index l.bits)
