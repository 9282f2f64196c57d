-- The register before the first bit.
use Rattle.frame_bits.proofs.CrcSteps.{IsRegister-none}
use Rattle.frame_bits.proofs.crc.Crc.new.Goals as goal

pub returns : goal.returns
returns c = IsRegister-none
