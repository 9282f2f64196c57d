-- The number of the CRC.
use Rattle.frame_bits.proofs.CrcSteps.{IsRegister-value}
use Rattle.frame_bits.proofs.crc.Crc.value.Goals as goal

pub returns-clause-value : goal.returns-clause-value
returns-clause-value c = λ bits now. IsRegister-value _ bits c.args.self.now.in_range now
