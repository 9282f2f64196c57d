-- The law of stuffing.
use Rattle.frame_bits.proofs.OneStuffing.{HasOneStuffing-all}
use Rattle.frame_bits.proofs.laws.one_stuffing.Goals as goal

pub returns : goal.returns
returns c = HasOneStuffing-all
