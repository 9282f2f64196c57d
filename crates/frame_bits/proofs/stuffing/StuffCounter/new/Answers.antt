-- The counter of no bits.
use Rattle.frame_bits.proofs.Runs.{CountsStuffing-none}
use Rattle.frame_bits.proofs.stuffing.StuffCounter.new.Goals as goal

pub returns-clause-none : goal.returns-clause-none
returns-clause-none c = CountsStuffing-none
