-- What the counter has at the end.
use Rattle.frame_bits.proofs.Runs.{CountsStuffing-all}
use Rattle.frame_bits.proofs.stuffing.StuffCounter.count.Goals as goal

pub returns-clause-value : goal.returns-clause-value
returns-clause-value c = λ bits now. CountsStuffing-all _ _ bits now
