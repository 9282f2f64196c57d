-- What stands between two bytes.
use Rattle.std.proofs.Common.{length}
use Rattle.log_line.proofs.BytesLemmas.{HasTaken}
use Rattle.log_line.proofs.frame_text.dotted_bytes.Given as goal

abbrev pub invariant-loop-rest : goal.invariant-loop-rest
invariant-loop-rest l = HasTaken l.text l.rest l.count l.bytes

abbrev pub decreases-loop-rest : goal.decreases-loop-rest
decreases-loop-rest l = length l.rest
