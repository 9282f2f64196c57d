-- What is known after some pieces.
use Rattle.std.proofs.Common.{length}
use Rattle.write_format.proofs.ReadingLemmas.{IsSurvey}
use Rattle.write_format.proofs.reading.look_over.Given as goal

abbrev pub invariant-loop-piece : goal.invariant-loop-piece
invariant-loop-piece l = IsSurvey l.text l.args l.rest l.codes l.unfit

abbrev pub decreases-loop-piece : goal.decreases-loop-piece
decreases-loop-piece l = length l.rest
