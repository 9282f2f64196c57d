-- One more place is looked at.
use Rattle.check_calls.proofs.marks.marks_reached.Goals as goal

pub loop-place-preserved : goal.loop-place-preserved
loop-place-preserved c = c.mark_reached.ensures c.loop-place.invariant
