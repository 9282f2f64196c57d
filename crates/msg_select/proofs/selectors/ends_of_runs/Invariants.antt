-- The runs so far.
use Rattle.msg_select.proofs.RunLemmas.{AreRunsSoFar}
use Rattle.msg_select.proofs.selectors.ends_of_runs.Given as goal

abbrev pub invariant-loop-place : goal.invariant-loop-place
invariant-loop-place l = AreRunsSoFar l.list l.ends.items l.place
