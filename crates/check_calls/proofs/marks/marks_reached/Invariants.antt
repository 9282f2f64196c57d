-- What is marked so far is reached from its root.
use Rattle.check_calls.specs.Graph.{AreReached, rows_of}
use Rattle.check_calls.proofs.marks.marks_reached.Given as goal

abbrev pub invariant-loop-place : goal.invariant-loop-place
invariant-loop-place l = AreReached (rows_of l.rows) l.roots l.marks.items
