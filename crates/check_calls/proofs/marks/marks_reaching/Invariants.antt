-- What is marked so far reaches its root.
use Rattle.check_calls.specs.Graph.{AreReaching, rows_of}
use Rattle.check_calls.proofs.marks.marks_reaching.Given as goal

abbrev pub invariant-loop-place : goal.invariant-loop-place
invariant-loop-place l = AreReaching (rows_of l.rows) l.roots l.marks.items
