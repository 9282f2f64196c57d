-- What stands between two lines.
use Rattle.std.proofs.Common.{List, length}
use Rattle.log_line.specs.declared.line.Line.{Line}
use Rattle.replay_node.proofs.LogLemmas.{HasRead}
use Rattle.replay_check.proofs.bad_line.Given as goal

abbrev pub invariant-loop-first : goal.invariant-loop-first
invariant-loop-first l = (readings : List Line) × HasRead l.log l.rest l.number readings

abbrev pub decreases-loop-first : goal.decreases-loop-first
decreases-loop-first l = length l.rest
