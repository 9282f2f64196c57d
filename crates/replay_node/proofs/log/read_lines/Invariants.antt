-- What stands between two lines.
use Rattle.std.proofs.Common.{length}
use Rattle.replay_node.proofs.TakenLemmas.{HasTaken}
use Rattle.replay_node.proofs.log.read_lines.Given as goal

abbrev pub invariant-loop-first : goal.invariant-loop-first
invariant-loop-first l = HasTaken l.log l.rest l.interface l.bit l.fn.epoch l.number l.progress

abbrev pub decreases-loop-first : goal.decreases-loop-first
decreases-loop-first l = length l.rest
