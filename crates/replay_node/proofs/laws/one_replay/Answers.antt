-- The laws are lemmas.
use Rattle.replay_node.proofs.OneReplay.{bad_line_once, replay_once, replay_or_bad}
use Rattle.replay_node.proofs.laws.one_replay.Goals as goal

pub returns-clause-replay : goal.returns-clause-replay
returns-clause-replay c = replay_once c.one_reading.ensures

pub returns-clause-bad_line : goal.returns-clause-bad_line
returns-clause-bad_line c = bad_line_once

pub returns-clause-not_both : goal.returns-clause-not_both
returns-clause-not_both c = replay_or_bad
