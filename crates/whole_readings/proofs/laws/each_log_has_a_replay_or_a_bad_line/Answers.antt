-- The law is a lemma.
use Rattle.whole_readings.proofs.Logs.{replay_or_bad_line}
use Rattle.whole_readings.proofs.laws.each_log_has_a_replay_or_a_bad_line.Goals as goal

pub returns : goal.returns
returns c = replay_or_bad_line
