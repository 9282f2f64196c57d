-- Each of its requests has the frame of an entry that was read.
use Rattle.replay_node.proofs.RequestLemmas.{frames_loggable}
use Rattle.replay_laws.proofs.laws.replays_can_be_logged.Goals as goal

pub returns : goal.returns
returns c = frames_loggable c.read_frames_are_loggable.ensures
