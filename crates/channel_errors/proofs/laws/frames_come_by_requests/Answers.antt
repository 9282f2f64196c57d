-- The law of proofs/FramesCome.
use Rattle.channel_errors.proofs.FramesCome.{FramesCome-errors}
use Rattle.channel_errors.proofs.laws.frames_come_by_requests.Goals as goal

pub returns : goal.returns
returns c = FramesCome-errors
