-- The frame of a frame's message.
use Rattle.stack_vm.proofs.FrameLemmas.{frame_of-message_of}
use Rattle.stack_vm.proofs.laws.a_message_is_sent_as_its_frame.Goals as goal

pub returns : goal.returns
returns c f sent now is = frame_of-message_of f sent now is
