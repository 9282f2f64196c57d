-- All points together.
use Rattle.sound_programs.proofs.Sound.{all_sound}
use Rattle.sound_programs.proofs.laws.programs_without_offences_are_sound.Goals as goal

pub returns : goal.returns
returns c = λ base program order line readable none good few light. all_sound base program order line readable none good few light
