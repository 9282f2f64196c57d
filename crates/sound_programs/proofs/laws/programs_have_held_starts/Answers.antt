-- Variable by variable.
use Rattle.sound_programs.proofs.Starts.{starts_fine}
use Rattle.sound_programs.proofs.laws.programs_have_held_starts.Goals as goal

pub returns : goal.returns
returns c = λ base program order line readable none. starts_fine base program order line readable none
