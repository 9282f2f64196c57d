-- Body by body.
use Rattle.sound_programs.proofs.Procedures.{functions_sound, handlers_sound}
use Rattle.sound_programs.proofs.laws.programs_have_sound_procedures.Goals as goal

pub returns-clause-functions : goal.returns-clause-functions
returns-clause-functions c = λ base program order line readable none good number function at. functions_sound base program order line readable none good number function at

pub returns-clause-handlers : goal.returns-clause-handlers
returns-clause-handlers c = λ base program order line readable none good. handlers_sound base program order line readable none good
