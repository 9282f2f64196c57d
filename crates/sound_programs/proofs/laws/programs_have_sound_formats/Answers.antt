-- Statement by statement.
use Rattle.sound_programs.proofs.Programs.{arrays_there, formats_short}
use Rattle.sound_programs.proofs.laws.programs_have_sound_formats.Goals as goal

pub returns-clause-arrays : goal.returns-clause-arrays
returns-clause-arrays c = λ base program order line readable none. arrays_there base program order line readable none

pub returns-clause-short : goal.returns-clause-short
returns-clause-short c = λ base program order line readable none. formats_short base program order line readable none
