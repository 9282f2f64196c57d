-- By the weight of procedures and of calls of `write`.
use Rattle.sound_programs.proofs.ProcedureCounts.{short_lists}
use Rattle.sound_programs.proofs.laws.light_programs_have_short_lists.Goals as goal

pub returns : goal.returns
returns c = λ base program order line other once light. short_lists base program order line other once light
