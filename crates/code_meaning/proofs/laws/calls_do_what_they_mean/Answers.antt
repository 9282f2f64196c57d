-- The code of a sound program is set for the statements of its procedures.
use Rattle.std.proofs.Common.{length}
use Rattle.code_meaning.proofs.ProgramRuns.{calls_set}
use Rattle.code_meaning.proofs.laws.calls_do_what_they_mean.Goals as goal

pub returns : goal.returns
returns c = λ code s n sound is. calls_set s.typed code sound is s.closed s.moment n (length s.typed.functions)
