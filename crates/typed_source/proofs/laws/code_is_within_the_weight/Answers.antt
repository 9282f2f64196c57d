-- The whole program, by its procedures.
use Rattle.typed_source.proofs.ProgramSizes.{program_small}
use Rattle.typed_source.proofs.laws.code_is_within_the_weight.Goals as goal

pub returns : goal.returns
returns c = λ base program order line no_other differ sound. program_small base program order line no_other differ sound
