-- The whole program, by its procedures.
use Rattle.typed_source.proofs.Programs.{program_does}
use Rattle.typed_source.proofs.laws.typed_programs_do_what_their_sources_do.Goals as goal

pub returns : goal.returns
returns c = λ base program order line each no_other. program_does base program order line each no_other
