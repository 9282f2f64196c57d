-- A typed program ends as its source.
use Rattle.typed_laws.proofs.Programs.{program_ends}
use Rattle.typed_laws.proofs.laws.event_procedures_end_as_in_the_source.Goals as goal

pub returns : goal.returns
returns c = program_ends
