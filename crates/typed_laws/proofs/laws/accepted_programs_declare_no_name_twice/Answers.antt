-- A program without offences has distinct variables.
use Rattle.typed_laws.proofs.Distinct.{distinct_without_offences}
use Rattle.typed_laws.proofs.laws.accepted_programs_declare_no_name_twice.Goals as goal

pub returns : goal.returns
returns c = distinct_without_offences
