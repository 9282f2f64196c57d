-- What names break is among what a program breaks.
use Rattle.capl_meaning.specs.Offences.{offences_of}
use Rattle.check_names.specs.Named.{named_offences}
use Rattle.check_names.proofs.IsIn.{from_contains, to_contains}
use Rattle.check_names.proofs.NamedLemmas.{named_within}
use Rattle.check_names.proofs.laws.named_offences_are_offences.Goals as goal

pub returns : goal.returns
returns c = λ base program offence is.
    to_contains offence (offences_of base program)
    (named_within base program offence (from_contains offence (named_offences base program) is))
