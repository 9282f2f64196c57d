-- A program has one first offence at most.
use Rattle.capl_meaning.specs.Offences.{offences_of}
use Rattle.capl_meaning.proofs.FirstOffence.{firsts_at_once}
use Rattle.capl_meaning.proofs.laws.one_first_offence.Goals as goal

pub returns-clause-file : goal.returns-clause-file
returns-clause-file c = λ base program a b one other.
    (firsts_at_once (offences_of base program) a b one other).file

pub returns-clause-token : goal.returns-clause-token
returns-clause-token c = λ base program a b one other.
    (firsts_at_once (offences_of base program) a b one other).token

pub returns-clause-rule : goal.returns-clause-rule
returns-clause-rule c = λ base program a b one other.
    (firsts_at_once (offences_of base program) a b one other).rule
