-- Known values are numbers.
use Rattle.std.proofs.Common.{sym}
use Rattle.check_sorts.proofs.EvaluationLemmas.{number_back}
use Rattle.check_sorts.proofs.values.Known.of_variable.Goals as goal

pub returns-in-Some-value-clause-number : goal.returns-in-Some-value-clause-number
returns-in-Some-value-clause-number c =
    let n = c.in-Some-value.n in
    number_back n (c.requires c.in-Some.file c.in-Some.token n (sym c.in-Some-value.ensures))
