-- A name of no variable.
use Rattle.std.proofs.Common.{◌∙◌, sym, subst, ap, Option}
use Rattle.capl_meaning.specs.Variable.{Variable}
use Rattle.check_sorts.specs.Constant.{HasNumber, known_at, name_by}
use Rattle.check_sorts.proofs.EvaluationLemmas.{word_number}
use Rattle.check_sorts.proofs.values.Known.of_name.Goals as goal

pub returns-in-None-clause-same : goal.returns-in-None-clause-same
returns-in-None-clause-same c =
    let values = known_at c.args.self.now in
    c.of_word.ensures values
    ∙ sym (ap (λ (v : Option Variable). name_by values c.args.name.now v) c.in-None.ensures)

pub returns-in-None-clause-number : goal.returns-in-None-clause-number
returns-in-None-clause-number c =
    let values = known_at c.args.self.now in
    subst HasNumber (sym (c.of_word.ensures values)) (word_number values c.args.name.now)
