-- What lies at the number of a variable.
use Rattle.std.proofs.Common.{◌∙◌, ap}
use Rattle.type_expressions.specs.declared.layout.Laid.{Laid}
use Rattle.type_expressions.proofs.LayoutLemmas.{some_there}
use Rattle.type_expressions.proofs.layout.Layout.elements.Goals as goal

pub returns : goal.returns
returns c = λ names v of at.
    let found = some_there names c.args.self.now c.args.number v of at in
    ap (λ (l : Laid). l.elements) (c.at.ensures found.0 found.1) ∙ found.2
