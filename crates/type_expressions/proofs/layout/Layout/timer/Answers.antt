-- What lies at the number of a variable.
use Rattle.std.proofs.Common.{◌∙◌, ap}
use Rattle.type_expressions.specs.declared.layout.Laid.{Laid}
use Rattle.type_expressions.proofs.LayoutLemmas.{laid_there, some_there}
use Rattle.type_expressions.proofs.layout.Layout.timer.Goals as goal

pub returns : goal.returns
returns c = λ names v of distinct at.
    let found = some_there names c.args.self.now c.args.number v of at in
    let there = laid_there names c.args.self.now c.args.number v found.0 of distinct at found.1 in
    ap (λ (l : Laid). l.timer) (c.at.ensures found.0 found.1) ∙ there.1
