-- The test of usable layouts.
use Rattle.std.proofs.Common.{Bool, ◌∙◌, ap, sym}
use Rattle.std.specs.Prelude.{not, ◌&&◌}
use Rattle.check_sorts.proofs.UsableLemmas.{tested}
use Rattle.check_sorts.proofs.message.can_be_used.Goals as goal

pub returns-then-usable : goal.returns-then-usable
returns-then-usable c =
    let is = tested c.args.signal.now.layout c.usable.result c.usable.ensures in
    ap (λ (b : Bool). b && not c.args.signal.now.float) (sym c.if-usable.true ∙ is)

pub returns-else-usable : goal.returns-else-usable
returns-else-usable c =
    let is = tested c.args.signal.now.layout c.usable.result c.usable.ensures in
    c.if-usable.false ∙ ap (λ (b : Bool). b && not c.args.signal.now.float) (sym c.if-usable.false ∙ is)
