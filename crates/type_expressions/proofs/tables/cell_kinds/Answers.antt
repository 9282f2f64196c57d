-- One more variable.
use Rattle.std.proofs.Common.{arith}
use Rattle.check_sorts.specs.Form.{form_in}
use Rattle.type_expressions.proofs.StepLemmas.{form_there, kinds_more}
use Rattle.type_expressions.proofs.tables.cell_kinds.Goals as goal

pub loop-number-preserved : goal.loop-number-preserved
loop-number-preserved c =
    kinds_more c.args.names.now c.loop-number.number c.elements.result (form_in c.form_of-form.result) _ _ _
    (omega (arith, c.variable_count-count.ensures))
    (record { form_is = form_there c.args.names.now.variables c.loop-number.number _ c.form_of-form.ensures; elements_are = λ v at. c.elements.ensures c.args.names.now v c.requires at })
    c.loop-number.invariant c.in_ok-push_kinds.ensures
