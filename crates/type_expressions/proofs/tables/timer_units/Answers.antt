-- One more variable.
use Rattle.std.proofs.Common.{◌∙◌, ap, ◌++◌, arith}
use Rattle.check_sorts.specs.Form.{form_in}
use Rattle.type_expressions.proofs.StepLemmas.{form_there, unit_list, units_more}
use Rattle.type_expressions.proofs.tables.timer_units.Goals as goal

pub loop-number-preserved : goal.loop-number-preserved
loop-number-preserved c =
    units_more c.args.names.now.variables c.loop-number.number (form_in c.form_of.result) _ _ _
    (omega (arith, c.variable_count-count.ensures)) (form_there c.args.names.now.variables c.loop-number.number _ c.form_of.ensures) c.loop-number.invariant
    (c.in_ok-push_unit.ensures ∙ ap (λ u. c.loop-number.units.items ++ unit_list u) c.unit_of.ensures)
