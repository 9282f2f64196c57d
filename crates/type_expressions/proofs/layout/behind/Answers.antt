-- The cells and the timers are within the size.
use Rattle.std.proofs.Common.{arith}
use Rattle.check_sorts.specs.Form.{form_in}
use Rattle.type_expressions.proofs.StepLemmas.{split_size}
use Rattle.type_expressions.proofs.layout.behind.Goals as goal

pub overflow_add-cell : goal.overflow_add-cell
overflow_add-cell c =
    omega (arith, split_size c.args.elements c.args.next.timers (form_in c.args.form.now), c.requires, c.cells_by_form.ensures)
