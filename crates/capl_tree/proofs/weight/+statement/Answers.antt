-- Each statement weighs 8 and its parts.
use Rattle.std.proofs.Common.{rules, refl}
use Rattle.capl_tree.specs.Weight.{part_weight, statement_weight}
use Rattle.capl_tree.proofs.WeightLemmas.{node_weight, pair_weight, if_weight, while_weight, do_weight, for_weight, switch_weight}
use Rattle.capl_tree.proofs.weight.+statement.Goals as goal

pub statement_weight-returns-in-If : goal.statement_weight-returns-in-If
statement_weight-returns-in-If t c =
    pair_weight _ _ _ _ _ _ (if_weight _ _ _ c.in-If.is) (search rules) (search rules) c.pair_weight.ensures

pub statement_weight-returns-in-While : goal.statement_weight-returns-in-While
statement_weight-returns-in-While t c =
    node_weight _ _ _ _ _ _ (while_weight _ _ _ c.in-While.is) (search rules) (search rules) c.node_weight.ensures

pub statement_weight-returns-in-Do : goal.statement_weight-returns-in-Do
statement_weight-returns-in-Do t c =
    node_weight _ _ _ _ _ _ (do_weight _ _ _ c.in-Do.is) (search rules) (search rules) c.node_weight-in-Do.ensures

pub statement_weight-returns-in-For : goal.statement_weight-returns-in-For
statement_weight-returns-in-For t c =
    let init = part_weight c.in-For.init in
    let test = part_weight c.in-For.test in
    let step = part_weight c.in-For.step in
    let body = statement_weight c.in-For.body in
    node_weight _ _ _ _ _ _ (for_weight _ _ _ _ _ c.in-For.is)
    (pair_weight _ init test _ _ _ refl (search rules) (search rules) c.pair_weight-in-For.ensures)
    (pair_weight _ step body _ _ _ refl (search rules) (search rules) c.pair_weight-in-For-2.ensures) c.node_weight-in-For.ensures

pub statement_weight-returns-in-Switch : goal.statement_weight-returns-in-Switch
statement_weight-returns-in-Switch t c =
    node_weight _ _ _ _ _ _ (switch_weight _ _ _ c.in-Switch.is) (search rules) (search rules) c.node_weight-in-Switch.ensures
