-- Each expression weighs 8 and its parts.
use Rattle.std.proofs.Common.{rules, ◌+◌, refl}
use Rattle.capl_tree.specs.Weight.{expression_weight}
use Rattle.capl_tree.proofs.WeightLemmas.{node_weight, pair_weight, paren_weight, call_weight, cast_weight, unary_weight, post_weight, index_weight, member_weight, binary_weight, cond_weight, assign_weight}
use Rattle.capl_tree.proofs.weight.+expression.Goals as goal

pub expression_weight-returns-in-Index : goal.expression_weight-returns-in-Index
expression_weight-returns-in-Index t c =
    node_weight _ _ _ _ _ _ (index_weight _ _ _ _ c.in-Index.is) (search rules) (search rules) c.node_weight.ensures

pub expression_weight-returns-in-Member : goal.expression_weight-returns-in-Member
expression_weight-returns-in-Member t c =
    node_weight _ _ _ _ _ _ (member_weight _ _ _ _ c.in-Member.is) (search rules) (search rules) c.node_weight-in-Member.ensures

pub expression_weight-returns-in-Binary : goal.expression_weight-returns-in-Binary
expression_weight-returns-in-Binary t c =
    node_weight _ _ _ _ _ _ (binary_weight _ _ _ _ _ c.in-Binary.is) (search rules) (search rules) c.node_weight-in-Binary.ensures

pub expression_weight-returns-in-Cond : goal.expression_weight-returns-in-Cond
expression_weight-returns-in-Cond t c =
    let test = expression_weight c.in-Cond.test in
    let one = expression_weight c.in-Cond.yes in
    let total = cond_weight _ _ _ _ _ c.in-Cond.is in
    node_weight _ (test + one) _ _ _ _ total
    (pair_weight _ test one _ _ _ refl (search rules) (search rules) c.pair_weight.ensures) (search rules) c.node_weight-in-Cond.ensures

pub expression_weight-returns-in-Assign : goal.expression_weight-returns-in-Assign
expression_weight-returns-in-Assign t c =
    node_weight _ _ _ _ _ _ (assign_weight _ _ _ _ _ c.in-Assign.is) (search rules) (search rules) c.node_weight-in-Assign.ensures

pub expression_weight-returns-in-Paren : goal.expression_weight-returns-in-Paren
expression_weight-returns-in-Paren t c = search (rules, paren_weight _ _ _ c.in-Paren.is)

pub expression_weight-returns-in-Call : goal.expression_weight-returns-in-Call
expression_weight-returns-in-Call t c = search (rules, call_weight _ _ _ _ c.in-Call.is)

pub expression_weight-returns-in-Cast : goal.expression_weight-returns-in-Cast
expression_weight-returns-in-Cast t c = search (rules, cast_weight _ _ _ _ c.in-Cast.is)

pub expression_weight-returns-in-Unary : goal.expression_weight-returns-in-Unary
expression_weight-returns-in-Unary t c = search (rules, unary_weight _ _ _ _ c.in-Unary.is)

pub expression_weight-returns-in-Post : goal.expression_weight-returns-in-Post
expression_weight-returns-in-Post t c = search (rules, post_weight _ _ _ _ c.in-Post.is)
