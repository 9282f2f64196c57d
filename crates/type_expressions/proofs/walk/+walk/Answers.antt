-- What the walk makes of calls, members, operators and assignments.
use Rattle.std.proofs.Common.{refl, true}
use Rattle.capl_meaning.specs.Sort.{kind_in, sort_of_prefix, sort_of_step}
use Rattle.typed_source.specs.Expression.{assigned, stepping}
use Rattle.check_sorts.specs.Scope.{scope_in}
use Rattle.type_expressions.specs.declared.made.Shape.TheVariants as shape
use Rattle.type_expressions.specs.Made.{order_in, prefix_tree}
use Rattle.type_expressions.proofs.WalkLemmas.{assignment_walked, binary_walked, bytes_made, call_walked, choice_walked, inner_walked, left_walked, named_made, paren_walked, part_of, prefix_walked, step_walked, there}
use Rattle.type_expressions.proofs.walk.+walk.Goals as goal

pub walk_whole-returns-in-Paren-clause-value : goal.walk_whole-returns-in-Paren-clause-value
walk_whole-returns-in-Paren-clause-value t c =
    (paren_walked (scope_in c.args.scope) (order_in c.args.tables.now) c.args.e.now _ _ _ c.walk.result
    c.in-Paren.is c.get.ensures c.walk.ensures.value c.walk.ensures.place c.walk.ensures.sort).value

pub walk_whole-returns-in-Paren-clause-place : goal.walk_whole-returns-in-Paren-clause-place
walk_whole-returns-in-Paren-clause-place t c =
    (paren_walked (scope_in c.args.scope) (order_in c.args.tables.now) c.args.e.now _ _ _ c.walk.result
    c.in-Paren.is c.get.ensures c.walk.ensures.value c.walk.ensures.place c.walk.ensures.sort).place

pub walk_whole-returns-in-Paren-clause-sort : goal.walk_whole-returns-in-Paren-clause-sort
walk_whole-returns-in-Paren-clause-sort t c =
    (paren_walked (scope_in c.args.scope) (order_in c.args.tables.now) c.args.e.now _ _ _ c.walk.result
    c.in-Paren.is c.get.ensures c.walk.ensures.value c.walk.ensures.place c.walk.ensures.sort).sort

pub walk_whole-returns-in_ok-row-in-Call-clause-value : goal.walk_whole-returns-in_ok-row-in-Call-clause-value
walk_whole-returns-in_ok-row-in-Call-clause-value t c =
    (call_walked (scope_in c.args.scope) (order_in c.args.tables.now) c.args.e.now _ _ _ _ _ _ _ _ c.called.result
    c.in-Call.is c.bytes.ensures c.as_slice.ensures c.as_slice-in-Call.ensures c.in_ok-row-in-Call.ensures.trees
    c.in_ok-row-in-Call.ensures.sorts c.called.ensures.value c.called.ensures.place c.called.ensures.sort).value

pub walk_whole-returns-in_ok-row-in-Call-clause-place : goal.walk_whole-returns-in_ok-row-in-Call-clause-place
walk_whole-returns-in_ok-row-in-Call-clause-place t c =
    (call_walked (scope_in c.args.scope) (order_in c.args.tables.now) c.args.e.now _ _ _ _ _ _ _ _ c.called.result
    c.in-Call.is c.bytes.ensures c.as_slice.ensures c.as_slice-in-Call.ensures c.in_ok-row-in-Call.ensures.trees
    c.in_ok-row-in-Call.ensures.sorts c.called.ensures.value c.called.ensures.place c.called.ensures.sort).place

pub walk_whole-returns-in_ok-row-in-Call-clause-sort : goal.walk_whole-returns-in_ok-row-in-Call-clause-sort
walk_whole-returns-in_ok-row-in-Call-clause-sort t c =
    (call_walked (scope_in c.args.scope) (order_in c.args.tables.now) c.args.e.now _ _ _ _ _ _ _ _ c.called.result
    c.in-Call.is c.bytes.ensures c.as_slice.ensures c.as_slice-in-Call.ensures c.in_ok-row-in-Call.ensures.trees
    c.in_ok-row-in-Call.ensures.sorts c.called.ensures.value c.called.ensures.place c.called.ensures.sort).sort

pub walk_whole-member-requires : goal.walk_whole-member-requires
walk_whole-member-requires t c =
    let message = there (scope_in c.args.scope) c.in-Some.held c.get-in-Member.result.now c.in-Some.ensures in
    (c.args.scope.names.now, message.message, c.requires.tables, message.held_is)

pub walk_whole-returns-in-Named-clause-value : goal.walk_whole-returns-in-Named-clause-value
walk_whole-returns-in-Named-clause-value t c =
    (named_made (scope_in c.args.scope) (order_in c.args.tables.now) c.args.e.now _ _ _ _ _ _ _ _ c.member.result
    c.in-Member.is c.in-Named.is c.get-in-Member.ensures c.bytes-in-Named.ensures c.in-Some.ensures
    (λ message held_is. c.member.ensures c.args.scope.names.now message c.requires.tables held_is)).value

pub walk_whole-returns-in-Named-clause-place : goal.walk_whole-returns-in-Named-clause-place
walk_whole-returns-in-Named-clause-place t c =
    (named_made (scope_in c.args.scope) (order_in c.args.tables.now) c.args.e.now _ _ _ _ _ _ _ _ c.member.result
    c.in-Member.is c.in-Named.is c.get-in-Member.ensures c.bytes-in-Named.ensures c.in-Some.ensures
    (λ message held_is. c.member.ensures c.args.scope.names.now message c.requires.tables held_is)).place

pub walk_whole-returns-in-Named-clause-sort : goal.walk_whole-returns-in-Named-clause-sort
walk_whole-returns-in-Named-clause-sort t c =
    (named_made (scope_in c.args.scope) (order_in c.args.tables.now) c.args.e.now _ _ _ _ _ _ _ _ c.member.result
    c.in-Member.is c.in-Named.is c.get-in-Member.ensures c.bytes-in-Named.ensures c.in-Some.ensures
    (λ message held_is. c.member.ensures c.args.scope.names.now message c.requires.tables held_is)).sort

pub walk_whole-returns-in_ok-index-in-Bytes-clause-value :
    goal.walk_whole-returns-in_ok-index-in-Bytes-clause-value
walk_whole-returns-in_ok-index-in-Bytes-clause-value t c =
    (bytes_made (scope_in c.args.scope) (order_in c.args.tables.now) c.args.e.now _ _ _ _ _ _ _ _ _ _ _ c.payload.result
    c.in-Member.is c.in-Bytes.is c.get-in-Member.ensures c.get-in-Bytes.ensures
    c.in_ok-index-in-Bytes.ensures.tree c.in_ok-index-in-Bytes.ensures.sort c.in-Some.ensures
    (λ message held_is. c.payload.ensures c.args.scope.names.now message c.requires.tables held_is)).value

pub walk_whole-returns-in_ok-index-in-Bytes-clause-place :
    goal.walk_whole-returns-in_ok-index-in-Bytes-clause-place
walk_whole-returns-in_ok-index-in-Bytes-clause-place t c =
    (bytes_made (scope_in c.args.scope) (order_in c.args.tables.now) c.args.e.now _ _ _ _ _ _ _ _ _ _ _ c.payload.result
    c.in-Member.is c.in-Bytes.is c.get-in-Member.ensures c.get-in-Bytes.ensures
    c.in_ok-index-in-Bytes.ensures.tree c.in_ok-index-in-Bytes.ensures.sort c.in-Some.ensures
    (λ message held_is. c.payload.ensures c.args.scope.names.now message c.requires.tables held_is)).place

pub walk_whole-returns-in_ok-index-in-Bytes-clause-sort :
    goal.walk_whole-returns-in_ok-index-in-Bytes-clause-sort
walk_whole-returns-in_ok-index-in-Bytes-clause-sort t c =
    (bytes_made (scope_in c.args.scope) (order_in c.args.tables.now) c.args.e.now _ _ _ _ _ _ _ _ _ _ _ c.payload.result
    c.in-Member.is c.in-Bytes.is c.get-in-Member.ensures c.get-in-Bytes.ensures
    c.in_ok-index-in-Bytes.ensures.tree c.in_ok-index-in-Bytes.ensures.sort c.in-Some.ensures
    (λ message held_is. c.payload.ensures c.args.scope.names.now message c.requires.tables held_is)).sort

pub walk_whole-returns-in-Unary-clause-value : goal.walk_whole-returns-in-Unary-clause-value
walk_whole-returns-in-Unary-clause-value t c =
    (prefix_walked (scope_in c.args.scope) (order_in c.args.tables.now) c.args.e.now _ _ _ _ c.walk_prefix.result c.in-Unary.is c.get-in-Unary.ensures
    c.walk_prefix.ensures).value

pub walk_whole-returns-in-Unary-clause-place : goal.walk_whole-returns-in-Unary-clause-place
walk_whole-returns-in-Unary-clause-place t c =
    (prefix_walked (scope_in c.args.scope) (order_in c.args.tables.now) c.args.e.now _ _ _ _ c.walk_prefix.result c.in-Unary.is c.get-in-Unary.ensures
    c.walk_prefix.ensures).place

pub walk_whole-returns-in-Unary-clause-sort : goal.walk_whole-returns-in-Unary-clause-sort
walk_whole-returns-in-Unary-clause-sort t c =
    (prefix_walked (scope_in c.args.scope) (order_in c.args.tables.now) c.args.e.now _ _ _ _ c.walk_prefix.result c.in-Unary.is c.get-in-Unary.ensures
    c.walk_prefix.ensures).sort

pub walk_whole-returns-in-Post-clause-value : goal.walk_whole-returns-in-Post-clause-value
walk_whole-returns-in-Post-clause-value t c =
    (step_walked (scope_in c.args.scope) (order_in c.args.tables.now) c.args.e.now _ _ _ _ c.walk_step.result c.in-Post.is c.get-in-Post.ensures
    c.walk_step.ensures).value

pub walk_whole-returns-in-Post-clause-place : goal.walk_whole-returns-in-Post-clause-place
walk_whole-returns-in-Post-clause-place t c =
    (step_walked (scope_in c.args.scope) (order_in c.args.tables.now) c.args.e.now _ _ _ _ c.walk_step.result c.in-Post.is c.get-in-Post.ensures
    c.walk_step.ensures).place

pub walk_whole-returns-in-Post-clause-sort : goal.walk_whole-returns-in-Post-clause-sort
walk_whole-returns-in-Post-clause-sort t c =
    (step_walked (scope_in c.args.scope) (order_in c.args.tables.now) c.args.e.now _ _ _ _ c.walk_step.result c.in-Post.is c.get-in-Post.ensures
    c.walk_step.ensures).sort

pub walk_whole-returns-in_ok-left-in-Binary-clause-value : goal.walk_whole-returns-in_ok-left-in-Binary-clause-value
walk_whole-returns-in_ok-left-in-Binary-clause-value t c =
    (binary_walked (scope_in c.args.scope) (order_in c.args.tables.now) c.args.e.now _ _ _ _ _ _ _ _ c.walk_binary.result
    c.in-Binary.is c.get-in-Binary.ensures c.get-in-Binary-2.ensures c.in_ok-left-in-Binary.ensures.tree
    c.in_ok-left-in-Binary.ensures.sort c.walk_binary.ensures).value

pub walk_whole-returns-in_ok-left-in-Binary-clause-place : goal.walk_whole-returns-in_ok-left-in-Binary-clause-place
walk_whole-returns-in_ok-left-in-Binary-clause-place t c =
    (binary_walked (scope_in c.args.scope) (order_in c.args.tables.now) c.args.e.now _ _ _ _ _ _ _ _ c.walk_binary.result
    c.in-Binary.is c.get-in-Binary.ensures c.get-in-Binary-2.ensures c.in_ok-left-in-Binary.ensures.tree
    c.in_ok-left-in-Binary.ensures.sort c.walk_binary.ensures).place

pub walk_whole-returns-in_ok-left-in-Binary-clause-sort : goal.walk_whole-returns-in_ok-left-in-Binary-clause-sort
walk_whole-returns-in_ok-left-in-Binary-clause-sort t c =
    (binary_walked (scope_in c.args.scope) (order_in c.args.tables.now) c.args.e.now _ _ _ _ _ _ _ _ c.walk_binary.result
    c.in-Binary.is c.get-in-Binary.ensures c.get-in-Binary-2.ensures c.in_ok-left-in-Binary.ensures.tree
    c.in_ok-left-in-Binary.ensures.sort c.walk_binary.ensures).sort

pub walk_whole-returns-in_ok-no-in-Cond-clause-value : goal.walk_whole-returns-in_ok-no-in-Cond-clause-value
walk_whole-returns-in_ok-no-in-Cond-clause-value t c =
    (choice_walked (scope_in c.args.scope) (order_in c.args.tables.now) c.args.e.now _ _ _ _ _ _ _ _ _ _ c.walk_choice.result
    c.in-Cond.is
    (part_of _ _ _ _ _ _ c.get-in-Cond-3.ensures refl refl)
    (part_of _ _ _ _ _ _ c.get-in-Cond.ensures c.in_ok-yes-in-Cond.ensures.tree c.in_ok-yes-in-Cond.ensures.sort)
    (part_of _ _ _ _ _ _ c.get-in-Cond-2.ensures c.in_ok-no-in-Cond.ensures.tree c.in_ok-no-in-Cond.ensures.sort)
    c.walk_choice.ensures).value

pub walk_whole-returns-in_ok-no-in-Cond-clause-place : goal.walk_whole-returns-in_ok-no-in-Cond-clause-place
walk_whole-returns-in_ok-no-in-Cond-clause-place t c =
    (choice_walked (scope_in c.args.scope) (order_in c.args.tables.now) c.args.e.now _ _ _ _ _ _ _ _ _ _ c.walk_choice.result
    c.in-Cond.is
    (part_of _ _ _ _ _ _ c.get-in-Cond-3.ensures refl refl)
    (part_of _ _ _ _ _ _ c.get-in-Cond.ensures c.in_ok-yes-in-Cond.ensures.tree c.in_ok-yes-in-Cond.ensures.sort)
    (part_of _ _ _ _ _ _ c.get-in-Cond-2.ensures c.in_ok-no-in-Cond.ensures.tree c.in_ok-no-in-Cond.ensures.sort)
    c.walk_choice.ensures).place

pub walk_whole-returns-in_ok-no-in-Cond-clause-sort : goal.walk_whole-returns-in_ok-no-in-Cond-clause-sort
walk_whole-returns-in_ok-no-in-Cond-clause-sort t c =
    (choice_walked (scope_in c.args.scope) (order_in c.args.tables.now) c.args.e.now _ _ _ _ _ _ _ _ _ _ c.walk_choice.result
    c.in-Cond.is
    (part_of _ _ _ _ _ _ c.get-in-Cond-3.ensures refl refl)
    (part_of _ _ _ _ _ _ c.get-in-Cond.ensures c.in_ok-yes-in-Cond.ensures.tree c.in_ok-yes-in-Cond.ensures.sort)
    (part_of _ _ _ _ _ _ c.get-in-Cond-2.ensures c.in_ok-no-in-Cond.ensures.tree c.in_ok-no-in-Cond.ensures.sort)
    c.walk_choice.ensures).sort

pub walk_whole-returns-in_ok-right-in-Assign-clause-value : goal.walk_whole-returns-in_ok-right-in-Assign-clause-value
walk_whole-returns-in_ok-right-in-Assign-clause-value t c =
    (assignment_walked (scope_in c.args.scope) (order_in c.args.tables.now) c.args.e.now _ _ _ _ _ _ _ _ c.walk_assignment.result
    c.in-Assign.is c.get-in-Assign-2.ensures c.get-in-Assign.ensures c.in_ok-right-in-Assign.ensures.tree
    c.in_ok-right-in-Assign.ensures.sort c.walk_assignment.ensures).value

pub walk_whole-returns-in_ok-right-in-Assign-clause-place : goal.walk_whole-returns-in_ok-right-in-Assign-clause-place
walk_whole-returns-in_ok-right-in-Assign-clause-place t c =
    (assignment_walked (scope_in c.args.scope) (order_in c.args.tables.now) c.args.e.now _ _ _ _ _ _ _ _ c.walk_assignment.result
    c.in-Assign.is c.get-in-Assign-2.ensures c.get-in-Assign.ensures c.in_ok-right-in-Assign.ensures.tree
    c.in_ok-right-in-Assign.ensures.sort c.walk_assignment.ensures).place

pub walk_whole-returns-in_ok-right-in-Assign-clause-sort : goal.walk_whole-returns-in_ok-right-in-Assign-clause-sort
walk_whole-returns-in_ok-right-in-Assign-clause-sort t c =
    (assignment_walked (scope_in c.args.scope) (order_in c.args.tables.now) c.args.e.now _ _ _ _ _ _ _ _ c.walk_assignment.result
    c.in-Assign.is c.get-in-Assign-2.ensures c.get-in-Assign.ensures c.in_ok-right-in-Assign.ensures.tree
    c.in_ok-right-in-Assign.ensures.sort c.walk_assignment.ensures).sort

pub walk_prefix-returns : goal.walk_prefix-returns
walk_prefix-returns t c =
    inner_walked (scope_in c.args.scope) (order_in c.args.tables.now) c.args.inner.now _ c.in_ok-target.target.walked
    (λ k b p v. record { shape = shape.Value (prefix_tree c.args.op k (assigned b p) v); sort = sort_of_prefix c.args.op b k })
    c.prefix.result c.in_ok-target.ensures.places.0
    (record { value = c.in_ok-target.ensures.value; place = c.in_ok-target.ensures.place; sort = c.in_ok-target.ensures.sort })
    c.prefix.ensures

pub walk_step-returns : goal.walk_step-returns
walk_step-returns t c =
    inner_walked (scope_in c.args.scope) (order_in c.args.tables.now) c.args.inner.now _ c.in_ok-target.target.walked
    (λ k b p v. record { shape = shape.Value (stepping (kind_in k) c.args.up true (assigned b p)); sort = sort_of_step b k })
    c.step.result c.in_ok-target.ensures.places.0
    (record { value = c.in_ok-target.ensures.value; place = c.in_ok-target.ensures.place; sort = c.in_ok-target.ensures.sort })
    c.step.ensures

pub walk_assignment-returns : goal.walk_assignment-returns
walk_assignment-returns t c =
    left_walked (scope_in c.args.scope) (order_in c.args.tables.now) c.args.left.now c.args.op _ _ c.in_ok-target.target.walked c.args.right.tree c.args.right.sort
    c.assign.result c.in_ok-target.ensures.places.0 c.in_ok-target.ensures.places.1
    c.in_ok-target.ensures.place c.in_ok-target.ensures.sort c.assign.ensures
