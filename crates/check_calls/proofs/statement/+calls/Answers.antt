-- One more statement, arm or group, and each form by its parts.
use Rattle.std.proofs.Common.{◌++◌, refl, subst, sym}
use Rattle.std.specs.Prelude.{Option}
use Rattle.capl_tree.specs.declared.statement.Arm.{Arm}
use Rattle.capl_tree.specs.declared.statement.Group.{Group}
use Rattle.capl_tree.specs.declared.statement.Stmt.{Stmt}
use Rattle.capl_meaning.specs.Calls.{calls_in, calls_in_labels, calls_in_part, names_called}
use Rattle.check_calls.specs.Callees.{calls_of_all}
use Rattle.check_calls.specs.Inside.Added.{AreAdded, calls_of_cases, calls_of_list, calls_of_other}
use Rattle.check_calls.proofs.CalleeLemmas.{added_more, added_none, added_pair, added_triple, added_two}
use Rattle.check_calls.proofs.FormLemmas.{do_calls, for_calls, if_calls, switch_calls, while_calls}
use Rattle.check_calls.proofs.statement.+calls.Goals as goal

pub add_calls_of_all-loop-statement-init : goal.add_calls_of_all-loop-statement-init
add_calls_of_all-loop-statement-init t c = added_none _ _

pub add_calls_of_all-loop-statement-preserved : goal.add_calls_of_all-loop-statement-preserved
add_calls_of_all-loop-statement-preserved t c =
    added_more c.args.names.now names_called c.args.statements.now c.loop-statement.statement-index c.statement-item.result _ _ _
    c.loop-statement-test.true c.statement-item.is c.loop-statement.invariant c.in_ok-add_calls_of.ensures

pub add_calls_of_arms-loop-arm-init : goal.add_calls_of_arms-loop-arm-init
add_calls_of_arms-loop-arm-init t c = added_none _ _

pub add_calls_of_arms-loop-arm-preserved : goal.add_calls_of_arms-loop-arm-preserved
add_calls_of_arms-loop-arm-preserved t c =
    added_more c.args.names.now (λ (arm : Arm). calls_in arm.test ++ names_called arm.body) c.args.arms.now c.loop-arm.arm-index
    c.arm-item.result _ _ _ c.loop-arm-test.true c.arm-item.is c.loop-arm.invariant
    (added_two c.args.names.now _ _ _ _ _ c.in_ok-add_calls.ensures c.in_ok-add_calls_of.ensures)

pub add_calls_of_groups-loop-group-init : goal.add_calls_of_groups-loop-group-init
add_calls_of_groups-loop-group-init t c = added_none _ _

pub add_calls_of_groups-loop-group-preserved : goal.add_calls_of_groups-loop-group-preserved
add_calls_of_groups-loop-group-preserved t c =
    added_more c.args.names.now (λ (group : Group). calls_in_labels group.labels ++ calls_of_all group.body) c.args.groups.now
    c.loop-group.group-index c.group-item.result _ _ _ c.loop-group-test.true c.group-item.is c.loop-group.invariant
    (added_pair calls_in_labels calls_of_all c.args.names.now _ _ _ _ c.group-item.result.labels _ c.group-item.result.body _ refl
    c.as_slice.ensures c.as_slice-in-loop-group.ensures c.in_ok-add_calls_in_labels.ensures c.in_ok-add_calls_of_all.ensures)

pub add_calls_of_other-returns-in_default : goal.add_calls_of_other-returns-in_default
add_calls_of_other-returns-in_default t c =
    subst
    (λ (o : Option Stmt). AreAdded c.args.names.now c.args.into.now.items c.args.into.now.items (calls_of_other o))
    (sym c.in_default.is) (added_none _ _)

pub add_calls_of-returns-in_ok-add_calls_of_other-in-If : goal.add_calls_of-returns-in_ok-add_calls_of_other-in-If
add_calls_of-returns-in_ok-add_calls_of_other-in-If t c =
    added_pair calls_of_list calls_of_other c.args.names.now _ _ _ _ _ _ c.in-If.other c.in-If.other (if_calls _ _ _ c.in-If.is)
    c.as_slice-in-If.ensures refl c.in_ok-add_calls_of_arms-in-If.ensures c.in_ok-add_calls_of_other-in-If.ensures

pub add_calls_of-returns-in_ok-add_calls_of-in-While : goal.add_calls_of-returns-in_ok-add_calls_of-in-While
add_calls_of-returns-in_ok-add_calls_of-in-While t c =
    added_pair calls_in names_called c.args.names.now _ _ _ _ c.in-While.test c.in-While.test _ _ (while_calls _ _ _ c.in-While.is)
    refl c.get.ensures c.in_ok-add_calls-in-While.ensures c.in_ok-add_calls_of-in-While.ensures

pub add_calls_of-returns-in_ok-add_calls-in-Do : goal.add_calls_of-returns-in_ok-add_calls-in-Do
add_calls_of-returns-in_ok-add_calls-in-Do t c =
    added_pair names_called calls_in c.args.names.now _ _ _ _ _ _ c.in-Do.test c.in-Do.test (do_calls _ _ _ c.in-Do.is)
    c.get-in-Do.ensures refl c.in_ok-add_calls_of-in-Do.ensures c.in_ok-add_calls-in-Do.ensures

pub add_calls_of-returns-in_ok-add_calls_of-in-For : goal.add_calls_of-returns-in_ok-add_calls_of-in-For
add_calls_of-returns-in_ok-add_calls_of-in-For t c =
    added_triple calls_in_part calls_in_part (λ (body : Stmt). calls_in_part c.in-For.step ++ names_called body) c.args.names.now
    _ _ _ _ _ c.in-For.init c.in-For.init c.in-For.test c.in-For.test _ _ (for_calls _ _ _ _ _ c.in-For.is)
    refl refl c.get-in-For.ensures c.in_ok-add_calls_in_boxed-in-For.ensures c.in_ok-add_calls_in_boxed-in-For-2.ensures
    (added_two c.args.names.now _ _ _ _ _ c.in_ok-add_calls_in_boxed-in-For-3.ensures c.in_ok-add_calls_of-in-For.ensures)

pub add_calls_of-returns-in_ok-add_calls_of_groups-in-Switch :
    goal.add_calls_of-returns-in_ok-add_calls_of_groups-in-Switch
add_calls_of-returns-in_ok-add_calls_of_groups-in-Switch t c =
    added_pair calls_in calls_of_cases c.args.names.now _ _ _ _ _ _ _ _
    (switch_calls _ _ _ c.in-Switch.is) c.get-in-Switch.ensures c.as_slice-in-Switch.ensures
    c.in_ok-add_calls-in-Switch.ensures c.in_ok-add_calls_of_groups-in-Switch.ensures
