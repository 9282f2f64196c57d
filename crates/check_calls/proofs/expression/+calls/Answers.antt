-- One more expression, and each form by its parts.
use Rattle.std.proofs.Common.{◌∷◌, [], refl}
use Rattle.capl_meaning.specs.Calls.{calls_in, calls_in_field}
use Rattle.check_calls.proofs.CalleeLemmas.{added_more, added_none, added_pair, added_triple}
use Rattle.check_calls.proofs.FormLemmas.{assign_calls, binary_calls, call_calls, cond_calls, index_calls, member_calls}
use Rattle.check_calls.proofs.expression.+calls.Goals as goal
use Rattle.check_calls.specs.Inside.Added.{calls_in_all}

pub add_all_calls-loop-e-init : goal.add_all_calls-loop-e-init
add_all_calls-loop-e-init t c = added_none _ _

pub add_all_calls-loop-e-preserved : goal.add_all_calls-loop-e-preserved
add_all_calls-loop-e-preserved t c =
    added_more c.args.names.now calls_in c.args.all.now c.loop-e.e-index c.e-item.result _ _ _
    c.loop-e-test.true c.e-item.is c.loop-e.invariant c.in_ok-add_calls.ensures

pub add_calls-returns-in_ok-add_all_calls-in-Call : goal.add_calls-returns-in_ok-add_all_calls-in-Call
add_calls-returns-in_ok-add_all_calls-in-Call t c =
    added_pair (λ name. name ∷ []) calls_in_all c.args.names.now _ _ _ _ _ _ _ _ (call_calls _ _ _ _ c.in-Call.is)
    c.bytes.ensures c.as_slice.ensures c.in_ok-add_callee-in-Call.ensures c.in_ok-add_all_calls-in-Call.ensures

pub add_calls-returns-in_ok-add_calls_in_field-in-Member :
    goal.add_calls-returns-in_ok-add_calls_in_field-in-Member
add_calls-returns-in_ok-add_calls_in_field-in-Member t c =
    added_pair calls_in calls_in_field c.args.names.now _ _ _ _ _ _ c.in-Member.field c.in-Member.field (member_calls _ _ _ _ c.in-Member.is)
    c.get-in-Member.ensures refl c.in_ok-add_calls-in-Member.ensures c.in_ok-add_calls_in_field-in-Member.ensures

pub add_calls-returns-in_ok-add_calls-in-Index-2 : goal.add_calls-returns-in_ok-add_calls-in-Index-2
add_calls-returns-in_ok-add_calls-in-Index-2 t c =
    added_pair calls_in calls_in c.args.names.now _ _ _ _ _ _ _ _ (index_calls _ _ _ _ c.in-Index.is)
    c.get-in-Index.ensures c.get-in-Index-2.ensures c.in_ok-add_calls-in-Index.ensures c.in_ok-add_calls-in-Index-2.ensures

pub add_calls-returns-in_ok-add_calls-in-Binary-2 : goal.add_calls-returns-in_ok-add_calls-in-Binary-2
add_calls-returns-in_ok-add_calls-in-Binary-2 t c =
    added_pair calls_in calls_in c.args.names.now _ _ _ _ _ _ _ _ (binary_calls _ _ _ _ _ c.in-Binary.is)
    c.get-in-Binary.ensures c.get-in-Binary-2.ensures c.in_ok-add_calls-in-Binary.ensures c.in_ok-add_calls-in-Binary-2.ensures

pub add_calls-returns-in_ok-add_calls-in-Assign-2 : goal.add_calls-returns-in_ok-add_calls-in-Assign-2
add_calls-returns-in_ok-add_calls-in-Assign-2 t c =
    added_pair calls_in calls_in c.args.names.now _ _ _ _ _ _ _ _ (assign_calls _ _ _ _ _ c.in-Assign.is)
    c.get-in-Assign.ensures c.get-in-Assign-2.ensures c.in_ok-add_calls-in-Assign.ensures c.in_ok-add_calls-in-Assign-2.ensures

pub add_calls-returns-in_ok-add_calls-in-Cond-3 : goal.add_calls-returns-in_ok-add_calls-in-Cond-3
add_calls-returns-in_ok-add_calls-in-Cond-3 t c =
    added_triple calls_in calls_in calls_in c.args.names.now _ _ _ _ _ _ _ _ _ _ _ (cond_calls _ _ _ _ _ c.in-Cond.is)
    c.get-in-Cond.ensures c.get-in-Cond-2.ensures c.get-in-Cond-3.ensures
    c.in_ok-add_calls-in-Cond.ensures c.in_ok-add_calls-in-Cond-2.ensures c.in_ok-add_calls-in-Cond-3.ensures
