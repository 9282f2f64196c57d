-- A call is followed, or a function left.
use Rattle.std.proofs.Common.{ℕ, List, sym, subst, refl, arith}
use Rattle.check_calls.specs.Graph.{rows_of}
use Rattle.check_calls.specs.Inside.Walk.{IsWalk}
use Rattle.check_calls.specs.declared.depth.Walk.{Walk}
use Rattle.check_calls.proofs.WalkLemmas.{call_falls, call_walks, enter_keeps, left_falls, walk_left}
use Rattle.check_calls.proofs.depth.Walk.step.Goals as goal

pub returns-in_ok-enter-in-Some-next_call-clause-kept : goal.returns-in_ok-enter-in-Some-next_call-clause-kept
returns-in_ok-enter-in-Some-next_call-clause-kept c =
    let mid : Walk = record { entered = c.args.self.now.entered; stack = c.push.new.self; left = c.args.self.now.left } in
    enter_keeps mid c.enter.new.self c.in-Some-next_call.next c.in_ok-enter-in-Some-next_call.ensures

pub returns-in_ok-enter-in-Some-next_call-clause-walks : goal.returns-in_ok-enter-in-Some-next_call-clause-walks
returns-in_ok-enter-in-Some-next_call-clause-walks c = λ walk.
    let mid : Walk = record { entered = c.args.self.now.entered; stack = c.push.new.self; left = c.args.self.now.left } in
    call_walks (rows_of c.args.rows.now) c.args.self.now mid c.enter.new.self c.pop.new.self.items c.in-Some.function c.in-Some.call
    c.in-Some-next_call.next c.in-Some-next_call.ensures.of c.in-Some.ensures.items c.in_ok-push-in-Some-next_call.ensures.items refl refl
    c.in_ok-enter-in-Some-next_call.ensures walk

pub returns-in_ok-enter-in-Some-next_call-clause-falls : goal.returns-in_ok-enter-in-Some-next_call-clause-falls
returns-in_ok-enter-in-Some-next_call-clause-falls c = λ same.
    let mid : Walk = record { entered = c.args.self.now.entered; stack = c.push.new.self; left = c.args.self.now.left } in
    call_falls (rows_of c.args.rows.now) c.args.self.now mid c.enter.new.self c.pop.new.self.items c.in-Some.function c.in-Some.call
    c.in-Some-next_call.next c.in-Some-next_call.ensures.of c.in-Some.ensures.items c.in_ok-push-in-Some-next_call.ensures.items refl
    c.in_ok-enter-in-Some-next_call.ensures

pub returns-in_ok-push-in-None-clause-walks : goal.returns-in_ok-push-in-None-clause-walks
returns-in_ok-push-in-None-clause-walks c = λ walk.
    let rows = rows_of c.args.rows.now in
    let entered = c.args.self.now.entered.items in
    let rest = c.pop.new.self.items in
    subst (λ (l : List ℕ). IsWalk rows entered rest l) (sym c.in_ok-push-in-None.ensures.items)
    (walk_left rows entered rest c.in-Some.function c.in-Some.call c.args.self.now.left.items c.in-None.ensures.of
    (subst (λ (l : List (ℕ × ℕ)). IsWalk rows entered l c.args.self.now.left.items) c.in-Some.ensures.items walk))

pub returns-in_ok-push-in-None-clause-falls : goal.returns-in_ok-push-in-None-clause-falls
returns-in_ok-push-in-None-clause-falls c = λ same.
    let less = left_falls (rows_of c.args.rows.now) c.args.self.now.stack.items c.pop.new.self.items c.in-Some.function c.in-Some.call c.in-Some.ensures.items in
    omega (arith, less)
