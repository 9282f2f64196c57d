-- A call of a function.
use Rattle.std.proofs.Common.{◌≡◌, ◌+◌, ◌-◌, suc, ◌∷◌, length, get_or, false, None, ap, ◌∙◌, arith, refl}
use Rattle.bytecode.specs.declared.code.Fun.{Fun}
use Rattle.bytecode.specs.declared.instr.Instr.TheVariants.{Call}
use Rattle.stack_vm.specs.Inside.State.{RunState, machine}
use Rattle.stack_vm.proofs.CellRows.{call_row, callee_there}
use Rattle.stack_vm.proofs.ListLemmas.{item_read}
use Rattle.stack_vm.proofs.StepLemmas.{does_in}
use Rattle.stack_vm.proofs.calls.call.Goals as goal

pub call-requires-clause-room : goal.call-requires-clause-room
call-requires-clause-room c =
    let s : RunState = c.args.state.now in
    let r = c.requires in
    let none : Fun = record { start = 0; end = 0; gives = false } in
    let g : Fun = get_or c.as_slice.result.now c.args.f none in
    let t : s.turns ≡ suc (s.turns - 1) = omega (arith, c.in_ok-take_turn.ensures.cut) in
    let exists = callee_there c.args.code.now r.closed r.moment (machine s r.active r.effects) c.args.f s.stack r.runs in
    let there = item_read c.args.code.now.functions c.as_slice.ensures refl exists none in
    let f = r.fits _ (call_row c.args.code.now r.closed r.moment (machine s r.active r.effects) c.args.f g (s.turns - 1) s.stack there t) in
    let taken = c.in_ok-take_turn.ensures.taken in
    omega (arith, f.calls, ap (λ (z : RunState). length z.calls) taken, ap (λ (z : RunState). z.calls_room) taken)

pub returns : goal.returns
returns c =
    let s : RunState = c.args.state.now in
    let code = c.args.code.now in
    let r = c.requires in
    let exists = callee_there code r.closed r.moment (machine s r.active r.effects) c.args.f s.stack r.runs in
    let none : Fun = record { start = 0; end = 0; gives = false } in
    let g : Fun = get_or c.as_slice.result.now c.args.f none in
    let t : s.turns ≡ suc (s.turns - 1) = omega (arith, c.in_ok-take_turn.ensures.cut) in
    let there : RunState = record s { place = g.start; calls = (s.place + 1) ∷ s.calls; turns = s.turns - 1 } in
    does_in code (Call c.args.f) s None c.call.new.self there refl refl
    (λ closed moment active effects. call_row code closed moment (machine s active effects) c.args.f g (s.turns - 1) s.stack
    (item_read code.functions c.as_slice.ensures refl exists none) t)
    (c.call.ensures ∙ ap (λ (z : RunState). record z { place = g.start; calls = (z.place + 1) ∷ z.calls }) c.in_ok-take_turn.ensures.taken)
