-- A message that is sent.
use Rattle.std.proofs.Common.{◌+◌, ℕ, Bool, true, false, List, inr, subst, refl}
use Rattle.can_frame.specs.Frame.{FrameFields}
use Rattle.run_effects.specs.Effect as effect
use Rattle.vm_host.specs.Host.{TakesUnlessClosed}
use Rattle.bytecode.specs.declared.instr.Instr.TheVariants.{Send}
use Rattle.message_cells.specs.Message.{frame_of}
use Rattle.bytecode.proofs.MessageCells.{message_there}
use Rattle.stack_vm.specs.Inside.State.{RunState, machine}
use Rattle.stack_vm.proofs.HostRows.{does_unless_closed, on_err, refuses_when_open, send_row}
use Rattle.stack_vm.proofs.MessageRows.{cells_at, message_in}
use Rattle.stack_vm.proofs.effects.send.Goals as goal

pub frame-requires : goal.frame-requires
frame-requires g c = message_in c.requires.0.cells c.args.state.now.cells c.args.at c.requires.1.cells_held c.requires.1.named

pub returns-in_err-send-clause-refused : goal.returns-in_err-send-clause-refused
returns-in_err-send-clause-refused g c =
    let s : RunState = c.args.state.now in
    let host = g.H.Host.meaning in
    let stands = c.args.host.now in
    let at : ℕ = c.args.at in
    let timers : List Bool = host.active_timers stands in
    let is = message_there c.requires.0.cells s.cells at c.requires.1.cells_held c.requires.1.named in
    let frame : FrameFields = frame_of (cells_at at s.cells) in
    on_err c.from_residual.result (λ code. refuses_when_open host code (Send at) s stands (record s { place = s.place + 1 }) c.send.new.self (effect.Send frame) tt
    (elim [
      | true ↦ λ effects. send_row code true (host.moment stands) (machine s timers effects) at s.stack is
      | false ↦ λ effects. send_row code false (host.moment stands) (machine s timers effects) at s.stack is
    ]) (λ h. absurd (let e = c.in_err-send.ensures.closed_answers h in cc)) (inr (frame, refl))
    (inr (subst (λ (f : FrameFields). host.refuses stands (effect.Send f) c.send.new.self) c.frame.ensures c.in_err-send.ensures.refused)))

pub returns-clause-does : goal.returns-clause-does
returns-clause-does g c =
    let s : RunState = c.args.state.now in
    let host = g.H.Host.meaning in
    let stands = c.args.host.now in
    let at : ℕ = c.args.at in
    let timers : List Bool = host.active_timers stands in
    let is = message_there c.requires.0.cells s.cells at c.requires.1.cells_held c.requires.1.named in
    let there : RunState = record s { place = s.place + 1 } in
    λ code. does_unless_closed host code (Send at) s stands c.go_on.new.self c.send.new.self there refl refl c.go_on.ensures
    (effect.Send (frame_of (cells_at at s.cells))) timers
    (elim [
      | true ↦ λ effects. send_row code true (host.moment stands) (machine s timers effects) at s.stack is
      | false ↦ λ effects. send_row code false (host.moment stands) (machine s timers effects) at s.stack is
    ]) (λ _. c.send.ensures.timers_stay)
    (subst (λ (f : FrameFields). TakesUnlessClosed host stands (effect.Send f) c.send.new.self) c.frame.ensures c.in_ok-send.ensures.taken)
