-- The wish to stop the measurement.
use Rattle.std.proofs.Common.{◌+◌, true, false, refl}
use Rattle.run_effects.specs.Effect as effect
use Rattle.bytecode.specs.declared.instr.Instr.TheVariants.{Stop}
use Rattle.stack_vm.specs.Inside.State.{RunState}
use Rattle.stack_vm.proofs.HostRows.{does_unless_closed}
use Rattle.stack_vm.proofs.effects.stop.Goals as goal

pub returns-clause-does : goal.returns-clause-does
returns-clause-does g c =
    let s : RunState = c.args.state.now in
    let host = g.H.Host.meaning in
    let stands = c.args.host.now in
    let there : RunState = record s { place = s.place + 1 } in
    λ code. does_unless_closed host code Stop s stands c.go_on.new.self c.stop.new.self there refl refl c.go_on.ensures effect.Stop (host.active_timers stands)
    (elim [ true ↦ λ effects. refl | false ↦ λ effects. refl ]) (λ _. c.stop.ensures.timers_stay) c.stop.ensures.taken
