-- A timer that is cancelled.
use Rattle.std.proofs.Common.{◌+◌, ℕ, Bool, true, false, List, refl}
use Rattle.std.specs.Prelude.{slice_set}
use Rattle.run_effects.specs.Effect as effect
use Rattle.bytecode.specs.declared.instr.Instr.TheVariants.{Cancel}
use Rattle.stack_vm.specs.Inside.State.{RunState, machine}
use Rattle.stack_vm.proofs.HostRows.{does_unless_closed, timer_row}
use Rattle.stack_vm.proofs.effects.cancel.Goals as goal

pub returns-clause-does : goal.returns-clause-does
returns-clause-does g c =
    let s : RunState = c.args.state.now in
    let host = g.H.Host.meaning in
    let stands = c.args.host.now in
    let timers : List Bool = host.active_timers stands in
    let timer : ℕ = c.args.timer in
    let there : RunState = record s { place = s.place + 1 } in
    λ code. does_unless_closed host code (Cancel timer) s stands c.go_on.new.self c.cancel.new.self there refl refl c.go_on.ensures
    (effect.Cancel timer) (slice_set timers timer false)
    (elim [
      | true ↦ λ effects. timer_row (machine s timers effects) timer _ c.requires.exists
      | false ↦ λ effects. timer_row (machine s timers effects) timer _ c.requires.exists
    ]) c.cancel.ensures.deactivates c.cancel.ensures.taken
