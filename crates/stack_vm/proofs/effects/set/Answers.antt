-- A timer that is set.
use Rattle.std.proofs.Common.{◌≡◌, ◌+◌, ℕ, Bool, true, false, List, get_or, drop, slice_get, Some, ap, ◌∙◌, subst, refl}
use Rattle.std.specs.Prelude.{ℤ, pos, slice_set}
use Rattle.run_effects.specs.Effect as effect
use Rattle.vm_host.specs.Host.{TakesUnlessClosed}
use Rattle.bytecode.specs.declared.instr.Instr.TheVariants.{Set}
use Rattle.run_effects.specs.Effect.{micros}
use Rattle.stack_vm.specs.Inside.State.{RunState, machine}
use Rattle.stack_vm.proofs.HostRows.{does_unless_closed, set_row}
use Rattle.stack_vm.proofs.ListLemmas.{item_read}
use Rattle.stack_vm.proofs.NumberLemmas.{got}
use Rattle.stack_vm.proofs.effects.set.Goals as goal

pub returns-clause-does : goal.returns-clause-does
returns-clause-does g c =
    let s : RunState = c.args.state.now in
    let host = g.H.Host.meaning in
    let stands = c.args.host.now in
    let code = c.args.code.now in
    let r = c.requires.ready in
    let timers : List Bool = host.active_timers stands in
    let timer : ℕ = c.args.timer in
    let cyclic : Bool = c.args.cyclic in
    let unit : ℕ = get_or c.as_slice.result.now timer 0 in
    let n : ℤ = get_or s.stack 0 (pos 0) in
    let there : RunState = record s { place = s.place + 1; stack = drop 1 s.stack } in
    let is : slice_get code.timers timer ≡ Some unit = item_read code.timers c.as_slice.ensures refl r.named 0 in
    let top = got c.top.result n (record { sfits = c.top.type_inv }) c.top.ensures in
    let duration : c.micros-duration.result ≡ micros unit n = c.micros-duration.ensures.value ∙ ap (micros unit) top in
    does_unless_closed host code (Set timer cyclic) s stands c.forget.new.self c.set_timer.new.self there refl refl c.forget.ensures
    (effect.Set timer (micros unit n) cyclic) (slice_set timers timer true)
    (elim [
      | true ↦ λ effects. set_row code true (host.moment stands) (machine s timers effects) timer unit cyclic s.stack r.taken is c.requires.exists
      | false ↦ λ effects. set_row code false (host.moment stands) (machine s timers effects) timer unit cyclic s.stack r.taken is c.requires.exists
    ]) c.set_timer.ensures.activates
    (subst (λ (d : ℕ). TakesUnlessClosed host stands (effect.Set timer d cyclic) c.set_timer.new.self) duration c.set_timer.ensures.taken)
