-- Whether a timer is active.
use Rattle.std.proofs.Common.{◌+◌, ℕ, Bool, false, List, ◌∷◌, get_or, refl, ap, ◌∙◌, arith}
use Rattle.std.specs.Prelude.{ℤ}
use Rattle.int_kinds.specs.Arithmetic.{truth}
use Rattle.bytecode.specs.declared.instr.Instr.TheVariants.{Active}
use Rattle.bytecode.proofs.Numbers.{IsNumber-truth}
use Rattle.stack_vm.specs.Inside.State.{RunState, machine}
use Rattle.stack_vm.proofs.HostRows.{does_quietly, timer_row}
use Rattle.stack_vm.proofs.NumberLemmas.{passed}
use Rattle.stack_vm.proofs.StepLemmas.{room_to_give}
use Rattle.stack_vm.proofs.effects.active.Goals as goal

pub give-requires-clause-room : goal.give-requires-clause-room
give-requires-clause-room g c =
    let s : RunState = c.args.state.now in
    let r = c.requires.ready.1 in
    room_to_give c.requires.ready.0 (Active c.args.timer) s r (truth (get_or r.active c.args.timer false) ∷ s.stack)
    (timer_row (machine s r.active r.effects) c.args.timer _ (omega (arith, r.named, r.timers)))

pub returns : goal.returns
returns g c =
    let s : RunState = c.args.state.now in
    let host = g.H.Host.meaning in
    let stands = c.args.host.now in
    let timers : List Bool = host.active_timers stands in
    let timer : ℕ = c.args.timer in
    let b : Bool = get_or timers timer false in
    let there : ℤ → RunState = λ n. record s { place = s.place + 1; stack = n ∷ s.stack } in
    let n = passed c.truth.result (truth b) (c.truth.ensures ∙ ap truth c.active.ensures) (IsNumber-truth b) in
    λ code. does_quietly host code (Active timer) s stands c.give.new.self stands (there (truth b)) refl refl (c.give.ensures ∙ ap there n)
    (host.is_closed stands) (host.moment stands) refl refl (λ effects. timer_row (machine s timers effects) timer _ c.requires.exists) refl
