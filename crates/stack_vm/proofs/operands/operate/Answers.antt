-- The value of an operator.
use Rattle.std.proofs.Common.{◌≡◌, ◌+◌, ◌∷◌, get_or, drop, Some, None, ap, ◌∙◌, sym, refl, arith}
use Rattle.std.specs.Prelude.{ℤ, pos}
use Rattle.std.specs.Int.{cast_signed, cast_unsigned, w128}
use Rattle.int_kinds.specs.Arithmetic.{value}
use Rattle.int_kinds.proofs.Values.{Holds-value}
use Rattle.bytecode.specs.declared.instr.Instr.TheVariants.{Bin}
use Rattle.stack_vm.specs.Inside.State.{RunState, machine}
use Rattle.stack_vm.proofs.NumberLemmas.{got, read_back_held}
use Rattle.stack_vm.proofs.OperandRows.{operator_row}
use Rattle.stack_vm.proofs.StepLemmas.{does}
use Rattle.stack_vm.proofs.operands.operate.Goals as goal

pub returns : goal.returns
returns c =
    let s : RunState = c.args.state.now in
    let r = c.requires.1 in
    let op = c.args.op in
    let k = c.args.kind in
    let n : ℤ = c.in_ok-n.n in
    let a : ℤ = get_or s.stack 1 (pos 0) in
    let b : ℤ = get_or s.stack 0 (pos 0) in
    let under = got c.under.result a (record { sfits = c.under.type_inv }) c.under.ensures in
    let top = got c.top.result b (record { sfits = c.top.type_inv }) c.top.ensures in
    let there' : c.value-given.result ≡ Some n = grind arith in
    let e : value op k a b ≡ Some n =
    sym (c.value-given.ensures ∙ ap (λ (x : ℤ). value op k x (cast_signed w128 (cast_unsigned w128 c.top.result))) under ∙ ap (value op k a) top) ∙ there' in
    let there : ℤ → RunState = λ z. record s { place = s.place + 1; stack = z ∷ drop 2 s.stack } in
    does (Bin op k) s None c.replace_two.new.self (there n) refl refl
    (λ code closed moment active effects. operator_row code closed moment (machine s active effects) op k s.stack n r.named r.taken e)
    (c.replace_two.ensures ∙ ap there (read_back_held k n (Holds-value op k a b n e)))
