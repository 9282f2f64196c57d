-- An element of an array.
use Rattle.std.proofs.Common.{◌≡◌, ◌+◌, ℕ, ◌∷◌, get_or, drop, Ok, None, ap, ◌∙◌, sym, arith, refl}
use Rattle.std.specs.Prelude.{ℤ, pos}
use Rattle.bytecode.specs.declared.instr.Instr.TheVariants.{Elem}
use Rattle.bytecode.specs.Machine.{Stuck}
use Rattle.stack_vm.specs.Inside.Index.{index_of}
use Rattle.stack_vm.specs.Inside.State.{RunState, machine}
use Rattle.stack_vm.proofs.CellRows.{cell_there, element_row, index_is}
use Rattle.stack_vm.proofs.NumberLemmas.{got}
use Rattle.stack_vm.proofs.StepLemmas.{does}
use Rattle.stack_vm.proofs.cells.element.Goals as goal

pub cell-n-requires : goal.cell-n-requires
cell-n-requires c =
    let s : RunState = c.args.state.now in
    let r = c.requires.1 in
    let top = got c.top.result (get_or s.stack 0 (pos 0)) (record { sfits = c.top.type_inv }) c.top.ensures in
    let is : index_of (get_or s.stack 0 (pos 0)) c.args.len ≡ Ok c.in_ok-i.i = ap (λ (z : ℤ). index_of z c.args.len) (sym top) ∙ sym c.in_ok-i.ensures in
    let i = index_is (get_or s.stack 0 (pos 0)) c.args.len c.in_ok-i.i (machine s r.active r.effects) (λ _. Stuck) is in
    cell_there c.requires.0.cells s.cells (c.args.base + c.in_ok-i.i) r.cells_held (omega (arith, i.below, r.named.there))

pub returns : goal.returns
returns c =
    let s : RunState = c.args.state.now in
    let r = c.requires.1 in
    let cell : ℕ = c.args.base + c.in_ok-i.i in
    let top = got c.top.result (get_or s.stack 0 (pos 0)) (record { sfits = c.top.type_inv }) c.top.ensures in
    let is : index_of (get_or s.stack 0 (pos 0)) c.args.len ≡ Ok c.in_ok-i.i = ap (λ (z : ℤ). index_of z c.args.len) (sym top) ∙ sym c.in_ok-i.ensures in
    let i = index_is (get_or s.stack 0 (pos 0)) c.args.len c.in_ok-i.i (machine s r.active r.effects) (λ _. Stuck) is in
    let there' = cell_there c.requires.0.cells s.cells cell r.cells_held (omega (arith, i.below, r.named.there)) in
    let there : ℤ → RunState = λ z. record s { place = s.place + 1; stack = z ∷ drop 1 s.stack } in
    let n = got c.cell-n.result (get_or s.cells cell (pos 0)) (record { sfits = c.cell-n.type_inv }) c.cell-n.ensures in
    does (Elem c.args.base c.args.len) s None c.replace.new.self (there (get_or s.cells cell (pos 0))) refl refl
    (λ code closed moment active effects. element_row code closed moment (machine s active effects) c.args.base c.args.len c.in_ok-i.i s.stack r.taken is there')
    (c.replace.ensures ∙ ap there n)
