-- The number in a cell.
use Rattle.std.proofs.Common.{◌+◌, ◌∷◌, get_or, None, ap, ◌∙◌, refl}
use Rattle.std.specs.Prelude.{ℤ, pos}
use Rattle.bytecode.specs.declared.instr.Instr.TheVariants.{Load}
use Rattle.stack_vm.specs.Inside.State.{machine, RunState}
use Rattle.stack_vm.proofs.CellRows.{cell_there, load_row}
use Rattle.stack_vm.proofs.NumberLemmas.{got}
use Rattle.stack_vm.proofs.StepLemmas.{does, room_to_give}
use Rattle.stack_vm.proofs.cells.load.Goals as goal

pub cell-n-requires : goal.cell-n-requires
cell-n-requires c = cell_there c.requires.0.cells c.args.state.now.cells c.args.cell c.requires.1.cells_held c.requires.1.named

pub give-requires-clause-room : goal.give-requires-clause-room
give-requires-clause-room c =
    let s : RunState = c.args.state.now in
    let r = c.requires.1 in
    let there = cell_there c.requires.0.cells s.cells c.args.cell r.cells_held r.named in
    room_to_give c.requires.0 (Load c.args.cell) s r (get_or s.cells c.args.cell (pos 0) ∷ s.stack)
    (load_row c.requires.0 r.closed r.moment (machine s r.active r.effects) c.args.cell s.stack there)

pub returns : goal.returns
returns c =
    let s : RunState = c.args.state.now in
    let there' = cell_there c.requires.0.cells s.cells c.args.cell c.requires.1.cells_held c.requires.1.named in
    let there : ℤ → RunState = λ z. record s { place = s.place + 1; stack = z ∷ s.stack } in
    let n = got c.cell-n.result (get_or s.cells c.args.cell (pos 0)) (record { sfits = c.cell-n.type_inv }) c.cell-n.ensures in
    does (Load c.args.cell) s None c.give.new.self (there (get_or s.cells c.args.cell (pos 0))) refl refl
    (λ code closed moment active effects. load_row code closed moment (machine s active effects) c.args.cell s.stack there')
    (c.give.ensures ∙ ap there n)
