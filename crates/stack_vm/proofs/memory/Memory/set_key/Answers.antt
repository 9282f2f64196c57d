-- A key, in its cell.
use Rattle.std.proofs.Common.{◌≡◌, sym, ap, ◌∙◌, subst}
use Rattle.std.specs.Prelude.{ℤ, pos, slice_set}
use Rattle.std.specs.Int.{cast_signed, cast_unsigned, w128}
use Rattle.stack_vm.specs.Inside.State.{RunState}
use Rattle.stack_vm.specs.Memory.{IsMemoryOf, MemoryState}
use Rattle.stack_vm.proofs.MemoryLemmas.{HoldKinds-key, memory_of}
use Rattle.stack_vm.proofs.NumberLemmas.{read_back_byte}
use Rattle.stack_vm.proofs.memory.Memory.set_key.Goals as goal

pub returns-clause-stays : goal.returns-clause-stays
returns-clause-stays c = λ code verified is.
    let from : MemoryState → ℤ → MemoryState = λ memory n. record memory { cells = slice_set memory.cells 14 n } in
    let set : memory_of c.set_cell.new.self c.self.inside.cases ≡ from c.args.self.now (pos c.args.key) =
    ap (λ (z : RunState). memory_of z c.self.inside.cases) c.set_cell.ensures ∙ ap (λ (m : MemoryState). from m (cast_signed w128 (cast_unsigned w128 c.from.result))) c.self.view_is
    ∙ ap (from c.args.self.now) (ap (λ (z : ℤ). cast_signed w128 (cast_unsigned w128 z)) c.from.ensures ∙ read_back_byte c.args.key c.ranges.key.fits) in
    subst (IsMemoryOf code) (sym set) (record { cells_held = HoldKinds-key code verified c.args.self.now.cells c.args.key c.ranges.key.fits is.cells_held; room = is.room; indexed = is.indexed })
