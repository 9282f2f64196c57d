-- The message of a frame, in the event's cells.
use Rattle.std.proofs.Common.{◌≡◌, ◌+◌, ◌++◌, ℕ, List, length, drop, sym, ap, ◌∙◌, subst, arith}
use Rattle.std.specs.Prelude.{ℤ}
use Rattle.int_kinds.specs.Kind.{Holds}
use Rattle.message_cells.specs.Message.{message_kinds}
use Rattle.bytecode.proofs.ZippedLists.{AllZip-same_length}
use Rattle.stack_vm.specs.Inside.State.{RunState}
use Rattle.stack_vm.specs.Memory.{IsMemoryOf, MemoryState}
use Rattle.stack_vm.proofs.MemoryLemmas.{HoldKinds-event, memory_of}
use Rattle.stack_vm.proofs.memory.Memory.set_frame.Goals as goal

-- the memory once the cells were put in
abbrev with_front : MemoryState → List ℤ → ℕ → MemoryState
with_front memory cells from = record memory { cells = cells ++ drop from memory.cells }

pub returns-clause-sets : goal.returns-clause-sets
returns-clause-sets c =
    let r : List ℤ = c.message.result in
    let n : 0 + length r ≡ 14 = (let m : length r ≡ 14 = AllZip-same_length Holds message_kinds r c.message.ensures.held in omega (arith, m)) in
    ap (λ (z : RunState). memory_of z c.self.inside.cases) c.put.ensures ∙ ap (λ (m : MemoryState). with_front m r (0 + length r)) c.self.view_is
    ∙ ap (with_front c.args.self.now r) n ∙ ap (λ (cells : List ℤ). with_front c.args.self.now cells 14) c.message.ensures.cells

pub returns-clause-stays : goal.returns-clause-stays
returns-clause-stays c = λ code verified is.
    let r : List ℤ = c.message.result in
    let n : 0 + length r ≡ 14 = (let m : length r ≡ 14 = AllZip-same_length Holds message_kinds r c.message.ensures.held in omega (arith, m)) in
    let set = ap (λ (z : RunState). memory_of z c.self.inside.cases) c.put.ensures ∙ ap (λ (m : MemoryState). with_front m r (0 + length r)) c.self.view_is ∙ ap (with_front c.args.self.now r) n in
    subst (IsMemoryOf code) (sym set)
    (record { cells_held = HoldKinds-event code verified c.args.self.now.cells r is.cells_held c.message.ensures.held; room = is.room; indexed = is.indexed })
