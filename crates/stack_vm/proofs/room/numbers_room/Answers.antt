-- The room of each function, and that all together need no more than there are instructions.
use Rattle.std.proofs.Common.{◌≡◌, ◌≤◌, ◌<◌, ◌+◌, ℕ, ap, sym, ◌∙◌, length, get_or, arith, subst, List, false}
use Rattle.bytecode.specs.declared.code.Fun.{Fun}
use Rattle.stack_vm.specs.Room.{room_of}
use Rattle.stack_vm.proofs.RoomLemmas.{Lies, lies_at, room_so_far}
use Rattle.stack_vm.proofs.room.numbers_room.Goals as goal

pub room_of-requires : goal.room_of-requires
room_of-requires c =
    let i = c.loop-function.function-index in
    let e = c.as_slice-function-items.ensures in
    let h : i < length c.args.code.now.functions = omega (arith, c.loop-function-test.true, ap length e) in
    let none : Fun = record { start = 0; end = 0; gives = false } in
    let lies : Lies c.args.code.now (get_or c.as_slice-function-items.result.now i none) =
    subst (λ (fs : List Fun). Lies c.args.code.now (get_or fs i none)) (sym e) (lies_at c.args.code.now c.requires.verified i none h) in
    record { order = lies.order; inside = omega (arith, lies.inside, ap length c.as_slice.ensures) }

pub overflow_add-room : goal.overflow_add-room
overflow_add-room c =
    let code = c.args.code.now in
    let i = c.loop-function.function-index in
    let e = c.as_slice-function-items.ensures in
    let h : i < length code.functions = omega (arith, c.loop-function-test.true, ap length e) in
    let none : Fun = record { start = 0; end = 0; gives = false } in
    let fits : c.loop-function.room + room_of code.depths (get_or c.as_slice-function-items.result.now i none) ≤ length code.instrs =
    subst (λ (fs : List Fun). c.loop-function.room + room_of code.depths (get_or fs i none) ≤ length code.instrs) (sym e)
    (room_so_far code c.requires.verified i none h c.loop-function.room c.loop-function.invariant) in
    let same : c.room_of.result ≡ room_of code.depths (get_or c.as_slice-function-items.result.now i none) =
    c.room_of.ensures ∙ ap (λ (depths : List ℕ). room_of depths (get_or c.as_slice-function-items.result.now i none)) c.as_slice.ensures in
    omega (arith, fits, same, c.requires.short)
