-- The room so far, and that of the functions that are left.
use Rattle.std.proofs.Common.{◌≡◌, ◌+◌, drop}
use Rattle.std.specs.List.{sum_by}
use Rattle.stack_vm.specs.Room.{numbers_room, room_of}
use Rattle.stack_vm.proofs.room.numbers_room.Given as goal

abbrev pub invariant-loop-function : goal.invariant-loop-function
invariant-loop-function l = l.room + sum_by (room_of l.code.depths) (drop l.function-index l.code.functions) ≡ numbers_room l.code
