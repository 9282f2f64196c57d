-- The initial values that are left are still to be put in.
use Rattle.std.proofs.Common.{◌≡◌, drop, length, replicate}
use Rattle.std.specs.Prelude.{pos}
use Rattle.bytecode.specs.Runs.{HoldKinds}
use Rattle.stack_vm.specs.Memory.{with_starts}
use Rattle.stack_vm.specs.Room.{calls_room, numbers_room}
use Rattle.stack_vm.proofs.memory.Memory.make.Given as goal

abbrev pub invariant-loop-start : goal.invariant-loop-start
invariant-loop-start l = record {
  starts : with_starts l.state.cells (drop l.start-index l.code.starts) ≡ with_starts (replicate (length l.code.cells) (pos 0)) l.code.starts;
  held : HoldKinds l.code.cells l.state.cells;
  numbers : l.state.numbers_room ≡ numbers_room l.code;
  calls : l.state.calls_room ≡ calls_room l.code;
}
