-- The greatest depth so far, and those that are left.
use Rattle.std.proofs.Common.{◌≡◌, drop, max}
use Rattle.stack_vm.specs.Room.{greatest}
use Rattle.stack_vm.proofs.room.greatest.Given as goal

abbrev pub invariant-loop-depth : goal.invariant-loop-depth
invariant-loop-depth l = max l.most (greatest (drop l.depth-index l.depths)) ≡ greatest l.depths
