-- The bytes that were taken so far.
use Rattle.std.proofs.Common.{◌≡◌, length, map, take}
use Rattle.int_kinds.specs.declared.kinds.Kind.TheVariants.{Byte}
use Rattle.int_kinds.specs.Arithmetic.{residue}
use Rattle.stack_vm.proofs.messages.payload.Given as goal

abbrev pub invariant-loop-i : goal.invariant-loop-i
invariant-loop-i l = record { same : take l.i l.payload ≡ map (residue Byte) (take l.i l.cell-items); all : length l.payload ≡ 8 }
