-- The Cases so far are those of the places so far.
use Rattle.std.proofs.Common.{◌≡◌, ◌+◌, length}
use Rattle.stack_vm.specs.Cases.{AreCasesFrom}
use Rattle.stack_vm.proofs.cases.cases_from.Given as goal

abbrev pub invariant-loop-place : goal.invariant-loop-place
invariant-loop-place l = record {
  are : AreCasesFrom l.code l.start l.cases.items;
  place : l.place ≡ l.start + length l.cases.items;
}
