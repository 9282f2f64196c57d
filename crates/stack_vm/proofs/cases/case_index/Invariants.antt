-- The index so far is one of the code, up to the place.
use Rattle.std.proofs.Common.{◌≡◌, length}
use Rattle.stack_vm.specs.Cases.{IsIndexOf}
use Rattle.stack_vm.proofs.cases.case_index.Given as goal

abbrev pub invariant-loop-place : goal.invariant-loop-place
invariant-loop-place l = record {
  is : IsIndexOf l.code l.index.items;
  place : length l.index.items ≡ l.place;
}
