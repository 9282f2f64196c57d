-- The copies are those of the arguments that were passed.
use Rattle.std.proofs.Common.{◌≡◌, take}
use Rattle.write_format.proofs.format.copy_args.Given as goal

abbrev pub invariant-loop-arg : goal.invariant-loop-arg
invariant-loop-arg l = l.copies.items ≡ take l.arg-index l.args
