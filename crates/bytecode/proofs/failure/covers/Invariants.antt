-- The functions cover the places where the others cover those from here on.
use Rattle.std.proofs.Common.{◌↔◌, drop}
use Rattle.bytecode.specs.Verified.{Cover}
use Rattle.bytecode.proofs.failure.covers.Given as goal

abbrev pub invariant-loop-function : goal.invariant-loop-function
invariant-loop-function l = Cover 0 l.functions l.places ↔ Cover l.from (drop l.function-index l.functions) l.places
