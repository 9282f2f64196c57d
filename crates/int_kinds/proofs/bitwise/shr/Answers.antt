-- A number of the kind shifted right is the quotient rounded down.
use Rattle.std.proofs.Common.{arith}
use Rattle.std.proofs.lemmas.Int.{to_z-of_z}
use Rattle.int_kinds.proofs.Operations.{wrap-shr}
use Rattle.int_kinds.proofs.bitwise.shr.Goals as goal

pub returns : goal.returns
returns c = grind (arith, to_z-of_z, wrap-shr)
