-- The operators on bits.
use Rattle.std.proofs.Common.{ap, ◌∙◌, Some}
use Rattle.std.specs.Int.{w128}
use Rattle.std.proofs.lemmas.Int.{to_z-of_z}
use Rattle.int_kinds.proofs.operation.value.Goals as goal

pub returns-in-And : goal.returns-in-And
returns-in-And c = let e = simp (to_z-of_z, c.ranges.a, c.ranges.b) at c.and.ensures in rw c.in-And.is (ap Some (to_z-of_z w128 c.and.result (record { sfits = c.and.type_inv })) ∙ e)

pub returns-in-Or : goal.returns-in-Or
returns-in-Or c = let e = simp (to_z-of_z, c.ranges.a, c.ranges.b) at c.or.ensures in rw c.in-Or.is (ap Some (to_z-of_z w128 c.or.result (record { sfits = c.or.type_inv })) ∙ e)

pub returns-in-Xor : goal.returns-in-Xor
returns-in-Xor c = let e = simp (to_z-of_z, c.ranges.a, c.ranges.b) at c.xor.ensures in rw c.in-Xor.is (ap Some (to_z-of_z w128 c.xor.result (record { sfits = c.xor.type_inv })) ∙ e)
