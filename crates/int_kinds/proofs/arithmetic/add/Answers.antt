-- A sum of two numbers fits a word, and wraps to the sum of the wrapped ones.
use Rattle.std.proofs.Common.{arith, ◌∙◌}
use Rattle.std.specs.Prelude.{FitsSigned, ◌+ℤ◌}
use Rattle.std.specs.Int.{w128}
use Rattle.std.proofs.lemmas.Int.{ints, to_z-of_z}
use Rattle.int_kinds.proofs.Operations.{read_back, wrap-add}
use Rattle.int_kinds.proofs.arithmetic.add.Goals as goal

pub returns : goal.returns
returns c =
    let left : FitsSigned w128 c.args.a = c.ranges.a in
    let right : FitsSigned w128 c.args.b = c.ranges.b in
    let outcome : FitsSigned w128 (c.args.a +ℤ c.args.b) = omega (arith, ints) in
    let wrapped = simp to_z-of_z at c.wrap_any.ensures in
    read_back _ _ (record { sfits = c.wrap_any.type_inv }) (wrapped ∙ wrap-add c.args.k c.args.a c.args.b)
