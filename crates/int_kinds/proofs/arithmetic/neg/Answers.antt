-- The negative of a number fits a word, and wraps to that of the wrapped one.
use Rattle.std.proofs.Common.{arith, ap, ◌∙◌}
use Rattle.std.specs.Prelude.{FitsSigned, pos, ◌-ℤ◌, neg_ℤ}
use Rattle.std.specs.Int.{w128}
use Rattle.std.proofs.lemmas.Int.{ints, to_z-of_z}
use lib.IntN.{+ℤ_idl}
use Rattle.int_kinds.specs.Kind.{wrap}
use Rattle.int_kinds.proofs.Operations.{wrap-neg}
use Rattle.int_kinds.proofs.arithmetic.neg.Goals as goal

pub returns : goal.returns
returns c =
    let left : FitsSigned w128 c.args.a = c.ranges.a in
    let outcome : FitsSigned w128 (pos 0 -ℤ c.args.a) = omega (arith, ints) in
    let wrapped = simp to_z-of_z at c.wrap_any.ensures in
    to_z-of_z w128 _ (record { sfits = c.wrap_any.type_inv }) ∙ wrapped ∙ ap (wrap c.args.k) (+ℤ_idl (neg_ℤ c.args.a)) ∙ wrap-neg c.args.k c.args.a
