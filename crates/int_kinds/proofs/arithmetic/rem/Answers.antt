-- The remainder of wrapped numbers.
use Rattle.std.proofs.Common.{arith, sym, ◌∙◌}
use Rattle.std.specs.Prelude.{FitsSigned}
use Rattle.std.specs.Int.{w128}
use Rattle.std.proofs.lemmas.Int.{to_z-of_z}
use Rattle.int_kinds.proofs.Operations.{read_back, quotient_fits, remainder_fits, option_map-remainder}
use Rattle.int_kinds.proofs.arithmetic.rem.Goals as goal

pub nonzero_rem-dividend : goal.nonzero_rem-dividend
nonzero_rem-dividend c =
    let dividend : FitsSigned w128 c.wrap_any-dividend.result = record { sfits = c.wrap_any-dividend.type_inv } in
    let divisor : FitsSigned w128 c.wrap_any-divisor.result = record { sfits = c.wrap_any-divisor.type_inv } in
    (omega arith, simp to_z-of_z (quotient_fits c.args.k _ c.wrap_any-dividend.result c.wrap_any-divisor.result c.wrap_any-dividend.ensures))

pub returns : goal.returns
returns c =
    let left : FitsSigned w128 c.args.a = c.ranges.a in
    let right : FitsSigned w128 c.args.b = c.ranges.b in
    let dividend : FitsSigned w128 c.wrap_any-dividend.result = record { sfits = c.wrap_any-dividend.type_inv } in
    let divisor : FitsSigned w128 c.wrap_any-divisor.result = record { sfits = c.wrap_any-divisor.type_inv } in
    let outcome = remainder_fits c.wrap_any-dividend.result c.wrap_any-divisor.result dividend in
    let first = simp to_z-of_z at c.wrap_any-dividend.ensures in
    let second = simp to_z-of_z at c.wrap_any-divisor.ensures in
    let wrapped = simp to_z-of_z at c.wrap_any.ensures in
    read_back _ _ (record { sfits = c.wrap_any.type_inv }) wrapped ∙ sym (option_map-remainder c.args.k c.args.a c.args.b _ _ first second c.if-divisor-eq0.false)
