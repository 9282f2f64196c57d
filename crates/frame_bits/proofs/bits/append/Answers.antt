-- One more bit of a field.
use Rattle.std.proofs.Common.{◌-◌, ◌/◌, ◌^◌, ◌∙◌, ◌++◌, ◌∷◌, [], Bool, eqb, bit_and, ap, arith}
use Rattle.frame_bits.proofs.FieldSteps.{field_starts, field_grows}
use Rattle.frame_bits.proofs.bits.append.Goals as goal

pub loop-place-init : goal.loop-place-init
loop-place-init c = field_starts c.args.bits.now.items c.args.field.width _

pub loop-place-preserved : goal.loop-place-preserved
loop-place-preserved c =
    let field = c.args.field in
    let place = c.loop-place.place in
    let bit : Bool = eqb (bit_and (field.number / 2 ^ (place - 1)) 1) 1 in
    c.in_ok-push.ensures.items
    ∙ ap (λ l. l ++ bit ∷ []) c.loop-place.invariant
    ∙ field_grows c.args.bits.now.items field.width place field.number (omega arith) (omega arith)
