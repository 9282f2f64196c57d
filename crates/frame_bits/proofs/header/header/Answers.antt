-- The header of each format as one field.
use Rattle.std.proofs.Common.{◌≡◌, ◌+◌, ◌*◌, ◌/◌, ◌%◌, ◌^◌, ◌≤◌, ◌∙◌, ap, sym, subst, arith}
use Rattle.std.proofs.lemmas.Nat.{and_mask}
use mir.Val.{bool_byte}
use Rattle.can_frame.specs.Frame.{IsIdent}
use Rattle.frame_bits.specs.Length.{header_bits}
use Rattle.frame_bits.proofs.FieldSteps.{number_field, header_std, header_ext}
use Rattle.frame_bits.proofs.header.header.Goals as goal

pub returns-in-Std : goal.returns-in-Std
returns-in-Std c =
    let f = c.args.f.now in
    let n = c.in-Std.number in
    let narrow : n ≤ 0x7FF = subst IsIdent (sym c.in-Std.ensures.value) c.ident.ensures.valid.ident_in_range in
    let rtr : c.from.result ≡ bool_byte f.remote = c.from.ensures ∙ ap bool_byte c.rtr.ensures.value in
    let dlc : c.from-2.result ≡ f.dlc = c.from-2.ensures ∙ c.dlc.ensures.value in
    let number : c.new.result.number ≡ n * 128 + (c.from.result * 64 + f.dlc) = omega (arith, c.new.ensures.number, c.from-in-Std.ensures, dlc) in
    number_field _ _ 19 _ c.new.ensures.width number
    ∙ header_std n c.from.result f.dlc f.remote narrow rtr c.dlc.ensures.valid.dlc_in_range
    ∙ ap (λ i. header_bits i f.remote f.dlc) c.in-Std.ensures.value

pub returns-in-Ext : goal.returns-in-Ext
returns-in-Ext c =
    let f = c.args.f.now in
    let n = c.in-Ext.number in
    let further = c.from-further.result in
    let narrow : n ≤ 0x1FFFFFFF = subst IsIdent (sym c.in-Ext.ensures.value) c.ident.ensures.valid.ident_in_range in
    let rtr : c.from.result ≡ bool_byte f.remote = c.from.ensures ∙ ap bool_byte c.rtr.ensures.value in
    let dlc : c.from-2.result ≡ f.dlc = c.from-2.ensures ∙ c.dlc.ensures.value in
    let low : further ≡ n % 2 ^ 18 = c.from-further.ensures ∙ and_mask n 18 in
    let number : c.new-in-Ext.result.number ≡ ((n / 2 ^ 18 * 4 + 3) * 262144 + further) * 128 + (c.from.result * 64 + f.dlc) = omega (arith, c.new-in-Ext.ensures.number, c.from-in-Ext.ensures, dlc) in
    number_field _ _ 39 _ c.new-in-Ext.ensures.width number
    ∙ header_ext n further c.from.result f.dlc f.remote narrow low rtr c.dlc.ensures.valid.dlc_in_range
    ∙ ap (λ i. header_bits i f.remote f.dlc) c.in-Ext.ensures.value
