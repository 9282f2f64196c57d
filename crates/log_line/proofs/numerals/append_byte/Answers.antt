-- The two digits.
use Rattle.std.proofs.Common.{◌/◌, ◌%◌, ◌++◌, ◌∷◌, [], ap, sym, ◌∙◌, append_assoc}
use Rattle.std.specs.Fmt.{digit_glyph}
use Rattle.std.specs.Prelude.{true}
use Rattle.log_line.proofs.NumeralLemmas.{byte_digits}
use Rattle.log_line.proofs.numerals.append_byte.Goals as goal

pub returns : goal.returns
returns c =
    let byte = c.args.byte in
    let before = c.args.line.now.items in
    let first = c.in_ok-push.ensures.items ∙ ap (λ d. before ++ d ∷ []) c.glyph.ensures in
    c.in_ok-push-2.ensures.items ∙ ap (λ d. c.push.new.self.items ++ d ∷ []) c.glyph-2.ensures ∙ ap (λ l. l ++ digit_glyph true (byte % 16) ∷ []) first
    ∙ append_assoc before (digit_glyph true (byte / 16) ∷ []) (digit_glyph true (byte % 16) ∷ [])
    ∙ ap (λ l. before ++ l) (sym (byte_digits byte c.ranges.byte.fits))
