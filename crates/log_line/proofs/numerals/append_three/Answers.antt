-- The first digit, and two of a byte.
use Rattle.std.proofs.Common.{◌≡◌, ◌/◌, ◌%◌, ◌++◌, ◌∷◌, [], ap, sym, subst, ◌∙◌, append_assoc}
use Rattle.std.specs.Prelude.{OnOk, true}
use Rattle.std.specs.Fmt.{digit_glyph}
use Rattle.log_line.specs.Written.{byte_text}
use Rattle.log_line.proofs.NumeralLemmas.{three_digits}
use Rattle.log_line.proofs.numerals.append_three.Goals as goal

pub returns : goal.returns
returns c =
    let number = c.args.number in
    let before = c.args.line.now.items in
    let first = c.in_ok-push.ensures.items ∙ ap (λ d. before ++ d ∷ []) c.glyph.ensures in
    subst (λ l. OnOk c.append_byte.result (c.append_byte.new.line.items ≡ l))
    (ap (λ l. l ++ byte_text (number % 256)) first ∙ append_assoc before (digit_glyph true (number / 256) ∷ []) (byte_text (number % 256))
    ∙ ap (λ l. before ++ l) (sym (three_digits number c.requires)))
    c.append_byte.ensures
