-- Two digits of each byte.
use Rattle.std.proofs.Common.{◌≡◌, ◌/◌, ◌%◌, ◌++◌, ap, sym, subst, ◌∙◌, append_assoc}
use Rattle.std.specs.Prelude.{OnOk}
use Rattle.log_line.specs.Written.{byte_text}
use Rattle.log_line.proofs.NumeralLemmas.{eight_digits}
use Rattle.log_line.proofs.numerals.append_eight.Goals as goal

pub returns : goal.returns
returns c =
    let n = c.args.number in
    let before = c.args.line.now.items in
    let b0 = byte_text (n / 16777216) in
    let b1 = byte_text (n / 65536 % 256) in
    let b2 = byte_text (n / 256 % 256) in
    let b3 = byte_text (n % 256) in
    let two = c.in_ok-append_byte-2.ensures ∙ ap (λ l. l ++ b1) c.in_ok-append_byte.ensures ∙ append_assoc before b0 b1 in
    let three = c.in_ok-append_byte-3.ensures ∙ ap (λ l. l ++ b2) two ∙ append_assoc before (b0 ++ b1) b2 in
    subst (λ l. OnOk c.append_byte-4.result (c.append_byte-4.new.line.items ≡ l))
    (ap (λ l. l ++ b3) three ∙ append_assoc before (b0 ++ b1 ++ b2) b3 ∙ ap (λ l. before ++ l) (sym (eight_digits n c.ranges.number.fits)))
    c.append_byte-4.ensures
