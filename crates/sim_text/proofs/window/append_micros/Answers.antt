-- The digits over the last of six zeros.
use Rattle.std.proofs.Common.{◌≡◌, ◌≤◌, ℕ, List, ◌++◌, length, take, drop, sym, ap, ◌∙◌, arith, append-nil, append_assoc, take-append-drop}
use Rattle.std.specs.Prelude.{◌<◌, codes, decimal}
use Rattle.std.proofs.lemmas.Fmt.{length-decimal-le}
use Rattle.text_parts.specs.Number.{zero_filled}
use Rattle.sim_text.proofs.ShownLemmas.{over_zeros}
use Rattle.sim_text.proofs.window.append_micros.Goals as goal

-- numbers below a million have at most six digits
six_digits : (n : ℕ) → n < 1000000 → length (decimal n) ≤ 6
six_digits n low = length-decimal-le 6 n (omega arith) (omega (arith, low)) (omega (arith, low))

pub write_digits-requires : goal.write_digits-requires
write_digits-requires c = (let short = six_digits c.args.micros c.requires in omega (arith, short), omega arith)

pub returns : goal.returns
returns c =
    let line = c.args.line.now.items in
    let numeral = decimal c.args.micros in
    let place = c.write_digits.result in
    let digits = c.write_digits.new.buf in
    let zeros : List ℕ = codes ".000000" in
    let written : drop place digits ≡ numeral = c.write_digits.ensures.written ∙ append-nil numeral in
    let whole : digits ≡ codes "." ++ zero_filled 6 numeral =
    sym (take-append-drop place digits) ∙ ap (λ l. l ++ drop place digits) c.write_digits.ensures.before ∙ ap (λ l. take place zeros ++ l) written
    ∙ over_zeros place numeral c.write_digits.ensures.start (six_digits c.args.micros c.requires) in
    c.in_ok-extend_from_slice.ensures.items ∙ ap (λ l. line ++ l) whole ∙ sym (append_assoc line (codes ".") (zero_filled 6 numeral))
