-- One digit or two are an escape.
use Rattle.std.proofs.Common.{◌≡◌, ◌+◌, ◌*◌, ℕ, List, ◌∷◌, length, drop, refl, ap, ◌∙◌, sym, subst, arith}
use Rattle.std.proofs.lemmas.Bool.{iff_false}
use Rattle.text_parts.specs.Number.{digit_value}
use Rattle.capl_lexer.specs.Spelling.{IsEscape}
use Rattle.capl_lexer.proofs.ItemLemmas.{escape_one, escape_two}
use Rattle.capl_lexer.proofs.ItemFronts.{no_digit_front}
use Rattle.capl_lexer.proofs.quoted.hexadecimal_escape.Goals as goal

pub returns-in-Some : goal.returns-in-Some
returns-in-Some c =
    let text = c.args.text.now in
    let first = c.in_ok-first.first.now in
    let rest = c.in_ok-first.rest.now in
    let second = c.in-Some.second.now in
    let others = c.in-Some.field-0-1.now in
    let split : text ≡ first ∷ rest = cc (c.in_ok-first.ensures.cases.0) in
    let more : rest ≡ second ∷ others = cc (c.in-Some.ensures.cases.0) in
    let whole : text ≡ first ∷ second ∷ others = split ∙ ap (λ b. first ∷ b) more in
    let is = escape_two text others first second whole (c.contains.ensures.0 c.if-not-contains.false) (c.if-contains.ensures.0 refl) in
    let values : digit_value first * 16 + digit_value second ≡ c.digit_value-high.result * 16 + c.digit_value.result =
    omega (arith, c.digit_value-high.ensures.value, c.digit_value.ensures.value) in
    record {
      within = omega (arith, ap length whole);
      is = subst (IsEscape (c.digit_value-high.result * 16 + c.digit_value.result) (92 ∷ 120 ∷ text)) (sym (ap (drop 2) whole))
          (subst (λ v. IsEscape v (92 ∷ 120 ∷ text) others) values is);
    }

pub returns-in_default : goal.returns-in_default
returns-in_default c =
    let text = c.args.text.now in
    let first = c.in_ok-first.first.now in
    let rest = c.in_ok-first.rest.now in
    let second = c.in-Some.second.now in
    let others = c.in-Some.field-0-1.now in
    let split : text ≡ first ∷ rest = cc (c.in_ok-first.ensures.cases.0) in
    let more : rest ≡ second ∷ others = cc (c.in-Some.ensures.cases.0) in
    let is = escape_one text rest first split (c.contains.ensures.0 c.if-not-contains.false)
    (no_digit_front rest second others more (iff_false c.if-contains.ensures refl)) in
    record {
      within = omega (arith, ap length split);
      is = subst (IsEscape c.digit_value-high.result (92 ∷ 120 ∷ text)) (sym (ap (drop 1) split))
          (subst (λ v. IsEscape v (92 ∷ 120 ∷ text) rest) (sym c.digit_value-high.ensures.value) is);
    }
