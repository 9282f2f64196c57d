-- The line up to the first line feed, or the whole text.
use Rattle.std.proofs.Common.{rules, ◌≡◌, ◌==◌, false, length, ◌+◌, ◌∷◌, suc, ℕ, take, drop, subst, arith}
use Rattle.std.proofs.lemmas.Bool.Decides.{nat_tests}
use Rattle.std.proofs.lemmas.List.{take_rest}
use Rattle.text_parts.specs.Line.{text_lines}
use Rattle.text_parts.proofs.LineLemmas.{not_true, lines_of-at, lines_of-one}
use Rattle.text_parts.proofs.line.first_line.Goals as goal

pub returns-in-Some-clause-lines : goal.returns-in-Some-clause-lines
returns-in-Some-clause-lines c =
    let found = c.in-Some.ensures in
    let text = c.args.text.now in
    let end = c.in-Some.end in
    let cut = lines_of-at text end found.0.high (λ j below. not_true _ (found.0.before j (omega arith) below)) found.1 in
    let one : suc end ≡ end + 1 = omega arith in
    rw (take_rest text (end + 1)) (subst (λ (n : ℕ). text_lines text ≡ take end text ∷ text_lines (drop n text)) one cut)

pub returns-in-None-clause-lines : goal.returns-in-None-clause-lines
returns-in-None-clause-lines c =
    lines_of-one c.args.text.now (let some : (length c.args.text.now == 0) ≡ false = search (rules, c.is_empty.ensures, c.if-is_empty.false) in grind (arith, nat_tests)) (λ j below. not_true _ (c.in-None.ensures j (omega arith) below))
