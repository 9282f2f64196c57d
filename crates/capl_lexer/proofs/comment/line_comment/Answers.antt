-- The comment ends before the first line end, or with the text.
use Rattle.std.proofs.Common.{◌≡◌, ◌==◌, ◌<◌, ◌≤◌, true, ℕ, length, get_or, ap, arith}
use Rattle.std.proofs.lemmas.Bool.Decides.{nat_tests}
use Rattle.capl_lexer.proofs.CommentFronts.{line_front}
use Rattle.capl_lexer.proofs.comment.line_comment.Goals as goal

is_end : (byte : ℕ) → (byte == 10) ≡ true → byte ≡ 10
is_end byte test = grind (arith, nat_tests)

pub returns-in-Some : goal.returns-in-Some
returns-in-Some c =
    let (inside, is) = c.requires in
    let text = c.args.text.now in
    let end = c.in-Some.end in
    let found = c.in-Some.ensures in
    let high = found.0.high in
    line_front text inside end is (omega arith)
    (λ j below same. found.0.before j (omega arith) below (ap (λ byte. byte == 10) same))
    (λ within. is_end (get_or text end 0) found.1)

pub returns-in-None : goal.returns-in-None
returns-in-None c =
    let (inside, is) = c.requires in
    let text = c.args.text.now in
    line_front text inside (length text) is (omega arith)
    (λ j below same. c.in-None.ensures j (omega arith) below (ap (λ byte. byte == 10) same))
    (λ within. absurd (omega arith))
