-- The comment ends with the first `*/`.
use Rattle.std.proofs.Common.{◌≡◌, ◌+◌, ◌-◌, ℕ, List, length, take, drop, ap, ◌∙◌, subst, arith}
use Rattle.std.proofs.lemmas.List.{take_rest}
use Rattle.memchr.specs.Find.{OccursAt, Nowhere, NoneBefore}
use Rattle.capl_lexer.specs.Reading.{block_closing}
use Rattle.capl_lexer.proofs.CommentFronts.{block_front, block_none}
use Rattle.capl_lexer.proofs.StepLemmas.{none_block}
use Rattle.capl_lexer.proofs.comment.block_comment.Goals as goal

pub returns-in_err-closing : goal.returns-in_err-closing
returns-in_err-closing c =
    let (inside, is) = c.requires in
    let text = c.args.text.now in
    let same : take (length text - 2) (drop 2 text) ≡ inside = take_rest text 2 ∙ ap (drop 2) is in
    let none = subst (λ hay. Nowhere (OccursAt hay block_closing) 0 (length hay + 1)) same c.in_err-closing.ensures in
    rw c.from_residual.ensures
    (none_block text inside is (block_none text inside is (λ k below occurs. none k (omega arith) below occurs)))

pub returns : goal.returns
returns c =
    let (inside, is) = c.requires in
    let text = c.args.text.now in
    let place = c.in_ok-closing.closing in
    let same : take (length text - 2) (drop 2 text) ≡ inside = take_rest text 2 ∙ ap (drop 2) is in
    let first = subst (λ hay. NoneBefore (OccursAt hay block_closing) 0 (length hay + 1) place) same c.in_ok-closing.ensures.0 in
    let occurs = subst (λ hay. OccursAt hay block_closing place) same c.in_ok-closing.ensures.1 in
    block_front text inside place is occurs (λ k below. first.before k (omega arith) below)
