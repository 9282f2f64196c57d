-- A comment up to its line's end, or one up to its closing.
use Rattle.std.proofs.Common.{sym, subst}
use Rattle.capl_lexer.specs.Inside.Step.{IsLineCommentFront, IsBlockCommentFront}
use Rattle.capl_lexer.proofs.StepLemmas.{step_line, step_block}
use Rattle.capl_lexer.proofs.step.next_step.Goals as goal

pub returns-in-47 : goal.returns-in-47
returns-in-47 c =
    let text = c.args.text.now in
    step_line text c.passed.result (subst (IsLineCommentFront text) (sym c.passed.ensures.length) c.line_comment.ensures) c.passed.ensures.tok

pub returns-in-Some : goal.returns-in-Some
returns-in-Some c =
    let text = c.args.text.now in
    step_block text c.passed-in-Some.result (subst (IsBlockCommentFront text) (sym c.passed-in-Some.ensures.length) c.in-Some.ensures) c.passed-in-Some.ensures.tok
