-- The token is the piece where neither a blank nor a comment is.
use Rattle.std.proofs.Common.{MatchOption, Option, subst}
use Rattle.capl_lexer.specs.Inside.Front.{IsTokenFront, HasNoToken}
use Rattle.capl_lexer.specs.declared.front.Front.{Front}
use Rattle.capl_lexer.proofs.StepLemmas.{none_token, step_token}
use Rattle.capl_lexer.proofs.step.token_step.Goals as goal

pub returns-in_default : goal.returns-in_default
returns-in_default c =
    let text = c.args.text.now in
    none_token text c.requires (subst (λ (found : Option Front). MatchOption found (HasNoToken text) (IsTokenFront text)) c.in_default.is c.in_ok-front.ensures)

pub returns : goal.returns
returns c =
    let text = c.args.text.now in
    step_token text c.in-Some.front c.requires (subst (λ (found : Option Front). MatchOption found (HasNoToken text) (IsTokenFront text)) c.in-Some.is c.in_ok-front.ensures)
