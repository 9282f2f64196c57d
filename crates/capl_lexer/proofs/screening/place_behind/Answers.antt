-- The last token tells how the tokens end.
use Rattle.std.proofs.Common.{◌≡◌, ◌++◌, ◌∷◌, [], sym, subst}
use Rattle.capl_lexer.specs.Screening.{kinds_of}
use Rattle.capl_lexer.specs.Inside.Screening.{IsBehind}
use Rattle.capl_lexer.proofs.ScreeningLemmas.{kinds-push, behind_last}
use Rattle.capl_lexer.proofs.screening.place_behind.Goals as goal

pub returns-in-Some : goal.returns-in-Some
returns-in-Some c =
    let before = c.args.before.now in
    let last = c.in-Some.last.now in
    let rest = c.in-Some.rest.now in
    let split : before ≡ rest ++ last ∷ [] = cc (c.in-Some.ensures.cases.0) in
    subst (λ k. IsBehind k c.behind_token.result) (sym (kinds-push before rest last split))
    (subst (IsBehind (kinds_of rest ++ last.tok ∷ [])) (sym c.behind_token.ensures)
    (behind_last (kinds_of rest) last.tok c.ends_with_on.result c.ends_with_on.ensures))
