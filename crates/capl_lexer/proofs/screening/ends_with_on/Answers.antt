-- The last token is `on`.
use Rattle.std.proofs.Common.{◌≡◌, ◌++◌, ◌∷◌, [], sym, subst, ◌∙◌}
use Rattle.capl_lexer.specs.Screening.{kinds_of, EndsWith}
use Rattle.capl_lexer.specs.declared.token.Word.TheVariants as word
use Rattle.capl_lexer.specs.declared.token.Tok.TheVariants as tok
use Rattle.capl_lexer.proofs.ScreeningLemmas.{kinds-push, ends_with_one, on_is}
use Rattle.capl_lexer.proofs.screening.ends_with_on.Goals as goal

pub returns-in-Some : goal.returns-in-Some
returns-in-Some c =
    let tokens = c.args.tokens.now in
    let last = c.in-Some.last.now in
    let rest = c.in-Some.field-0-1.now in
    let split : tokens ≡ rest ++ last ∷ [] = cc (c.in-Some.ensures.cases.0) in
    let kinds = kinds-push tokens rest last split in
    let one = ends_with_one (kinds_of rest) last.tok (tok.Word word.On) in (
      λ yes. subst (λ k. EndsWith k (tok.Word word.On ∷ [])) (sym kinds) (one.1 ((on_is last.tok).0 (sym c.is_on.ensures ∙ yes))),
      λ ends. c.is_on.ensures ∙ (on_is last.tok).1 (one.0 (subst (λ k. EndsWith k (tok.Word word.On ∷ [])) kinds ends)),
    )
