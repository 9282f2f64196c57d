-- What the screening of the tokens says of the file.
use Rattle.std.proofs.Common.{ℕ, List, subst, sym}
use Rattle.texts.specs.declared.blame.Rule.{Rule}
use Rattle.capl_lexer.specs.Screening.{Breaks}
use Rattle.capl_lexer.specs.declared.token.Token.{Token}
use Rattle.capl_include.specs.Blame.{place_blame}
use Rattle.source_compiler.specs.Source.{IsScreened, IsTokenBlame}
use Rattle.source_compiler.proofs.FileLemmas.{token_blame}
use Rattle.input_refusals.proofs.Passing.{blamed}
use Rattle.source_compiler.proofs.program.screen_file.Goals as goal

pub returns-in-Some : goal.returns-in-Some
returns-in-Some c =
    let file = c.args.file.now in
    let tokens = c.as_slice-tokens.result.now in
    let name = c.bytes.result.now in
    let place = c.in-Some.place in
    let rule = c.in-Some.rule in
    let d = c.index-tokens-place.result in
    blamed {A = Unit {0}} (λ done. IsScreened file) (λ blame. IsTokenBlame blame file) (place_blame name d.line d.column rule) c.blamed_place.result
    (subst (λ (t : Token). IsTokenBlame (place_blame name t.line t.column rule) file) (sym c.index-tokens-place.is)
    (token_blame file tokens name place rule d c.as_slice-tokens.ensures c.bytes.ensures c.in-Some.ensures.breaks c.in-Some.ensures.first)) c.blamed_place.ensures

pub returns-in-None : goal.returns-in-None
returns-in-None c =
    subst (λ (t : List Token). (place : ℕ) (rule : Rule) → Breaks t place rule → ⊥) c.as_slice-tokens.ensures c.in-None.ensures.none
