-- What begins with `\x` is an escape by its digits.
use Rattle.std.proofs.Common.{◌≡◌, ◌∷◌, MatchOption, subst}
use Rattle.capl_lexer.specs.Inside.Item.{IsEscapeFront, HasNoEscape}
use Rattle.capl_lexer.proofs.quoted.escape.Goals as goal

pub returns-then-letter-eq120 : goal.returns-then-letter-eq120
returns-then-letter-eq120 c =
    let letter = c.in_ok-letter.letter.now in
    let rest = c.in_ok-letter.rest.now in
    let split : c.args.text.now ≡ letter ∷ rest = cc (c.in_ok-letter.ensures.cases.0) in
    let whole : 120 ∷ rest ≡ c.args.text.now = cc (c.if-letter-eq120.true) in
    subst (λ t. MatchOption c.hexadecimal_escape.result (HasNoEscape (92 ∷ t)) (IsEscapeFront (92 ∷ t))) whole c.hexadecimal_escape.ensures
