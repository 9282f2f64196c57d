-- The sign ends where no longer sign goes on with the next byte.
use Rattle.std.proofs.Common.{◌≡◌, ◌<◌, ◌+◌, suc, ℕ, ◌∷◌, ◌++◌, [], take, get_or, length, sym, ap, ◌∙◌, subst, arith}
use Rattle.capl_lexer.specs.Spelling.{sign_spelling}
use Rattle.capl_lexer.specs.Inside.Front.{IsTokenFront}
use Rattle.capl_lexer.specs.declared.token.Sign.{Sign}
use Rattle.capl_lexer.proofs.SignFronts.{sign_none, sign_front}
use Rattle.capl_lexer.proofs.signs.sign.Goals as goal

pub returns-in_err-sign : goal.returns-in_err-sign
returns-in_err-sign c =
    let first = c.in_ok-first.first.now in
    let rest = c.in_ok-first.rest.now in
    let split : c.args.text.now ≡ first ∷ rest = cc (c.in_ok-first.ensures.cases.0) in
    rw c.from_residual-in_err-sign.ensures (sign_none c.args.text.now first rest split c.requires c.in_err-sign.ensures)

pub returns-in_default : goal.returns-in_default
returns-in_default c =
    let text = c.args.text.now in
    let first = c.in_ok-first.first.now in
    let rest = c.in_ok-first.rest.now in
    let place = c.loop-place.place in
    let some = c.loop-place.sign in
    let split : text ≡ first ∷ rest = cc (c.in_ok-first.ensures.cases.0) in
    let one : 1 + place ≡ suc place = omega arith in
    let sizes : place + 1 ≡ 1 + place = omega arith in
    let next : get_or text (1 + place) 0 ≡ get_or rest place 0 =
    ap (λ t. get_or t (1 + place) 0) split ∙ ap (λ n. get_or (first ∷ rest) n 0) one in
    sign_front text first rest split c.requires some (1 + place) (omega (arith, ap length split))
    (ap (λ n. take n text) (sym sizes) ∙ c.loop-place.invariant)
    (λ within longer is. c.in_default.ensures longer (ap (λ b. sign_spelling some ++ b ∷ []) (sym next) ∙ is))
