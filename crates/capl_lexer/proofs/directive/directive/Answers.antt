-- Letters behind `#` are a directive where no name of a file follows.
use Rattle.std.proofs.Common.{◌≡◌, ◌<◌, ℕ, List, [], ◌∷◌, drop, MatchOption, Option, ap, subst, arith}
use Rattle.std.proofs.lemmas.List.{take_rest}
use Rattle.capl_lexer.specs.Inside.ByteClass.{IsRun}
use Rattle.capl_lexer.specs.Inside.Directive.{IsHash, HasNoInclude}
use Rattle.capl_lexer.specs.Inside.Front.{IsTokenFront}
use Rattle.capl_lexer.specs.declared.front.Front.{Front}
use Rattle.capl_lexer.specs.declared.byte_class.ByteClass.TheVariants as class
use Rattle.capl_lexer.proofs.DirectiveFronts.{hash_none, directive_front}
use Rattle.capl_lexer.proofs.directive.directive.Goals as goal

-- a text that begins with `#`
hashed : (text : List ℕ) → IsHash text → text ≡ 35 ∷ drop 1 text
hashed [] none = absurd none
hashed (byte ∷ text) is = ap (λ b. b ∷ text) is

pub returns-then-letters-eq0 : goal.returns-then-letters-eq0
returns-then-letters-eq0 c =
    let text = c.args.text.now in
    let run = subst (λ b. IsRun class.Letter b c.run-letters.result) (take_rest text 1) c.run-letters.ensures in
    hash_none text (drop 1 text) (hashed text c.requires) (subst (IsRun class.Letter (drop 1 text)) c.if-letters-eq0.true run)

pub returns-in-None : goal.returns-in-None
returns-in-None c =
    let text = c.args.text.now in
    let run = subst (λ b. IsRun class.Letter b c.run-letters.result) (take_rest text 1) c.run-letters.ensures in
    let some : 0 < c.run-letters.result = let not_zero = c.if-letters-eq0.false in omega arith in
    directive_front text (drop 1 text) c.run-letters.result (hashed text c.requires) run some
    (subst (λ (found : Option Front). MatchOption found (HasNoInclude text) (IsTokenFront text)) c.in-None.is c.in_ok-front.ensures)
