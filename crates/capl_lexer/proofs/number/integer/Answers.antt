-- The run of digits behind the prefix, with its mark, is a number.
use Rattle.std.proofs.Common.{◌≡◌, ℕ, ◌-◌, ◌+◌, Bool, true, false, cond, List, drop, take, length, refl, ap, ◌∙◌, sym, subst, All, arith, Option}
use Rattle.std.specs.Int.{from_bool}
use Rattle.std.proofs.lemmas.List.{take_rest}
use Rattle.capl_lexer.specs.Inside.ByteClass.{IsFirstInClass, IsRun, IsInClass}
use Rattle.capl_lexer.specs.Inside.Base.{prefix_of}
use Rattle.capl_lexer.specs.Inside.Front.{IsTokenFront}
use Rattle.capl_lexer.specs.declared.byte_class.ByteClass.{ByteClass}
use Rattle.capl_lexer.specs.declared.byte_class.ByteClass.TheVariants as class
use Rattle.capl_lexer.specs.declared.token.Tok.TheVariants as tok
use Rattle.capl_lexer.proofs.NumberFronts.{number_front}
use Rattle.capl_lexer.proofs.number.integer.Goals as goal

from_bool-cond : (ext : Bool) → from_bool ext ≡ cond ext 1 0
from_bool-cond true = refl
from_bool-cond false = refl

pub number-value-requires : goal.number-value-requires
number-value-requires c =
    let P : ByteClass → Type 0 = λ kind. All (IsInClass kind) (take c.run-count.result (take (length c.args.text.now - c.prefix-prefix.result) (drop c.prefix-prefix.result c.args.text.now))) in
    subst P c.digits.ensures c.run-count.ensures.inside

pub returns : goal.returns
returns c =
    let text = c.args.text.now in
    let base = c.at_front-base.result in
    let prefix = c.prefix-prefix.result in
    let count = c.run-count.result in
    let ext = c.begins-ext.result in
    let behind : List ℕ = take (length text - prefix) (drop prefix text) in
    let rest_is : take (length behind - count) (drop count behind) ≡ drop count behind = take_rest behind count in
    let size : prefix + count + c.from.result ≡ prefix_of base + count + cond ext 1 0 =
    omega (arith, c.prefix-prefix.ensures, c.from.ensures, from_bool-cond ext) in
    let found = number_front text base behind (take count behind) (drop count behind) count ext (prefix + count + c.from.result) size
    record {
      start = c.requires.digit;
      is_base = c.at_front-base.ensures;
      is_behind = take_rest text prefix ∙ ap (λ n. drop n text) c.prefix-prefix.ensures;
      run = subst (λ kind. IsRun kind behind count) c.digits.ensures c.run-count.ensures;
      is_digits = refl;
      is_rest = refl;
      has_mark = λ first. c.begins-ext.ensures.1 (subst (IsFirstInClass class.Mark) (sym rest_is) first);
      is_marked = λ marked. subst (IsFirstInClass class.Mark) rest_is (c.begins-ext.ensures.0 marked);
    } c.requires.no_point in
    subst (λ (value : Option ℕ). IsTokenFront text (record { tok = tok.Num ext value; length = prefix + count + c.from.result }))
    (sym c.number-value.ensures) found
