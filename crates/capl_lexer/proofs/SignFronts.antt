-- The sign at the front of a text.
use Rattle.std.proofs.Common.{◌≡◌, ◌<◌, ◌≤◌, ◌+◌, ℕ, List, [], ◌∷◌, ◌++◌, length, get_or, take, drop, inl, inr, refl, sym, ap, subst, ◌∙◌, arith, length-append}
use Rattle.std.proofs.lemmas.Bool.{cases_lt}
use Rattle.std.proofs.lemmas.List.{take_more, take-append-le}
use Rattle.capl_lexer.specs.Spelling.{sign_spelling, Spells}
use Rattle.capl_lexer.specs.Inside.Front.{IsTokenFront, HasNoToken, IsOtherFront}
use Rattle.capl_lexer.specs.declared.token.Sign.{Sign}
use Rattle.capl_lexer.specs.declared.token.Tok.{Tok}
use Rattle.capl_lexer.specs.declared.token.Tok.TheVariants as tok
use Rattle.capl_lexer.proofs.SignLemmas.{sign_first, sign-first, sign-beginning}
use Rattle.capl_lexer.proofs.FrontLemmas.{front-begins}

-- at the front of a text that begins as no other token each token is a sign
sign_only : (byte : ℕ) (text bytes after : List ℕ) (token : Tok) → IsOtherFront (byte ∷ text)
    → byte ∷ text ≡ bytes ++ after → Spells bytes token
    → (some : Sign) × (bytes ≡ sign_spelling some)
sign_only byte text bytes after (tok.Name name) other split spells = absurd (other.no_name (front-begins (byte ∷ text) byte text bytes after (tok.Name name) refl split spells))
sign_only byte text bytes after (tok.Word reserved) other split spells = absurd (other.no_name (front-begins (byte ∷ text) byte text bytes after (tok.Word reserved) refl split spells))
sign_only byte text bytes after (tok.Sign some) other split spells = (some, spells)
sign_only byte text bytes after (tok.Num ext value) other split spells = absurd (other.no_digit (front-begins (byte ∷ text) byte text bytes after (tok.Num ext value) refl split spells))
sign_only byte text bytes after tok.Float other split spells = absurd (other.no_digit (front-begins (byte ∷ text) byte text bytes after tok.Float refl split spells))
sign_only byte text bytes after (tok.Char value) other split spells = absurd (other.no_apostrophe (front-begins (byte ∷ text) byte text bytes after (tok.Char value) refl split spells))
sign_only byte text bytes after (tok.Str content) other split spells = absurd (other.no_quote (front-begins (byte ∷ text) byte text bytes after (tok.Str content) refl split spells))
sign_only byte text bytes after (tok.Include name) other split spells = absurd (other.no_hash (front-begins (byte ∷ text) byte text bytes after (tok.Include name) refl split spells))
sign_only byte text bytes after tok.Directive other split spells = absurd (other.no_hash (front-begins (byte ∷ text) byte text bytes after tok.Directive refl split spells))

-- so many bytes of a text that a sign begins begin the sign
sign_part : (text after : List ℕ) (some : Sign) (count : ℕ) → text ≡ sign_spelling some ++ after
    → 0 < count → count ≤ length (sign_spelling some)
    → (beginning : Sign) × (take count text ≡ sign_spelling beginning)
sign_part text after some count split positive within =
    let (beginning, is) = sign-beginning some count positive within in
    (beginning, ap (take count) split ∙ take-append-le count (sign_spelling some) after within ∙ is)

-- a sign has a byte
sign-positive : (some : Sign) → 0 < length (sign_spelling some)
sign-positive some = let (others, is) = sign-first some in omega (arith, ap length is)

-- where the first byte is no sign, no token stands at the front
pub sign_none : (text : List ℕ) (byte : ℕ) (rest : List ℕ) → text ≡ byte ∷ rest → IsOtherFront text
    → ((some : Sign) → byte ∷ [] ≡ sign_spelling some → ⊥) → HasNoToken text
sign_none text byte rest first other none bytes after token split spells =
    let start = subst IsOtherFront first other in
    let (some, is) = sign_only byte rest bytes after token start (sym first ∙ split) spells in
    let whole : byte ∷ rest ≡ sign_spelling some ++ after = sym first ∙ split ∙ ap (λ b. b ++ after) is in
    let (beginning, one) = sign_part (byte ∷ rest) after some 1 whole (omega arith) (omega (arith, sign-positive some)) in
    none beginning one

-- a sign that the next byte makes no longer is the token at the front
pub sign_front : (text : List ℕ) (byte : ℕ) (rest : List ℕ) → text ≡ byte ∷ rest → IsOtherFront text
    → (some : Sign) (count : ℕ) → count ≤ length text → take count text ≡ sign_spelling some
    → (count < length text → (longer : Sign)
    → sign_spelling some ++ get_or text count 0 ∷ [] ≡ sign_spelling longer → ⊥)
    → IsTokenFront text (record { tok = tok.Sign some; length = count })
sign_front text byte rest first other some count within is none = record {
  within = within;
  spells = is;
  longest = λ bytes after token split spells.
      elim (cases_lt count (length bytes)) [
        | inl long ↦
            let start = subst IsOtherFront first other in
            let (another, spelled) = sign_only byte rest bytes after token start (sym first ∙ split) spells in
            let whole : text ≡ sign_spelling another ++ after = split ∙ ap (λ b. b ++ after) spelled in
            let inside : count < length text = omega (arith, ap length split, length-append bytes after) in
            let (beginning, part) = sign_part text after another (count + 1) whole (omega arith) (omega (arith, ap length spelled)) in
            absurd (none inside beginning (ap (λ b. b ++ get_or text count 0 ∷ []) (sym is) ∙ sym (take_more text count 0 inside) ∙ part))
        | inr short ↦ short
      ];
}
