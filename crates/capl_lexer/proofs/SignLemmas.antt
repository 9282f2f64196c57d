-- The signs, found by their bytes, and that what begins a sign is one.
use Rattle.std.proofs.Common.{◌≡◌, ◌<◌, ◌≤◌, ℕ, zero, suc, Bool, true, List, [], ◌∷◌, length, take, Option, Some, None, refl, subst, arith, eqb}
use Rattle.std.specs.Option.{is_some}
use Rattle.items.specs.Search.{Finds}
use Rattle.capl_lexer.specs.Spelling.{sign_spelling}
use Rattle.capl_lexer.specs.declared.token.Sign.{Sign}
use Rattle.capl_lexer.specs.declared.token.Sign.TheVariants as sign
use Rattle.capl_lexer.proofs.FindLemmas.{spelled_in, spelled_in-sound, spelling-injective}

-- all signs
abbrev pub all_signs : List Sign
all_signs =
    sign.OpenBrace ∷ sign.CloseBrace ∷ sign.OpenParen ∷ sign.CloseParen ∷ sign.OpenBracket ∷
    sign.CloseBracket ∷ sign.Semi ∷ sign.Comma ∷ sign.Colon ∷ sign.Scope ∷ sign.Question ∷
    sign.Dot ∷ sign.Dollar ∷ sign.At ∷ sign.Tilde ∷ sign.Bang ∷ sign.Assign ∷ sign.Equal ∷
    sign.NotEqual ∷ sign.Less ∷ sign.LessEqual ∷ sign.Greater ∷ sign.GreaterEqual ∷
    sign.ShiftLeft ∷ sign.ShiftRight ∷ sign.Plus ∷ sign.Minus ∷ sign.Star ∷ sign.Slash ∷
    sign.Percent ∷ sign.Amp ∷ sign.Bar ∷ sign.Caret ∷ sign.AndAnd ∷ sign.OrOr ∷ sign.PlusPlus ∷
    sign.MinusMinus ∷ sign.PlusAssign ∷ sign.MinusAssign ∷ sign.StarAssign ∷ sign.SlashAssign ∷
    sign.PercentAssign ∷ sign.AmpAssign ∷ sign.BarAssign ∷ sign.CaretAssign ∷
    sign.ShiftLeftAssign ∷ sign.ShiftRightAssign ∷ []

-- the sign of these bytes
abbrev pub sign_at : List ℕ → Option Sign
sign_at bytes = spelled_in sign_spelling all_signs bytes

-- each sign is found by its spelling
pub sign_at-spelling : (some : Sign) → sign_at (sign_spelling some) ≡ Some some
sign_at-spelling sign.OpenBrace = refl
sign_at-spelling _ = refl

-- what is found is spelled so, and where nothing is found no sign is
pub sign_at-sound : (bytes : List ℕ)
    → Finds (λ (some : Sign). bytes ≡ sign_spelling some) (sign_at bytes)
sign_at-sound bytes = spelled_in-sound sign_spelling (λ _. all_signs) sign_at-spelling bytes

-- two signs with one spelling are one sign
pub sign_spelling-injective : (some other : Sign) → sign_spelling some ≡ sign_spelling other
    → some ≡ other
sign_spelling-injective some other same = spelling-injective sign_spelling (λ _. all_signs) sign_at-spelling some other same

-- the first byte of a sign
abbrev pub sign_first : Sign → ℕ
sign_first some = elim (sign_spelling some) [ [] ↦ 0 | byte ∷ bytes ↦ byte ]

-- a sign is its first byte and what follows it
pub sign-first : (some : Sign) → (others : List ℕ) × (sign_spelling some ≡ sign_first some ∷ others)
sign-first sign.OpenBrace = ([], refl)
sign-first _ = (_, refl)

first_one : (some : Sign) → is_some (sign_at (take 1 (sign_spelling some))) ≡ true
first_one sign.OpenBrace = refl
first_one _ = refl

first_two : (some : Sign) → is_some (sign_at (take 2 (sign_spelling some))) ≡ true
first_two sign.OpenBrace = refl
first_two _ = refl

first_three : (some : Sign) → is_some (sign_at (take 3 (sign_spelling some))) ≡ true
first_three sign.OpenBrace = refl
first_three _ = refl

short_test : (some : Sign) → length (sign_spelling some) ≤ 3
short_test sign.OpenBrace = omega arith
short_test _ = omega arith

is_sign : (bytes : List ℕ) (found : Option Sign) → Finds (λ (some : Sign). bytes ≡ sign_spelling some) found
    → is_some found ≡ true → (some : Sign) × (bytes ≡ sign_spelling some)
is_sign bytes (Some some) is test = (some, is)
is_sign bytes None is test = cc

-- what begins a sign is a sign
pub sign-beginning : (some : Sign) (count : ℕ) → 0 < count → count ≤ length (sign_spelling some)
    → (beginning : Sign) × (take count (sign_spelling some) ≡ sign_spelling beginning)
sign-beginning some zero positive less = absurd (omega arith)
sign-beginning some (suc zero) positive less = is_sign (take 1 (sign_spelling some)) (sign_at (take 1 (sign_spelling some))) (sign_at-sound (take 1 (sign_spelling some))) (first_one some)
sign-beginning some (suc (suc zero)) positive less = is_sign (take 2 (sign_spelling some)) (sign_at (take 2 (sign_spelling some))) (sign_at-sound (take 2 (sign_spelling some))) (first_two some)
sign-beginning some (suc (suc (suc zero))) positive less = is_sign (take 3 (sign_spelling some)) (sign_at (take 3 (sign_spelling some))) (sign_at-sound (take 3 (sign_spelling some))) (first_three some)
sign-beginning some (suc (suc (suc (suc count)))) positive less = absurd (omega (arith, short_test some))
