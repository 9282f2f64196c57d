-- The tokens of a text of bytes are small.
use Rattle.std.proofs.Common.{◌≡◌, ◌⊎◌, ◌∙◌, ℕ, zero, suc, ◌+◌, ◌≤◌, ◌<◌, ◌^◌, ◌==◌, Bool, true, false, List, [], ◌∷◌, ◌++◌, length, length-append, Some, None, inl, inr, refl, ap, sym, subst, arith, drop, map}
use Rattle.std.specs.Prelude.{IfSome, nat_lt, if◌then◌else◌}
use Rattle.std.specs.List.{AllByRecursion}
use Rattle.std.proofs.lemmas.Bool.Decides.{nat_tests}
use Rattle.std.proofs.lemmas.List.Elements.{recursion_from_All}
use Rattle.std.proofs.lemmas.Option.{same_Some}
use Rattle.text_parts.specs.Number.{IsHexDigit, digit_value, number_in, number_of_64_bits}
use Rattle.capl_lexer.specs.declared.token.Tok.{Tok}
use Rattle.capl_lexer.specs.declared.token.Tok.TheVariants as tok
use Rattle.capl_lexer.specs.declared.token.Token.{Token}
use Rattle.capl_lexer.specs.Reading.{AreFront, Blank, Comment, IsReading, Lexeme, Piece, first_place, tokens_at}
use Rattle.capl_lexer.specs.Spelling.{AreItems, IsEscape, IsItem, IsPlain, IsPlainInChar, Spells, escaped}
use Rattle.sound_programs.specs.Small.{IsShortList}
use Rattle.small_trees.specs.Tokens.{AreBytes, AreSmallToks, IsSmallTok}

-- ---- bytes

-- bytes of two parts
split : (xs ys : List ℕ) → AreBytes (xs ++ ys) → AreBytes xs × AreBytes ys
split [] ys are = (tt, are)
split (x ∷ xs) ys are = let rest = split xs ys are.1 in ((are.0, rest.0), rest.1)

-- bytes behind some
behind : (n : ℕ) (xs : List ℕ) → AreBytes xs → AreBytes (drop n xs)
behind zero xs are = are
behind (suc n) [] are = tt
behind (suc n) (x ∷ xs) are = behind n xs are.1

fewer : (n : ℕ) (xs : List ℕ) → length (drop n xs) ≤ length xs
fewer zero xs = omega arith
fewer (suc n) [] = omega arith
fewer (suc n) (x ∷ xs) = omega (arith, fewer n xs)

-- ---- numbers and characters

-- a number of 64 bits, or none
number_small : (n : ℕ) → IfSome (number_of_64_bits n) (λ m. m < 2 ^ 64)
number_small n = by (nat_lt n (2 ^ 64)) refl
  where
    by : (b : Bool) → nat_lt n (2 ^ 64) ≡ b → IfSome (if b then Some n else None) (λ m. m < 2 ^ 64)
    by true is = grind (arith, nat_tests, is)
    by false is = tt

-- a digit
digit_small : (byte : ℕ) → IsHexDigit byte → digit_value byte < 16
digit_small byte is = grind (arith, nat_tests, is)

-- one or two digits
digits_small : (digits : List ℕ) → AllByRecursion IsHexDigit digits → (length digits ≡ 2) ⊎ (length digits ≡ 1) → number_in 16 digits < 2 ^ 8
digits_small [] are (inl two) = absurd (omega (arith, two))
digits_small [] are (inr one) = absurd (omega (arith, one))
digits_small (a ∷ []) are count = omega (arith, digit_small a are.0)
digits_small (a ∷ b ∷ []) are count = omega (arith, digit_small a are.0, digit_small b are.1.0)
digits_small (a ∷ b ∷ c ∷ digits) are (inl two) = absurd (omega (arith, two))
digits_small (a ∷ b ∷ c ∷ digits) are (inr one) = absurd (omega (arith, one))

-- what an escape stands for
escaped_small : (letter value : ℕ) → letter < 2 ^ 8 → escaped letter ≡ Some value → value < 2 ^ 8
escaped_small letter value small is = by (letter == 110) (letter == 114) (letter == 116) (letter == 48) _ is
  where
    by : (n r t zero_ other : Bool) → (if n then Some 10 else (if r then Some 13 else (if t then Some 9 else (if zero_ then Some 0 else (if other then Some letter else None))))) ≡ Some value
        → value < 2 ^ 8
    by true r t z o is = let same = same_Some 10 value is in omega (arith, same)
    by false true t z o is = let same = same_Some 13 value is in omega (arith, same)
    by false false true z o is = let same = same_Some 9 value is in omega (arith, same)
    by false false false true o is = let same = same_Some 0 value is in omega (arith, same)
    by false false false false true is = let same = same_Some letter value is in omega (arith, same, small)
    by false false false false false is = cc

-- what an item stands for is a byte, and what stands behind it are bytes, fewer
escape_small : (value : ℕ) (text rest : List ℕ) → AreBytes text → IsEscape value text rest → (value < 2 ^ 8) × AreBytes rest × (length rest < length text)
escape_small value text rest are (inl is) =
    let these = subst AreBytes is.1 are in
    let many = ap length is.1 in
    (escaped_small is.0 value these.1.0 is.2, these.1.1, omega (arith, many))
escape_small value text rest are (inr is) =
    let these = subst AreBytes is.1 are in
    let many = ap length is.1 in
    let more = length-append is.0 rest in
    let small = digits_small is.0 (recursion_from_All IsHexDigit is.0 is.2) (counted is.0 rest is.4) in
    (subst (λ (n : ℕ). n < 2 ^ 8) (sym is.3) small, (split is.0 rest these.1.1).1, omega (arith, many, more))
  where
    counted : (digits rest : List ℕ) → {P : Type 0} → (length digits ≡ 2) ⊎ ((length digits ≡ 1) × P) → (length digits ≡ 2) ⊎ (length digits ≡ 1)
    counted digits rest {P} (inl two) = inl two
    counted digits rest {P} (inr one) = inr one.0

item_small : (P : ℕ → Type 0) (value : ℕ) (text rest : List ℕ) → AreBytes text → IsItem P value text rest →
    (value < 2 ^ 8) × AreBytes rest × (length rest < length text)
item_small P value text rest are (inl is) =
    let these = subst AreBytes is.1 are in
    let many = ap length is.1 in
    (these.0, these.1, omega (arith, many))
item_small P value text rest are (inr is) = escape_small value text rest are is

-- what items stand for
items_small : (values text rest : List ℕ) → AreBytes text → AreItems values text rest → AreBytes values × (length values ≤ length text)
items_small [] text rest are is = (tt, omega arith)
items_small (value ∷ values) text rest are is =
    let one = item_small IsPlain value text is.0 are is.1 in
    let others = items_small values is.0 rest one.1 is.2 in
    ((one.0, others.0), omega (arith, one.2, others.1))

-- ---- tokens

-- a token that bytes spell
spelled_small : (bytes : List ℕ) (t : Tok) → Spells bytes t → AreBytes bytes → IsShortList bytes → IsSmallTok t
spelled_small bytes (tok.Name text) is are short = tt
spelled_small bytes (tok.Word w) is are short = tt
spelled_small bytes (tok.Sign sign) is are short = tt
spelled_small bytes (tok.Num ext value) is are short = subst (λ v. IfSome v (λ m. m < 2 ^ 64)) (sym is.1) (number_small is.0)
spelled_small bytes tok.Float is are short = tt
spelled_small bytes (tok.Char value) is are short = (item_small IsPlainInChar value is.0 (39 ∷ []) (subst AreBytes is.1 are).1 is.2).0
spelled_small bytes (tok.Str text) is are short =
    let many = ap length is.1 in
    let it = items_small text is.0 (34 ∷ []) (subst AreBytes is.1 are).1 is.2 in
    (omega (arith, short, many, it.1), it.0)
spelled_small bytes (tok.Include name) is are short = tt
spelled_small bytes tok.Directive is are short = tt

-- the tokens of pieces
pieces_small : (whole : List ℕ) (place : ℕ) (pieces : List Piece) (text rest : List ℕ) → AreFront pieces text rest → AreBytes text → IsShortList text →
    AreSmallToks (map (λ (t : Token). t.tok) (tokens_at whole place pieces))
pieces_small whole place [] text rest front are short = tt
pieces_small whole place (Blank byte ∷ pieces) text rest front are short =
    let same = front.1.1 in
    let many = ap length same in
    pieces_small whole (place + 1) pieces front.0 rest front.2 (subst AreBytes same are).1 (omega (arith, short, many))
pieces_small whole place (Comment bytes ∷ pieces) text rest front are short =
    let same = front.1.1 in
    let many = ap length same ∙ length-append bytes front.0 in
    pieces_small whole (place + length bytes) pieces front.0 rest front.2 (split bytes front.0 (subst AreBytes same are)).1 (omega (arith, short, many))
pieces_small whole place (Lexeme bytes t ∷ pieces) text rest front are short =
    let same = front.1.1 in
    let many = ap length same ∙ length-append bytes front.0 in
    let these = split bytes front.0 (subst AreBytes same are) in (
      spelled_small bytes t front.1.0 these.0 (omega (arith, short, many)),
      pieces_small whole (place + length bytes) pieces front.0 rest front.2 these.1 (omega (arith, short, many)),
    )

-- the tokens of a text
pub reading_small : (text : List ℕ) (tokens : List Token) → IsReading text tokens → AreBytes text → IsShortList text →
    AreSmallToks (map (λ (t : Token). t.tok) tokens)
reading_small text tokens is are short =
    subst (λ (l : List Token). AreSmallToks (map (λ (t : Token). t.tok) l)) (sym is.2)
    (pieces_small text (first_place text) is.0 (drop (first_place text) text) [] is.1 (behind (first_place text) text are) (omega (arith, short, fewer (first_place text) text)))
