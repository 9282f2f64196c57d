-- How far the tokens of a text reach in its lines.
use Rattle.std.proofs.Common.{◌≡◌, ℕ, zero, suc, ◌+◌, ◌-◌, ◌≤◌, ◌^◌, ◌<◌, List, [], ◌∷◌, length, take, drop, Option, Some, slice_get, get_or, ap, sym, subst, ◌∙◌, arith, length-append, length-drop, length-take, nat_eq}
use Rattle.std.specs.Prelude.{Bool, true, false, ◌==◌, if◌then◌else◌, unwrap_or}
use Rattle.std.specs.List.{after_last, starts_with}
use Rattle.capl_include.specs.Text.{IsOfText}
use Rattle.capl_lexer.specs.Reading.{Piece, Blank, Comment, Lexeme, AreFront, byte_order_mark, column_at, line_at, first_place, tokens_at}
use Rattle.capl_lexer.specs.declared.token.Tok.{Tok}
use Rattle.capl_lexer.specs.declared.token.Token.{Token}
use Rattle.source_compiler.specs.Source.{column_past}

-- what is given is one
some_same : (one other : Token) → (let found : Option Token = Some one in found) ≡ Some other → one ≡ other
some_same one other is = ap (λ (found : Option Token). unwrap_or found one) is

-- a byte order mark has three bytes
start_small : (text : List ℕ) → first_place text ≤ 3
start_small text = by_test (starts_with nat_eq text byte_order_mark) where
  by_test : (test : Bool) → (if test then 3 else 0) ≤ 3
  by_test true = omega arith
  by_test false = omega arith

-- what is behind a place is no longer than all
behind_within : (k : ℕ) (text : List ℕ) → length (drop k text) ≤ length text
behind_within k text = omega (arith, length-drop k text)

-- what is behind the last of some bytes is no longer than all
last_within : (test : ℕ → Bool) (text : List ℕ) → length (after_last test text) ≤ length text
last_within test text = behind_within _ text

-- a column is no greater than its place and 1
column_within : (text : List ℕ) (place : ℕ) → column_at text place ≤ 1 + place
column_within text place =
    omega (arith, length-take place text, last_within (λ (byte : ℕ). byte == 10) (take place text))

-- the column past a token of pieces is no greater than the place past them and 1
pieces_within : (whole : List ℕ) (place : ℕ) (pieces : List Piece) (text rest : List ℕ) → AreFront pieces text rest
    → (n : ℕ) (token : Token) → slice_get (tokens_at whole place pieces) n ≡ Some token → column_past token ≤ 1 + place + length text
pieces_within whole place [] text rest front n token is = absurd cc
pieces_within whole place (Blank byte ∷ pieces) text rest front n token is =
    let many = ap length front.1.1 in
    omega (arith, many, pieces_within whole (place + 1) pieces front.0 rest front.2 n token is)
pieces_within whole place (Comment bytes ∷ pieces) text rest front n token is =
    let many = ap length front.1.1 ∙ length-append bytes front.0 in
    omega (arith, many, pieces_within whole (place + length bytes) pieces front.0 rest front.2 n token is)
pieces_within whole place (Lexeme bytes t ∷ pieces) text rest front zero token is =
    let many = ap length front.1.1 ∙ length-append bytes front.0 in
    let own : Token = record { tok = t; from = place; to = place + length bytes; line = line_at whole place; column = column_at whole place } in
    let same : own ≡ token = some_same own token is in
    subst (λ (token : Token). column_past token ≤ 1 + place + length text) same (omega (arith, many, column_within whole place))
pieces_within whole place (Lexeme bytes t ∷ pieces) text rest front (suc n) token is =
    let many = ap length front.1.1 ∙ length-append bytes front.0 in
    omega (arith, many, pieces_within whole (place + length bytes) pieces front.0 rest front.2 n token is)

-- the column past a token of a text fits into 32 bits
column_fits : (tokens : List Token) → IsOfText tokens → (n : ℕ) (token : Token) → slice_get tokens n ≡ Some token → column_past token < 2 ^ 32
column_fits tokens of n token is =
    let start = first_place of.text in
    let reach = pieces_within of.text start of.reading.0 (drop start of.text) [] of.reading.1 n token
    (subst (λ (list : List Token). slice_get list n ≡ Some token) of.reading.2 is) in
    omega (arith, reach, of.short, start_small of.text, length-drop start of.text)

-- a token that is at its place is got there
got_there : (tokens : List Token) (n : ℕ) (token : Token) → n < length tokens → token ≡ get_or tokens n token → slice_get tokens n ≡ Some token
got_there [] n token within is = absurd (omega (arith, within))
got_there (first ∷ tokens) zero token within is = ap (λ (t : Token). Some t) (sym is)
got_there (first ∷ tokens) (suc n) token within is = got_there tokens n token (omega (arith, within)) is

-- the column past it fits
pub column_there_fits : (tokens : List Token) → IsOfText tokens → (n : ℕ) (token : Token) → n < length tokens → token ≡ get_or tokens n token → column_past token < 2 ^ 32
column_there_fits tokens of n token within is = column_fits tokens of n token (got_there tokens n token within is)
