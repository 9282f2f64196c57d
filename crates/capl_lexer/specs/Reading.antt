-- The reading of a whole text into pieces: blanks, comments and tokens (CAPL manual, lexical elements).
use Rattle.std.specs.Prelude.{◌≡◌, ◌≢◌, ◌+◌, ◌<◌, ◌≤◌, ◌⊎◌, ⊤, ℕ, List, [], ◌∷◌, ◌++◌, All, length, take, drop, count_by, nat_eq, ◌==◌, if◌then◌else◌}
use Rattle.std.specs.List.{after_last, starts_with}
use Rattle.capl_lexer.specs.Spelling.{IsBlank, Spells}
use Rattle.capl_lexer.specs.declared.token.Tok.{Tok}
use Rattle.capl_lexer.specs.declared.token.Token.{Token}

-- a blank, a comment by its bytes, or a token with the bytes that spell it
pub data Piece : Type 0 where
  Blank : ℕ → Piece
  Comment : List ℕ → Piece
  Lexeme : List ℕ → Tok → Piece

-- `//`
abbrev pub line_opening : List ℕ
line_opening = 47 ∷ 47 ∷ []

-- `/*`
abbrev pub block_opening : List ℕ
block_opening = 47 ∷ 42 ∷ []

-- `*/`
abbrev pub block_closing : List ℕ
block_closing = 42 ∷ 47 ∷ []

-- a comment begins with these bytes
abbrev pub IsCommentOpening : List ℕ → Type 0
IsCommentOpening bytes = (bytes ≡ line_opening) ⊎ (bytes ≡ block_opening)

-- a comment begins at the front of the text
abbrev pub OpensComment : List ℕ → Type 0
OpensComment text = (opening rest : List ℕ) × IsCommentOpening opening × (text ≡ opening ++ rest)

-- nothing, or a line end and what follows it
abbrev pub EndsLine : List ℕ → Type 0
EndsLine [] = ⊤
EndsLine (byte ∷ bytes) = byte ≡ 10

-- `//` and the bytes up to before the next line end, with this rest behind it
abbrev pub IsLineComment : List ℕ → List ℕ → Type 0
IsLineComment bytes rest =
    (inside : List ℕ) × (bytes ≡ line_opening ++ inside) × All (λ byte. byte ≢ 10) inside × EndsLine rest

-- `/*` and the bytes up to and with the next `*/`
abbrev pub IsBlockComment : List ℕ → Type 0
IsBlockComment bytes =
    (inside : List ℕ) × (bytes ≡ block_opening ++ inside ++ block_closing)
    × ((before after : List ℕ) → inside ++ block_closing ≡ before ++ block_closing ++ after
    → length inside ≤ length before)

-- no token that stands at the front of the text has more bytes
abbrev pub IsLongest : List ℕ → ℕ → Type 0
IsLongest text count =
    (bytes after : List ℕ) (tok : Tok) → text ≡ bytes ++ after → Spells bytes tok → length bytes ≤ count

-- the piece stands at the front of a text, before this rest; where a comment begins, no token does
abbrev pub IsFront : Piece → List ℕ → List ℕ → Type 0
IsFront (Blank byte) text rest = IsBlank byte × (text ≡ byte ∷ rest)
IsFront (Comment bytes) text rest =
    (IsLineComment bytes rest ⊎ IsBlockComment bytes) × (text ≡ bytes ++ rest)
IsFront (Lexeme bytes tok) text rest =
    Spells bytes tok × (text ≡ bytes ++ rest) × IsLongest text (length bytes) × (OpensComment text → ⊥)

-- the pieces stand one after another at the front of a text, before this rest
abbrev pub AreFront : List Piece → List ℕ → List ℕ → Type 0
AreFront [] text rest = text ≡ rest
AreFront (piece ∷ pieces) text rest =
    (between : List ℕ) × IsFront piece text between × AreFront pieces between rest

-- the bytes that may stand before a text and are passed over
abbrev pub byte_order_mark : List ℕ
byte_order_mark = 0xEF ∷ 0xBB ∷ 0xBF ∷ []

-- the place at which the first piece begins
abbrev pub first_place : List ℕ → ℕ
first_place text = if starts_with nat_eq text byte_order_mark then 3 else 0

-- 1 and the line ends before the place
abbrev pub line_at : List ℕ → ℕ → ℕ
line_at text place = 1 + count_by (λ byte. byte == 10) (take place text)

-- 1 and the bytes since the last line end before the place, or since the beginning
abbrev pub column_at : List ℕ → ℕ → ℕ
column_at text place = 1 + length (after_last (λ byte. byte == 10) (take place text))

-- the tokens of the pieces that begin at a place of a text
abbrev pub tokens_at : List ℕ → ℕ → List Piece → List Token
tokens_at text place [] = []
tokens_at text place (Blank byte ∷ pieces) = tokens_at text (place + 1) pieces
tokens_at text place (Comment bytes ∷ pieces) = tokens_at text (place + length bytes) pieces
tokens_at text place (Lexeme bytes tok ∷ pieces) =
    record {
      tok = tok;
      from = place;
      to = place + length bytes;
      line = line_at text place;
      column = column_at text place;
    } ∷ tokens_at text (place + length bytes) pieces

-- the tokens are those of a reading of the whole text
abbrev pub IsReading : List ℕ → List Token → Type 0
IsReading text tokens =
    (pieces : List Piece) × AreFront pieces (drop (first_place text) text) []
    × (tokens ≡ tokens_at text (first_place text) pieces)

-- pieces lead to the place, and none begins there
pub record IsBadPlace (text : List ℕ) (place : ℕ) : Type 0 where
  pub before : (pieces : List Piece) × AreFront pieces (drop (first_place text) text) (drop place text)
  pub within : (first_place text ≤ place) × (place < length text)
  pub no_piece : (piece : Piece) (rest : List ℕ) → IsFront piece (drop place text) rest → ⊥

-- how many tokens a text may have
abbrev pub token_limit : ℕ
token_limit = 300000
