-- The tokens of a database's text (the DBC file format: words, numbers, strings, single characters).
-- This project's own: which bytes separate tokens, that a `"` which is never closed is a token of one
-- byte, and that a byte order mark is no blank: its bytes are tokens, and begin no statement.
use Rattle.std.specs.Prelude.{ℕ, zero, suc, ◌+◌, ◌-◌, Bool, false, ◌&&◌, ◌||◌, not, ◌==◌, nat_le, if◌then◌else◌, List, [], ◌∷◌, drop, take, slice_index, Option, Some, None}
use Rattle.std.specs.List.{prefix_len}
use Rattle.std.specs.Option.{option_map}
use Rattle.text_parts.specs.Number.{is_digit}

-- a token: a word's bytes, a number's bytes, a string, or any other byte
pub data Token : Type 0 where
  Word : List ℕ → Token
  Number : List ℕ → Token
  Quoted : Token
  Byte : ℕ → Token

-- a token and the line in which it begins
pub record Placed : Type 0 where
  pub token : Token
  pub line : ℕ

-- a tab, a line end, a carriage return or a space
abbrev pub is_blank : ℕ → Bool
is_blank byte = byte == 32 || byte == 9 || byte == 10 || byte == 13

-- A to Z, a to z or `_`
abbrev pub is_word_start : ℕ → Bool
is_word_start byte = nat_le 65 byte && nat_le byte 90 || nat_le 97 byte && nat_le byte 122 || byte == 95

-- a letter, a digit or `_`
abbrev pub is_word_part : ℕ → Bool
is_word_part byte = is_word_start byte || is_digit byte

-- how many bytes of the front are a sign: 1 or 0
abbrev pub sign_length : List ℕ → ℕ
sign_length [] = 0
sign_length (byte ∷ bytes) = if byte == 43 || byte == 45 then 1 else 0

-- whether this byte stands at the front
abbrev pub begins_with : ℕ → List ℕ → Bool
begins_with byte [] = false
begins_with byte (first ∷ bytes) = first == byte

-- how many bytes of the front are digits with perhaps a point before, between or behind them
unfoldable pub mantissa_length : List ℕ → ℕ
mantissa_length text =
    let whole = prefix_len is_digit text in
    let fraction = prefix_len is_digit (drop (whole + 1) text) in
    if not (begins_with 46 (drop whole text)) then whole
    else if whole + fraction == 0 then 0
    else whole + 1 + fraction

-- how many bytes of the front are `e` or `E`, perhaps a sign, and digits
unfoldable pub exponent_length : List ℕ → ℕ
exponent_length text =
    let sign = sign_length (drop 1 text) in
    let digits = prefix_len is_digit (drop (1 + sign) text) in
    if (begins_with 101 text || begins_with 69 text) && not (digits == 0) then 1 + sign + digits else 0

-- how many bytes of the front are a number: perhaps a sign, digits with perhaps a point, perhaps an exponent
unfoldable pub number_length : List ℕ → ℕ
number_length text =
    let sign = sign_length text in
    let mantissa = mantissa_length (drop sign text) in
    if mantissa == 0 then 0 else sign + mantissa + exponent_length (drop (sign + mantissa) text)

-- how many bytes there are up to and with the first `"` that has no `\` before it, behind a byte
abbrev pub closing : ℕ → List ℕ → Option ℕ
closing before [] = None
closing before (byte ∷ bytes) =
    if byte == 34 && not (before == 92) then Some 1 else option_map (λ n. n + 1) (closing byte bytes)

-- a token and how many bytes it has
pub record Front : Type 0 where
  pub token : Token
  pub length : ℕ

-- the token of a text that begins with no letter: a number of so many bytes, or else a string with so
-- many behind its first `"`, or else a single byte
abbrev pub other_front : List ℕ → ℕ → Option ℕ → Front
other_front text (suc number) closed = record { token = Number (take (suc number) text); length = suc number }
other_front text zero (Some behind) = record { token = Quoted; length = behind + 1 }
other_front text zero None = record { token = Byte (slice_index text 0); length = 1 }

-- how many bytes behind a `"` at the front are the rest of a string, if a string stands there
abbrev pub quoted : List ℕ → Option ℕ
quoted text = if begins_with 34 text then closing 34 (drop 1 text) else None

-- the longest token at the front of a text
unfoldable pub token_front : List ℕ → Front
token_front text =
    let letters = prefix_len is_word_part text in
    if is_word_start (slice_index text 0) then record { token = Word (take letters text); length = letters }
    else other_front text (number_length text) (quoted text)

-- the line behind a byte of this line
abbrev pub line_behind : ℕ → ℕ → ℕ
line_behind line byte = if byte == 10 then line + 1 else line

-- the tokens of a text whose first bytes, so many, belong to a token before it, and which begins in this line
abbrev pub tokens_behind : ℕ → ℕ → List ℕ → List Placed
tokens_behind within line [] = []
tokens_behind (suc within) line (byte ∷ bytes) = tokens_behind within (line_behind line byte) bytes
tokens_behind zero line (byte ∷ bytes) =
    if is_blank byte then tokens_behind 0 (line_behind line byte) bytes
    else record { token = (token_front (byte ∷ bytes)).token; line = line }
    ∷ tokens_behind ((token_front (byte ∷ bytes)).length - 1) (line_behind line byte) bytes

-- the tokens of a whole text, whose first line is 1
abbrev pub tokens_of : List ℕ → List Placed
tokens_of text = tokens_behind 0 1 text

-- the line in which the first token begins
abbrev pub first_line : List Placed → Option ℕ
first_line [] = None
first_line (placed ∷ more) = Some placed.line
