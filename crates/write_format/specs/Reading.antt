-- How the text of a format reads: piece by piece, into bytes that are written as they are and codes that take
-- an argument each (CAPL manual, write).
use Rattle.std.specs.Prelude.{ℕ, Bool, ◌==◌, ◌||◌, nat_eq, nat_le, List, [], ◌∷◌, take, drop, Option, Some, None, if◌then◌else◌, codes, ◌≡◌, ◌≢◌, zero, suc, true, false, not, ◌++◌, ◌⊎◌, length, position}
use Rattle.std.specs.List.{list_any, prefix_len, starts_with, zip}
use Rattle.std.specs.Option.{option_map, option_and_then, option_or}
use Rattle.int_kinds.specs.declared.kinds.Kind.TheVariants.{Dword, Qword, Long, Int64}
use Rattle.text_parts.specs.Number.{is_digit, number_in}
use Rattle.write_format.specs.declared.code.Conversion.{Conversion}
use Rattle.write_format.specs.declared.code.Conversion.TheVariants.{Number, Character, Text}
use Rattle.write_format.specs.declared.code.Digits.TheVariants.{Decimal, LowerHexadecimal, UpperHexadecimal, Octal}
use Rattle.write_format.specs.declared.code.Field.{Field}
use Rattle.write_format.specs.declared.code.Size.{Size}
use Rattle.write_format.specs.declared.code.Size.TheVariants.{Plain, L, I64}
use Rattle.write_format.specs.declared.piece.Piece.{Piece}
use Rattle.write_format.specs.declared.piece.Piece.TheVariants.{Byte, Argument}
use Rattle.int_kinds.specs.Kind.{width}
use Rattle.int_kinds.specs.declared.kinds.Kind.{Kind}
use Rattle.write_format.specs.declared.argument.ArgKind.{ArgKind}
use Rattle.write_format.specs.Code.{SpellsCode}
use Rattle.write_format.specs.declared.code.Code as declared
use Rattle.write_format.specs.declared.argument.ArgKind.TheVariants as argument
use Rattle.write_format.specs.declared.piece.Piece.TheVariants as piece

-- ---- The piece at the front of a text, and what stands behind it.

-- whether the byte is a flag
abbrev pub is_flag : ℕ → Bool
is_flag byte = byte == 45 || byte == 48

-- the flags at the front
abbrev pub flags_at : List ℕ → List ℕ
flags_at bytes = take (prefix_len is_flag bytes) bytes

-- what stands behind them
abbrev pub behind_flags : List ℕ → List ℕ
behind_flags bytes = drop (prefix_len is_flag bytes) bytes

-- the decimal digits at the front
abbrev pub numeral_at : List ℕ → List ℕ
numeral_at bytes = take (prefix_len is_digit bytes) bytes

-- what stands behind them
abbrev pub behind_numeral : List ℕ → List ℕ
behind_numeral bytes = drop (prefix_len is_digit bytes) bytes

-- the field of these flags and this width, if the width is one
abbrev pub field_of : List ℕ → List ℕ → Option Field
field_of flags numeral =
    if nat_le (number_in 10 numeral) 32
    then Some (record {
      left = list_any (λ byte. byte == 45) flags;
      zeros = list_any (λ byte. byte == 48) flags;
      width = number_in 10 numeral;
    })
    else None

-- the size that letters begin with, and what stands behind it
abbrev pub size_at : List ℕ → Size × List ℕ
size_at bytes =
    if starts_with nat_eq bytes (codes "I64") then (I64, drop 3 bytes)
    else (if starts_with nat_eq bytes (codes "l") then (L, drop 1 bytes) else (Plain, bytes))

-- the conversion of a letter behind `I64`
abbrev pub wide_conversion : ℕ → Option Conversion
wide_conversion letter =
    if letter == 100 then Some (Number Int64 Decimal)
    else (if letter == 117 then Some (Number Qword Decimal)
    else (if letter == 120 then Some (Number Qword LowerHexadecimal) else None))

-- the conversion of a letter behind `l`, and of one alone
abbrev pub long_conversion : ℕ → Option Conversion
long_conversion letter =
    if letter == 100 then Some (Number Long Decimal)
    else (if letter == 117 then Some (Number Dword Decimal)
    else (if letter == 120 then Some (Number Dword LowerHexadecimal)
    else (if letter == 88 then Some (Number Dword UpperHexadecimal)
    else (if letter == 111 then Some (Number Dword Octal) else None))))

-- the conversion of a letter that stands alone
abbrev pub plain_conversion : ℕ → Option Conversion
plain_conversion letter =
    if letter == 99 then Some Character else (if letter == 115 then Some Text else long_conversion letter)

-- the conversion of a letter behind a size
abbrev pub conversion_of : Size → ℕ → Option Conversion
conversion_of Plain letter = plain_conversion letter
conversion_of L letter = long_conversion letter
conversion_of I64 letter = wide_conversion letter

-- the conversion of the first letter behind a size, and what stands behind it
abbrev pub conversion_behind : Size → List ℕ → Option (Conversion × List ℕ)
conversion_behind size [] = None
conversion_behind size (letter ∷ rest) =
    option_map (λ conversion. (conversion, rest)) (conversion_of size letter)

-- the conversion at the front, and what stands behind it
abbrev pub conversion_at : List ℕ → Option (Conversion × List ℕ)
conversion_at bytes = conversion_behind (size_at bytes).0 (size_at bytes).1

-- the code with this field, whose letters stand at the front, and what stands behind it
abbrev pub code_behind : Field → List ℕ → Option (declared.Code × List ℕ)
code_behind field bytes =
    option_map (λ found. (record { field = field; conversion = found.0 }, found.1)) (conversion_at bytes)

-- the code at the front, behind its `%`, and what stands behind it
abbrev pub code_at : List ℕ → Option (declared.Code × List ℕ)
code_at bytes =
    let behind = behind_flags bytes in
    option_and_then (λ field. code_behind field (behind_numeral behind))
    (field_of (flags_at bytes) (numeral_at behind))

-- the second `%` of two, and what stands behind it
abbrev pub percent_at : List ℕ → Option (Piece × List ℕ)
percent_at [] = None
percent_at (byte ∷ bytes) = if byte == 37 then Some (Byte 37, bytes) else None

-- the piece that begins with a `%` before these bytes, and what stands behind it
abbrev pub behind_percent : List ℕ → Option (Piece × List ℕ)
behind_percent bytes =
    option_or (option_map (λ found. (Argument found.0, found.1)) (code_at bytes)) (percent_at bytes)

-- the piece at the front, and what stands behind it
abbrev pub piece_at : List ℕ → Option (Piece × List ℕ)
piece_at [] = None
piece_at (byte ∷ bytes) = if byte == 37 then behind_percent bytes else Some (Byte byte, bytes)

-- ---- How the text of a format reads: into bytes that are written as they are and codes that take an
-- argument each (CAPL manual, write).

-- the bytes of a piece: a byte other than `%`, or `%%` for the byte `%`, or a code
abbrev pub Spells : List ℕ → Piece → Type 0
Spells bytes (piece.Byte byte) =
    ((byte ≢ 37) × (bytes ≡ byte ∷ [])) ⊎ ((byte ≡ 37) × (bytes ≡ 37 ∷ 37 ∷ []))
Spells bytes (piece.Argument code) = SpellsCode bytes code

-- the text is the bytes of these pieces, one after another
abbrev pub AreSpelled : List ℕ → List Piece → Type 0
AreSpelled text [] = text ≡ []
AreSpelled text (piece ∷ pieces) =
    (bytes rest : List ℕ) × (text ≡ bytes ++ rest) × Spells bytes piece × AreSpelled rest pieces

-- the pieces of a text of at most so many bytes, where it reads into pieces
abbrev pub pieces_within : ℕ → List ℕ → Option (List Piece)
pieces_within n [] = Some []
pieces_within zero (byte ∷ rest) = None
pieces_within (suc n) (byte ∷ rest) =
    option_and_then (λ found. option_map (λ pieces. found.0 ∷ pieces) (pieces_within n found.1))
    (piece_at (byte ∷ rest))

-- the pieces of a text, where it reads into pieces
abbrev pub pieces_of : List ℕ → Option (List Piece)
pieces_of text = pieces_within (length text) text

-- the codes among the pieces
abbrev pub codes_of : List Piece → List declared.Code
codes_of [] = []
codes_of (piece.Byte byte ∷ pieces) = codes_of pieces
codes_of (piece.Argument code ∷ pieces) = code ∷ codes_of pieces

-- the kind has more than 32 bits
abbrev pub is_wide : Kind → Bool
is_wide kind = width kind == 64

-- a conversion shows such an argument: a number of up to 32 bits as one, a number of 64 bits as one, a number
-- of up to 32 bits as a byte, an array of characters or a text as a text
abbrev pub is_fit : Conversion → ArgKind → Bool
is_fit (Number kind digits) (argument.Number given) =
    if is_wide kind then is_wide given else not (is_wide given)
is_fit Character (argument.Number given) = not (is_wide given)
is_fit Text (argument.Chars base len) = true
is_fit Text (argument.Str text) = true
is_fit _ _ = false

-- the place of the first argument that its code does not show
abbrev pub first_unfit : List declared.Code → List ArgKind → Option ℕ
first_unfit codes arguments =
    position (λ pair. not (is_fit (pair.0).conversion pair.1)) (zip codes arguments)

-- the text reads into these pieces, and there are as many arguments as codes
pub record AreMatched (text : List ℕ) (arguments : List ArgKind) (pieces : List Piece) : Type 0 where
  pub spelled : AreSpelled text pieces
  pub count : length (codes_of pieces) ≡ length arguments

-- the text has a reading with as many codes as there are arguments
abbrev pub HasCodesFor : List ℕ → List ArgKind → Type 0
HasCodesFor text arguments = (pieces : List Piece) × AreMatched text arguments pieces

-- the text has such a reading, and this is the first argument that its code does not show
abbrev pub IsFirstUnfit : List ℕ → List ArgKind → ℕ → Type 0
IsFirstUnfit text arguments place =
    (pieces : List Piece) × AreMatched text arguments pieces
    × (first_unfit (codes_of pieces) arguments ≡ Some place)
