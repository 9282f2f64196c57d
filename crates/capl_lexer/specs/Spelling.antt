-- How each token is spelled, and of which bytes (CAPL manual, lexical elements: keywords, operators,
-- constants).
use Rattle.std.specs.Prelude.{◌≡◌, ◌≢◌, ◌≤◌, ℕ, List, [], ◌∷◌, ◌⊎◌, ◌==◌, ◌||◌, Bool, true, false, ◌++◌, length, All, Option, Some, None, if◌then◌else◌, codes}
use Rattle.text_parts.specs.Number.{IsDigit, IsHexDigit, number_in, number_of_64_bits}
use Rattle.capl_lexer.specs.declared.token.Word.{Word}
use Rattle.capl_lexer.specs.declared.token.Sign.{Sign}
use Rattle.capl_lexer.specs.declared.token.Tok.{Tok}
use Rattle.capl_lexer.specs.declared.token.Word.TheVariants as word
use Rattle.capl_lexer.specs.declared.token.Sign.TheVariants as sign
use Rattle.capl_lexer.specs.declared.token.Tok.TheVariants as tok

-- ---- The classes of bytes that tokens are made of (CAPL manual, lexical elements).

-- a tab, a line end, a vertical tab, a form feed, a carriage return or a space
abbrev pub IsBlank : ℕ → Type 0
IsBlank byte = ((9 ≤ byte) × (byte ≤ 13)) ⊎ (byte ≡ 32)

-- a blank other than LF
abbrev pub IsBlankInLine : ℕ → Type 0
IsBlankInLine byte = IsBlank byte × (byte ≢ 10)

-- A to Z or a to z
abbrev pub IsLetter : ℕ → Type 0
IsLetter byte = ((65 ≤ byte) × (byte ≤ 90)) ⊎ ((97 ≤ byte) × (byte ≤ 122))

-- a letter or `_`
abbrev pub IsNameStart : ℕ → Type 0
IsNameStart byte = IsLetter byte ⊎ (byte ≡ 95)

-- a letter, a digit or `_`
abbrev pub IsNamePart : ℕ → Type 0
IsNamePart byte = IsNameStart byte ⊎ IsDigit byte

-- the first byte begins a name
abbrev pub IsNameFront : List ℕ → Type 0
IsNameFront [] = ⊥
IsNameFront (byte ∷ bytes) = IsNameStart byte

-- the first byte is a hexadecimal digit
abbrev pub IsHexDigitFront : List ℕ → Type 0
IsHexDigitFront [] = ⊥
IsHexDigitFront (byte ∷ bytes) = IsHexDigit byte

-- `x` or `X`
abbrev pub IsMark : ℕ → Type 0
IsMark byte = (byte ≡ 120) ⊎ (byte ≡ 88)

-- ---- How each token is spelled (CAPL manual, lexical elements: keywords, operators, constants).

-- the bytes of a reserved word
abbrev pub word_spelling : Word → List ℕ
word_spelling word.Includes = codes "includes"
word_spelling word.Variables = codes "variables"
word_spelling word.On = codes "on"
word_spelling word.This = codes "this"
word_spelling word.If = codes "if"
word_spelling word.Else = codes "else"
word_spelling word.While = codes "while"
word_spelling word.Do = codes "do"
word_spelling word.For = codes "for"
word_spelling word.Switch = codes "switch"
word_spelling word.Case = codes "case"
word_spelling word.Default = codes "default"
word_spelling word.Break = codes "break"
word_spelling word.Continue = codes "continue"
word_spelling word.Return = codes "return"
word_spelling word.Message = codes "message"
word_spelling word.Timer = codes "timer"
word_spelling word.MsTimer = codes "msTimer"
word_spelling word.Byte = codes "byte"
word_spelling word.Word = codes "word"
word_spelling word.Dword = codes "dword"
word_spelling word.Qword = codes "qword"
word_spelling word.Int = codes "int"
word_spelling word.Long = codes "long"
word_spelling word.Int64 = codes "int64"
word_spelling word.Char = codes "char"
word_spelling word.Void = codes "void"
word_spelling word.Const = codes "const"
word_spelling word.Float = codes "float"
word_spelling word.Double = codes "double"
word_spelling word.Struct = codes "struct"
word_spelling word.Enum = codes "enum"
word_spelling word.Stack = codes "stack"
word_spelling word.Testcase = codes "testcase"
word_spelling word.Testfunction = codes "testfunction"
word_spelling word.DiagRequest = codes "diagRequest"
word_spelling word.DiagResponse = codes "diagResponse"
word_spelling word.LinFrame = codes "linFrame"
word_spelling word.FrFrame = codes "frFrame"
word_spelling word.EthernetPacket = codes "ethernetPacket"

-- the bytes of a sign
abbrev pub sign_spelling : Sign → List ℕ
sign_spelling sign.OpenBrace = codes "{"
sign_spelling sign.CloseBrace = codes "}"
sign_spelling sign.OpenParen = codes "("
sign_spelling sign.CloseParen = codes ")"
sign_spelling sign.OpenBracket = codes "["
sign_spelling sign.CloseBracket = codes "]"
sign_spelling sign.Semi = codes ";"
sign_spelling sign.Comma = codes ","
sign_spelling sign.Colon = codes ":"
sign_spelling sign.Scope = codes "::"
sign_spelling sign.Question = codes "?"
sign_spelling sign.Dot = codes "."
sign_spelling sign.Dollar = codes "$"
sign_spelling sign.At = codes "@"
sign_spelling sign.Tilde = codes "~"
sign_spelling sign.Bang = codes "!"
sign_spelling sign.Assign = codes "="
sign_spelling sign.Equal = codes "=="
sign_spelling sign.NotEqual = codes "!="
sign_spelling sign.Less = codes "<"
sign_spelling sign.LessEqual = codes "<="
sign_spelling sign.Greater = codes ">"
sign_spelling sign.GreaterEqual = codes ">="
sign_spelling sign.ShiftLeft = codes "<<"
sign_spelling sign.ShiftRight = codes ">>"
sign_spelling sign.Plus = codes "+"
sign_spelling sign.Minus = codes "-"
sign_spelling sign.Star = codes "*"
sign_spelling sign.Slash = codes "/"
sign_spelling sign.Percent = codes "%"
sign_spelling sign.Amp = codes "&"
sign_spelling sign.Bar = codes "|"
sign_spelling sign.Caret = codes "^"
sign_spelling sign.AndAnd = codes "&&"
sign_spelling sign.OrOr = codes "||"
sign_spelling sign.PlusPlus = codes "++"
sign_spelling sign.MinusMinus = codes "--"
sign_spelling sign.PlusAssign = codes "+="
sign_spelling sign.MinusAssign = codes "-="
sign_spelling sign.StarAssign = codes "*="
sign_spelling sign.SlashAssign = codes "/="
sign_spelling sign.PercentAssign = codes "%="
sign_spelling sign.AmpAssign = codes "&="
sign_spelling sign.BarAssign = codes "|="
sign_spelling sign.CaretAssign = codes "^="
sign_spelling sign.ShiftLeftAssign = codes "<<="
sign_spelling sign.ShiftRightAssign = codes ">>="

-- a letter or `_`, then letters, digits and `_`, and no reserved word
pub record IsName (bytes : List ℕ) : Type 0 where
  pub start : IsNameFront bytes
  pub parts : All IsNamePart bytes
  pub not_reserved : (word : Word) → bytes ≢ word_spelling word

-- these bytes, with a mark behind them for an extended identifier
abbrev pub IsMarked : List ℕ → List ℕ → Bool → Type 0
IsMarked bytes front true = (mark : ℕ) × IsMark mark × (bytes ≡ front ++ mark ∷ [])
IsMarked bytes front false = bytes ≡ front

-- decimal digits
abbrev pub IsDecimal : List ℕ → ℕ → Bool → Type 0
IsDecimal bytes number ext =
    (digits : List ℕ) × (digits ≢ []) × All IsDigit digits × (number ≡ number_in 10 digits)
    × IsMarked bytes digits ext

-- `0x` or `0X` and hexadecimal digits
abbrev pub IsHexadecimal : List ℕ → ℕ → Bool → Type 0
IsHexadecimal bytes number ext =
    (digits : List ℕ) × (x : ℕ) × (digits ≢ []) × All IsHexDigit digits × IsMark x
    × (number ≡ number_in 16 digits) × IsMarked bytes (48 ∷ x ∷ digits) ext

-- decimal digits, a `.` and any decimal digits
abbrev pub IsFloat : List ℕ → Type 0
IsFloat bytes =
    (whole fraction : List ℕ) × (whole ≢ []) × All IsDigit whole × All IsDigit fraction
    × (bytes ≡ whole ++ 46 ∷ fraction)

-- the byte that `\` and this byte stand for together, if any: `\n`, `\r`, `\t`, `\0`, `\\`, `\"` or `\'`
abbrev pub escaped : ℕ → Option ℕ
escaped byte =
    if byte == 110 then Some 10 else (if byte == 114 then Some 13 else (if byte == 116 then Some 9 else
    (if byte == 48 then Some 0 else
    (if byte == 92 || byte == 34 || byte == 39 then Some byte else None))))

-- an escape that stands for this byte is at the front of the text, before this rest; `\x` takes two
-- hexadecimal digits where two stand, and else one
abbrev pub IsEscape : ℕ → List ℕ → List ℕ → Type 0
IsEscape value text rest =
    ((letter : ℕ) × (text ≡ 92 ∷ letter ∷ rest) × (escaped letter ≡ Some value))
    ⊎ ((digits : List ℕ) × (text ≡ 92 ∷ 120 ∷ digits ++ rest) × All IsHexDigit digits
    × (value ≡ number_in 16 digits)
    × ((length digits ≡ 2) ⊎ ((length digits ≡ 1) × (IsHexDigitFront rest → ⊥))))

-- a byte of a string that stands for itself: neither the quote nor `\` nor a line end
abbrev pub IsPlain : ℕ → Type 0
IsPlain byte = (byte ≢ 34) × (byte ≢ 92) × (byte ≢ 10)

-- a byte of a character that stands for itself: from 32 on, and neither the quote nor `\`
abbrev pub IsPlainInChar : ℕ → Type 0
IsPlainInChar byte = (32 ≤ byte) × (byte ≢ 39) × (byte ≢ 92)

-- a byte that stands for itself, or an escape, is at the front of the text, before this rest
abbrev pub IsItem : (ℕ → Type 0) → ℕ → List ℕ → List ℕ → Type 0
IsItem IsPlainByte value text rest = (IsPlainByte value × (text ≡ value ∷ rest)) ⊎ IsEscape value text rest

-- items that stand for these bytes are at the front of the text, before this rest
abbrev pub AreItems : List ℕ → List ℕ → List ℕ → Type 0
AreItems [] text rest = text ≡ rest
AreItems (value ∷ values) text rest =
    (between : List ℕ) × IsItem IsPlain value text between × AreItems values between rest

-- `'`, a byte or an escape, and `'`
abbrev pub IsChar : List ℕ → ℕ → Type 0
IsChar bytes value = (inside : List ℕ) × (bytes ≡ 39 ∷ inside) × IsItem IsPlainInChar value inside (39 ∷ [])

-- `"`, bytes and escapes, and `"`
abbrev pub IsString : List ℕ → List ℕ → Type 0
IsString bytes values = (inside : List ℕ) × (bytes ≡ 34 ∷ inside) × AreItems values inside (34 ∷ [])

-- a byte of a file's name: neither the quote nor a line end
abbrev pub IsNameByte : ℕ → Type 0
IsNameByte byte = (byte ≢ 34) × (byte ≢ 10)

-- `#include`, any blanks of one line, and a file's name between quotes
abbrev pub IsInclude : List ℕ → List ℕ → Type 0
IsInclude bytes name =
    (blanks : List ℕ) × All IsBlankInLine blanks × All IsNameByte name
    × (bytes ≡ codes "#include" ++ blanks ++ 34 ∷ name ++ 34 ∷ [])

-- `#` and at least one letter
abbrev pub IsDirective : List ℕ → Type 0
IsDirective bytes = (letters : List ℕ) × (letters ≢ []) × All IsLetter letters × (bytes ≡ 35 ∷ letters)

-- these bytes spell this token
abbrev pub Spells : List ℕ → Tok → Type 0
Spells bytes (tok.Name text) = (bytes ≡ text) × IsName bytes
Spells bytes (tok.Word word) = bytes ≡ word_spelling word
Spells bytes (tok.Sign sign) = bytes ≡ sign_spelling sign
Spells bytes (tok.Num ext value) =
    (number : ℕ) × (value ≡ number_of_64_bits number)
    × (IsDecimal bytes number ext ⊎ IsHexadecimal bytes number ext)
Spells bytes tok.Float = IsFloat bytes
Spells bytes (tok.Char value) = IsChar bytes value
Spells bytes (tok.Str text) = IsString bytes text
Spells bytes (tok.Include name) = IsInclude bytes name
Spells bytes tok.Directive = IsDirective bytes
