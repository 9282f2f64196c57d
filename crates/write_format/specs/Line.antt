-- Formats of `write`, and the lines that they make of numbers and arrays (CAPL manual, write; ISO/IEC 9899,
-- fprintf, for the codes that it has).
use Rattle.std.specs.Prelude.{ℕ, List, ◌≡◌, ◌+◌, ◌≤◌, length, take, drop, All, ℤ, pos, ◌≤ℤ◌, ◌-◌, ◌==◌, true, false, not, ◌&&◌, [], ◌∷◌, ◌++◌, replicate, map, slice_index_or, negsuc, unsigned_abs, if◌then◌else◌, decimal, codes, ◌<◌, ◌^◌, Bool, ⊤, Option, Some, None, count_by}
use Rattle.int_kinds.specs.declared.kinds.Kind.{Kind}
use Rattle.write_format.specs.declared.code.Digits.{Digits}
use Rattle.write_format.specs.declared.code.Field.{Field}
use Rattle.int_kinds.specs.declared.kinds.Kind.TheVariants.{Char}
use Rattle.std.specs.Fmt.{digits}
use Rattle.std.specs.List.{before_first, filter_map}
use Rattle.int_kinds.specs.Arithmetic.{residue}
use Rattle.int_kinds.specs.Kind.{wrap}
use Rattle.write_format.specs.declared.code.Digits.TheVariants.{Decimal, LowerHexadecimal, UpperHexadecimal, Octal}
use Rattle.write_format.specs.declared.argument.ArgKind.{ArgKind}
use Rattle.write_format.specs.declared.code.Conversion.{Conversion}
use Rattle.write_format.specs.declared.piece.Piece.{Piece}
use Rattle.write_format.specs.Reading.{AreMatched, codes_of, first_unfit}
use Rattle.int_kinds.specs.declared.kinds.Kind.TheVariants as kind
use Rattle.write_format.specs.declared.argument.ArgKind.TheVariants as argument
use Rattle.write_format.specs.declared.code.Conversion.TheVariants as conversion
use Rattle.write_format.specs.declared.piece.Piece.TheVariants as piece

-- ---- Parts of lines.

-- a part of a line: a byte; a number of a kind, in digits; the byte of a number; the text in an array, given
-- by its first cell and its length; a text
pub data Element : Type 0 where
  Byte : ℕ → Element
  Number : Field → Kind → Digits → Element
  Character : Field → Element
  Chars : Field → ℕ → ℕ → Element
  Str : Field → List ℕ → Element

-- ---- Arrays of characters among numbered cells.

-- so many neighbouring cells, from this one on
abbrev pub cells_of : {A : Type 0} → ℕ → ℕ → List A → List A
cells_of base len cells = take len (drop base cells)

-- an array, given by its first cell and its length, is there and has the kind char throughout
pub record IsCharArray (kinds : List Kind) (array : ℕ × ℕ) : Type 0 where
  pub there : array.0 + array.1 ≤ length kinds
  pub characters : All (λ kind. kind ≡ Char) (cells_of array.0 array.1 kinds)

-- an array is there and holds a byte in each cell
pub record HoldsBytes (cells : List ℤ) (array : ℕ × ℕ) : Type 0 where
  pub there : array.0 + array.1 ≤ length cells
  pub bytes : All (λ n. (pos 0 ≤ℤ n) × (n ≤ℤ pos 255)) (cells_of array.0 array.1 cells)

-- ---- The lines that formats make (ISO/IEC 9899, fprintf, for the codes that CAPL's `write` has).

-- the digits of a number
abbrev pub digits_of : Digits → ℕ → List ℕ
digits_of Decimal n = decimal n
digits_of LowerHexadecimal n = digits 16 false n
digits_of UpperHexadecimal n = digits 16 true n
digits_of Octal n = digits 8 false n

-- `-` before a number below 0, and nothing before others
abbrev pub sign_of : ℤ → List ℕ
sign_of (pos n) = []
sign_of (negsuc n) = codes "-"

-- so many of a byte as a text lacks of the width
abbrev pub filling : Field → ℕ → List ℕ → List ℕ
filling field byte text = replicate (field.width - length text) byte

-- a text, filled up to the width with blanks: on its left, or on its right
abbrev pub filled : Field → List ℕ → List ℕ
filled field text = if field.left then text ++ filling field 32 text else filling field 32 text ++ text

-- sign and digits, filled with zeros after the sign where the field says so and does not put them to the left
abbrev pub filled_number : Field → List ℕ → List ℕ → List ℕ
filled_number field sign numeral =
    if field.zeros && not field.left
    then sign ++ filling field 48 (sign ++ numeral) ++ numeral
    else filled field (sign ++ numeral)

-- a number of the kind, in digits
abbrev pub number_text : Field → Kind → Digits → ℤ → List ℕ
number_text field kind digits n =
    filled_number field (sign_of (wrap kind n)) (digits_of digits (unsigned_abs (wrap kind n)))

-- the byte of a number: its value modulo 256
abbrev pub character_of : ℤ → List ℕ
character_of n = residue kind.Byte n ∷ []

-- the bytes before the first 0
abbrev pub before_zero : List ℕ → List ℕ
before_zero bytes = before_first (λ byte. byte == 0) bytes

-- the text in cells: their bytes before the first 0
abbrev pub text_in : List ℤ → List ℕ
text_in cells = before_zero (map unsigned_abs cells)

-- the first number, where there is one
abbrev pub first_argument : List ℤ → ℤ
first_argument numbers = slice_index_or numbers 0 (pos 0)

-- what the parts of a line show, each that shows a number with the next one
abbrev pub line_of : List Element → List ℤ → List ℤ → List ℕ
line_of [] numbers cells = []
line_of (Byte byte ∷ elements) numbers cells = byte ∷ line_of elements numbers cells
line_of (Number field kind digits ∷ elements) numbers cells =
    number_text field kind digits (first_argument numbers) ++ line_of elements (drop 1 numbers) cells
line_of (Character field ∷ elements) numbers cells =
    filled field (character_of (first_argument numbers)) ++ line_of elements (drop 1 numbers) cells
line_of (Chars field base len ∷ elements) numbers cells =
    filled field (text_in (cells_of base len cells)) ++ line_of elements numbers cells
line_of (Str field text ∷ elements) numbers cells = filled field text ++ line_of elements numbers cells

-- ---- Formats of `write` (CAPL manual, write).

-- a format as contracts see it: the text and the arguments that it was read from, and the parts of its line,
-- in order
pub record FormatText : Type 0 where
  pub text : List ℕ
  pub arguments : List ArgKind
  pub elements : List Element

-- a code with an argument that it shows
abbrev pub element_of : Field → Conversion → ArgKind → List Element
element_of field (conversion.Number kind digits) (argument.Number given) = Number field kind digits ∷ []
element_of field conversion.Character (argument.Number given) = Character field ∷ []
element_of field conversion.Text (argument.Chars base len) = Chars field base len ∷ []
element_of field conversion.Text (argument.Str text) = Str field (before_zero text) ∷ []
element_of field _ _ = []

-- the pieces of a format, each code with the next argument
abbrev pub format_elements : List Piece → List ArgKind → List Element
format_elements [] arguments = []
format_elements (piece.Byte byte ∷ pieces) arguments = Byte byte ∷ format_elements pieces arguments
format_elements (piece.Argument code ∷ pieces) [] = format_elements pieces []
format_elements (piece.Argument code ∷ pieces) (argument ∷ arguments) =
    element_of code.field code.conversion argument ++ format_elements pieces arguments

-- the format of a text and its arguments, each of which its code shows
pub record IsFormatOf (text : List ℕ) (arguments : List ArgKind) (format : FormatText) : Type 0 where
  pub pieces : List Piece
  pub matched : AreMatched text arguments pieces
  pub fit : first_unfit (codes_of pieces) arguments ≡ None
  pub text_is : format.text ≡ text
  pub arguments_are : format.arguments ≡ arguments
  pub elements : format.elements ≡ format_elements pieces arguments

-- whether a part shows a number
abbrev pub takes_number : Element → Bool
takes_number (Number field kind digits) = true
takes_number (Character field) = true
takes_number _ = false

-- how many numbers a line of this format takes
abbrev pub numbers_taken : FormatText → ℕ
numbers_taken format = count_by takes_number format.elements

-- the array that a part reads
abbrev pub array_of : Element → Option (ℕ × ℕ)
array_of (Chars field base len) = Some (base, len)
array_of _ = None

-- the arrays of characters that a line of this format reads, each as its first cell and its length
abbrev pub char_arrays : FormatText → List (ℕ × ℕ)
char_arrays format = filter_map array_of format.elements

-- the line of a format with these numbers, where the arrays stand in these cells
abbrev pub rendered : FormatText → List ℤ → List ℤ → List ℕ
rendered format numbers cells = line_of format.elements numbers cells

-- a text in a format has fewer than 2^32 bytes
abbrev pub IsShortElement : Element → Type 0
IsShortElement (Str field text) = length text < 2 ^ 32
IsShortElement _ = ⊤

-- a format has fewer than 2^32 parts, and so have its texts
pub record IsShort (format : FormatText) : Type 0 where
  pub few : length format.elements < 2 ^ 32
  pub texts : All IsShortElement format.elements

-- a text that is an argument has fewer than 2^32 bytes
abbrev pub IsShortArgument : ArgKind → Type 0
IsShortArgument (argument.Str text) = length text < 2 ^ 32
IsShortArgument _ = ⊤
