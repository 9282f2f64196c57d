-- The base in which a number is written.
use Rattle.std.specs.Prelude.{◌≡◌, ℕ, List, ◌∷◌}
use Rattle.text_parts.specs.Number.{IsHexDigit}
use Rattle.capl_lexer.specs.Spelling.{IsMark}
use Rattle.capl_lexer.specs.declared.base.Base.{Base}
use Rattle.capl_lexer.specs.declared.base.Base.TheVariants.{Ten, Sixteen}
use Rattle.capl_lexer.specs.declared.byte_class.ByteClass.{ByteClass}
use Rattle.capl_lexer.specs.declared.byte_class.ByteClass.TheVariants as class

-- the text begins with `0x` or `0X` and a hexadecimal digit
abbrev pub IsHexadecimalFront : List ℕ → Type 0
IsHexadecimalFront (zero_digit ∷ x ∷ digit ∷ bytes) = (zero_digit ≡ 48) × IsMark x × IsHexDigit digit
IsHexadecimalFront _ = ⊥

-- the base of the number at the front of a text that begins with a digit
abbrev pub IsBaseOf : List ℕ → Base → Type 0
IsBaseOf text Ten = IsHexadecimalFront text → ⊥
IsBaseOf text Sixteen = IsHexadecimalFront text

-- the base as a number
abbrev pub radix_of : Base → ℕ
radix_of Ten = 10
radix_of Sixteen = 16

-- how many bytes stand before the digits
abbrev pub prefix_of : Base → ℕ
prefix_of Ten = 0
prefix_of Sixteen = 2

-- the digits of the base
abbrev pub digits_of : Base → ByteClass
digits_of Ten = class.Digit
digits_of Sixteen = class.HexDigit
