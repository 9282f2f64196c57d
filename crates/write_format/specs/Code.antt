-- Codes of formats: `%`, flags, a width and the letters of a conversion, as in C (ISO/IEC 9899, fprintf),
-- of which CAPL's `write` has these (CAPL manual, write).
use Rattle.std.specs.Prelude.{◌≡◌, ◌≢◌, ◌≤◌, ℕ, ◌==◌, List, ◌∷◌, ◌++◌, ◌⊎◌, All, slice_index, codes}
use Rattle.std.specs.List.{list_any}
use Rattle.int_kinds.specs.declared.kinds.Kind.TheVariants.{Dword, Qword, Long, Int64}
use Rattle.text_parts.specs.Number.{IsDigit, number_in}
use Rattle.write_format.specs.declared.code.Code as declared
use Rattle.write_format.specs.declared.code.Conversion.{Conversion}
use Rattle.write_format.specs.declared.code.Conversion.TheVariants.{Number, Character, Text}
use Rattle.write_format.specs.declared.code.Digits.TheVariants.{Decimal, LowerHexadecimal, UpperHexadecimal, Octal}
use Rattle.write_format.specs.declared.code.Field.{Field}

-- a flag: `-` or `0`
abbrev pub IsFlag : ℕ → Type 0
IsFlag byte = (byte ≡ 45) ⊎ (byte ≡ 48)

-- the digits of a width up to 32, without a zero before them, or nothing for the width 0
pub record IsWidth (numeral : List ℕ) (width : ℕ) : Type 0 where
  pub decimal : All IsDigit numeral
  pub no_zero : slice_index numeral 0 ≢ 48
  pub is : width ≡ number_in 10 numeral
  pub most : width ≤ 32

-- flags in any order, each any number of times, and a width
pub record SpellsField (bytes : List ℕ) (field : Field) : Type 0 where
  pub flags : List ℕ
  pub numeral : List ℕ
  pub spelled : bytes ≡ flags ++ numeral
  pub are_flags : All IsFlag flags
  pub left : field.left ≡ list_any (λ byte. byte == 45) flags
  pub zeros : field.zeros ≡ list_any (λ byte. byte == 48) flags
  pub is_width : IsWidth numeral field.width

-- the letters of each conversion
pub data SpellsConversion : List ℕ → Conversion → Type 0 where
  letter_d : SpellsConversion (codes "d") (Number Long Decimal)
  letters_ld : SpellsConversion (codes "ld") (Number Long Decimal)
  letter_u : SpellsConversion (codes "u") (Number Dword Decimal)
  letters_lu : SpellsConversion (codes "lu") (Number Dword Decimal)
  letter_x : SpellsConversion (codes "x") (Number Dword LowerHexadecimal)
  letters_lx : SpellsConversion (codes "lx") (Number Dword LowerHexadecimal)
  upper_x : SpellsConversion (codes "X") (Number Dword UpperHexadecimal)
  long_upper_x : SpellsConversion (codes "lX") (Number Dword UpperHexadecimal)
  letter_o : SpellsConversion (codes "o") (Number Dword Octal)
  letters_lo : SpellsConversion (codes "lo") (Number Dword Octal)
  wide_d : SpellsConversion (codes "I64d") (Number Int64 Decimal)
  wide_u : SpellsConversion (codes "I64u") (Number Qword Decimal)
  wide_x : SpellsConversion (codes "I64x") (Number Qword LowerHexadecimal)
  letter_c : SpellsConversion (codes "c") Character
  letter_s : SpellsConversion (codes "s") Text

-- `%`, flags and width, and letters
pub record SpellsCode (bytes : List ℕ) (code : declared.Code) : Type 0 where
  pub middle : List ℕ
  pub letters : List ℕ
  pub spelled : bytes ≡ 37 ∷ (middle ++ letters)
  pub is_field : SpellsField middle code.field
  pub is_conversion : SpellsConversion letters code.conversion
