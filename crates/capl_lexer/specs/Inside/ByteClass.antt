-- Runs of bytes of one class.
use Rattle.std.specs.Prelude.{◌≡◌, ◌≤◌, ℕ, List, [], ◌∷◌, length, take, drop, All}
use Rattle.text_parts.specs.Number.{IsDigit, IsHexDigit}
use Rattle.capl_lexer.specs.Spelling.{IsBlank, IsBlankInLine, IsLetter, IsNameStart, IsNamePart, IsMark, IsPlain, IsPlainInChar, IsNameByte}
use Rattle.capl_lexer.specs.declared.byte_class.ByteClass.{ByteClass}
use Rattle.capl_lexer.specs.declared.byte_class.ByteClass.TheVariants as class

-- the byte is of the class
abbrev pub IsInClass : ByteClass → ℕ → Type 0
IsInClass class.Blank byte = IsBlank byte
IsInClass class.BlankInLine byte = IsBlankInLine byte
IsInClass class.NameStart byte = IsNameStart byte
IsInClass class.NamePart byte = IsNamePart byte
IsInClass class.Letter byte = IsLetter byte
IsInClass class.Digit byte = IsDigit byte
IsInClass class.HexDigit byte = IsHexDigit byte
IsInClass class.Mark byte = IsMark byte
IsInClass class.Point byte = byte ≡ 46
IsInClass class.Plain byte = IsPlain byte
IsInClass class.PlainInChar byte = IsPlainInChar byte
IsInClass class.NameByte byte = IsNameByte byte
IsInClass class.Quote byte = byte ≡ 34
IsInClass class.Apostrophe byte = byte ≡ 39

-- the text has a first byte, and it is of the class
abbrev pub IsFirstInClass : ByteClass → List ℕ → Type 0
IsFirstInClass class [] = ⊥
IsFirstInClass class (byte ∷ bytes) = IsInClass class byte

-- so many bytes at the front of the text are of the class, and the next one, if any, is not
pub record IsRun (class : ByteClass) (text : List ℕ) (count : ℕ) : Type 0 where
  pub within : count ≤ length text
  pub inside : All (IsInClass class) (take count text)
  pub ends : IsFirstInClass class (drop count text) → ⊥
