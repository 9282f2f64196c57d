-- Whether bytes are a name, by tests that compute.
use Rattle.std.specs.Prelude.{ℕ, Bool, true, false, not, List, [], ◌∷◌, ◌==◌, ◌&&◌, ◌||◌, nat_le}
use Rattle.std.specs.List.{list_all, list_any}
use Rattle.std.specs.Str.{bytes_eq}
use Rattle.text_parts.specs.Number.{is_digit}
use Rattle.capl_lexer.specs.Spelling.{word_spelling}
use Rattle.capl_lexer.specs.declared.token.Word.{Word}
use Rattle.capl_lexer.specs.declared.token.Word.TheVariants as word

-- whether the byte is one of A to Z, a to z or `_`
abbrev pub is_name_start : ℕ → Bool
is_name_start byte = nat_le 65 byte && nat_le byte 90 || nat_le 97 byte && nat_le byte 122 || byte == 95

-- whether the byte is a letter, a digit or `_`
abbrev pub is_name_part : ℕ → Bool
is_name_part byte = is_name_start byte || is_digit byte

-- the reserved words
abbrev pub reserved_words : List Word
reserved_words =
    word.Includes ∷ word.Variables ∷ word.On ∷ word.This ∷ word.If ∷ word.Else ∷ word.While ∷
    word.Do ∷ word.For ∷ word.Switch ∷ word.Case ∷ word.Default ∷ word.Break ∷ word.Continue ∷
    word.Return ∷ word.Message ∷ word.Timer ∷ word.MsTimer ∷ word.Byte ∷ word.Word ∷ word.Dword ∷
    word.Qword ∷ word.Int ∷ word.Long ∷ word.Int64 ∷ word.Char ∷ word.Void ∷ word.Const ∷
    word.Float ∷ word.Double ∷ word.Struct ∷ word.Enum ∷ word.Stack ∷ word.Testcase ∷
    word.Testfunction ∷ word.DiagRequest ∷ word.DiagResponse ∷ word.LinFrame ∷ word.FrFrame ∷
    word.EthernetPacket ∷ []

-- whether the bytes spell a reserved word
abbrev pub is_reserved : List ℕ → Bool
is_reserved bytes = list_any (λ word. bytes_eq bytes (word_spelling word)) reserved_words

-- whether the bytes are a letter or `_`, then letters, digits and `_`, and no reserved word
abbrev pub is_name : List ℕ → Bool
is_name [] = false
is_name (byte ∷ bytes) =
    is_name_start byte && list_all is_name_part (byte ∷ bytes) && not (is_reserved (byte ∷ bytes))
