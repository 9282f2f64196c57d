-- The reserved words by their first bytes.
use Rattle.std.specs.Prelude.{◌==◌, ℕ, List, [], ◌∷◌, if◌then◌else◌}
use Rattle.capl_lexer.specs.declared.token.Word.{Word}
use Rattle.capl_lexer.specs.declared.token.Word.TheVariants as word

-- the reserved words that begin with a byte
abbrev pub words_with : ℕ → List Word
words_with first =
    if first == 98 then word.Break ∷ word.Byte ∷ []
    else (if first == 99 then word.Case ∷ word.Char ∷ word.Const ∷ word.Continue ∷ []
    else (if first == 100 then word.Do ∷ word.Double ∷ word.Dword ∷ word.Default ∷
    word.DiagRequest ∷ word.DiagResponse ∷ []
    else (if first == 101 then word.Else ∷ word.Enum ∷ word.EthernetPacket ∷ []
    else (if first == 102 then word.For ∷ word.Float ∷ word.FrFrame ∷ []
    else (if first == 105 then word.If ∷ word.Int ∷ word.Int64 ∷ word.Includes ∷ []
    else (if first == 108 then word.Long ∷ word.LinFrame ∷ []
    else (if first == 109 then word.Message ∷ word.MsTimer ∷ []
    else (if first == 111 then word.On ∷ []
    else (if first == 113 then word.Qword ∷ []
    else (if first == 114 then word.Return ∷ []
    else (if first == 115 then word.Switch ∷ word.Struct ∷ word.Stack ∷ []
    else (if first == 116 then word.This ∷ word.Timer ∷ word.Testcase ∷ word.Testfunction ∷ []
    else (if first == 118 then word.Void ∷ word.Variables ∷ []
    else (if first == 119 then word.Word ∷ word.While ∷ [] else []))))))))))))))

-- the reserved words that begin with the first of these bytes
abbrev pub words_beginning_as : List ℕ → List Word
words_beginning_as [] = []
words_beginning_as (first ∷ rest) = words_with first
