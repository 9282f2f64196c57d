-- Object texts.
use Rattle.std.specs.Prelude.{◌≡◌, ℕ, ◌<◌, ◌^◌, List, ◌++◌, length, All, codes}
use Rattle.std.specs.Int.{w128}
use Rattle.std.specs.Int.RustNames.{FitsSigned}
use Rattle.write_format.specs.Line.{FormatText, IsFormatOf, IsShort, IsShortArgument}
use Rattle.bytecode.specs.declared.code.Code.{Code}
use Rattle.bytecode.specs.Verified.{IsShortCode}
use Rattle.object_file.specs.Number.{dword, list, qword}
use Rattle.object_file.specs.Table.{format_text, function_text, handler_text, kind_text, start_text}
use Rattle.object_file.specs.Instruction.{IsInRange, instruction_text}

-- the text of code: eight letters, its lists, and a list of nothing
abbrev pub code_text : Code → List ℕ
code_text code =
    codes "CAPLOBJ1"
    ++ list kind_text code.cells
    ++ list start_text code.starts
    ++ list qword code.timers
    ++ list format_text code.formats
    ++ list function_text code.functions
    ++ list handler_text code.handlers
    ++ list instruction_text code.instrs
    ++ list dword code.depths
    ++ dword 0

-- a format is that of its text and its arguments, and none of these is too long
pub record IsKept (format : FormatText) : Type 0 where
  pub read : IsFormatOf format.text format.arguments format
  pub short : IsShort format
  pub text : length format.text < 2 ^ 32
  pub arguments : length format.arguments < 2 ^ 32
  pub argument_texts : All IsShortArgument format.arguments

-- the lists and the numbers of code are none too great, and its formats are kept
pub record IsStorable (code : Code) : Type 0 where
  pub short : IsShortCode code
  pub starts : All (λ start. FitsSigned w128 start.1) code.starts
  pub formats : All IsKept code.formats
  pub instrs : All IsInRange code.instrs

-- the bytes are the text of code
pub record IsTextOf (code : Code) (bytes : List ℕ) : Type 0 where
  pub storable : IsStorable code
  pub spelled : bytes ≡ code_text code

-- the code has no text
abbrev pub HasNoText : Code → Type 0
HasNoText code = (bytes : List ℕ) → IsTextOf code bytes → ⊥

-- no code has this text
abbrev pub HasNoCode : List ℕ → Type 0
HasNoCode bytes = (code : Code) → IsTextOf code bytes → ⊥
