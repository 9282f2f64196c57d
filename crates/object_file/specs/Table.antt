-- The records of the tables of code as bytes.
use Rattle.std.specs.Prelude.{ℕ, List, ◌++◌, Option, Some, None, ℤ}
use Rattle.int_kinds.specs.declared.kinds.Kind.{Kind}
use Rattle.int_kinds.specs.declared.kinds.Kind.TheVariants.{Byte, Word, Dword, Qword, Int, Long, Int64, Char}
use Rattle.run_effects.specs.declared.event.Event.{Event}
use Rattle.run_effects.specs.declared.event.Event.TheVariants.{PreStart, Start, Stop, Message, Timer, Key}
use Rattle.run_effects.specs.declared.event.Selector.{Selector}
use Rattle.write_format.specs.declared.argument.ArgKind.{ArgKind}
use Rattle.write_format.specs.declared.argument.ArgKind.TheVariants.{Number, Chars, Str}
use Rattle.write_format.specs.Line.{FormatText}
use Rattle.bytecode.specs.declared.code.Fun.{Fun}
use Rattle.bytecode.specs.declared.code.Handler.{Handler}
use Rattle.object_file.specs.Number.{byte, dword, integer, list, text, truth}

-- the number of a kind
abbrev pub kind_number : Kind → ℕ
kind_number Byte = 0
kind_number Word = 1
kind_number Dword = 2
kind_number Qword = 3
kind_number Int = 4
kind_number Long = 5
kind_number Int64 = 6
kind_number Char = 7

-- a kind
abbrev pub kind_text : Kind → List ℕ
kind_text kind = byte (kind_number kind)

-- a cell with its initial value
abbrev pub start_text : ℕ × ℤ → List ℕ
start_text start = dword start.0 ++ integer start.1

-- what is known of an argument of `write`
abbrev pub argument_text : ArgKind → List ℕ
argument_text (Number kind) = byte 0 ++ kind_text kind
argument_text (Chars base len) = byte 1 ++ dword base ++ dword len
argument_text (Str bytes) = byte 2 ++ text bytes

-- a format: the text and the arguments that it was read from
abbrev pub format_text : FormatText → List ℕ
format_text format = text format.text ++ list argument_text format.arguments

-- a function
abbrev pub function_text : Fun → List ℕ
function_text function = dword function.start ++ dword function.end ++ truth function.gives

-- a selector of frames
abbrev pub selector_text : Selector → List ℕ
selector_text selector = byte selector.rank ++ dword selector.low ++ dword selector.high

-- a key, or any that has no procedure
abbrev pub key_text : Option ℕ → List ℕ
key_text None = byte 0
key_text (Some key) = byte 1 ++ byte key

-- what an event procedure reacts to
abbrev pub event_text : Event → List ℕ
event_text PreStart = byte 0
event_text Start = byte 1
event_text Stop = byte 2
event_text (Message selectors) = byte 3 ++ list selector_text selectors
event_text (Timer timer) = byte 4 ++ dword timer
event_text (Key key) = byte 5 ++ key_text key

-- an event procedure
abbrev pub handler_text : Handler → List ℕ
handler_text handler =
    event_text handler.event ++ dword handler.function ++ dword handler.file ++ dword handler.line
