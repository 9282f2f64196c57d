-- The records of the tables at the front of bytes.
use Rattle.std.specs.Prelude.{ℕ, ◌<◌, ◌^◌, ◌==◌, ◌&&◌, Bool, List, length, Option, Some, None, if◌then◌else◌}
use Rattle.std.specs.Option.{is_none, option_and_then}
use Rattle.int_kinds.specs.declared.kinds.Kind.{Kind}
use Rattle.int_kinds.specs.declared.kinds.Kind.TheVariants.{Byte, Word, Dword, Qword, Int, Long, Int64, Char}
use Rattle.run_effects.specs.declared.event.Event.{Event}
use Rattle.run_effects.specs.declared.event.Event.TheVariants as event
use Rattle.run_effects.specs.declared.event.Selector.{Selector}
use Rattle.run_effects.specs.Effect.{selectors_of}
use Rattle.write_format.specs.declared.argument.ArgKind.{ArgKind}
use Rattle.write_format.specs.declared.argument.ArgKind.TheVariants as argument
use Rattle.write_format.specs.declared.piece.Piece.{Piece}
use Rattle.write_format.specs.Line.{FormatText, format_elements}
use Rattle.write_format.specs.Reading.{codes_of, first_unfit, pieces_of}
use Rattle.bytecode.specs.declared.code.Fun.{Fun}
use Rattle.bytecode.specs.declared.code.Handler.{Handler}
use Rattle.object_file.specs.Inside.Reading.{Reader, byte_at, dword_at, list_at, made_at, pair_at, tagged_at, text_at, tried_at, truth_at}

-- the kind of a number
abbrev pub kind_of : ℕ → Option Kind
kind_of n =
    if n == 0 then Some Byte else (if n == 1 then Some Word else (if n == 2 then Some Dword
    else (if n == 3 then Some Qword else (if n == 4 then Some Int else (if n == 5 then Some Long
    else (if n == 6 then Some Int64 else (if n == 7 then Some Char else None)))))))

-- a kind
abbrev pub kind_at : Reader Kind
kind_at = tried_at kind_of byte_at

-- an argument behind its tag
abbrev pub argument_behind : ℕ → Reader ArgKind
argument_behind tag bytes =
    if tag == 0 then made_at argument.Number kind_at bytes
    else (if tag == 1 then made_at (λ array. argument.Chars array.0 array.1) (pair_at dword_at dword_at) bytes
    else (if tag == 2 then made_at argument.Str text_at bytes else None))

-- an argument
abbrev pub argument_at : Reader ArgKind
argument_at = tagged_at argument_behind

-- the format of pieces and arguments, if they fit
abbrev pub format_by : List ℕ → List ArgKind → List Piece → Option FormatText
format_by text arguments pieces =
    if (length (codes_of pieces) == length arguments) && is_none (first_unfit (codes_of pieces) arguments)
    then Some (record { text = text; arguments = arguments; elements = format_elements pieces arguments })
    else None

-- the format of a text and arguments, if there is one
abbrev pub format_of : List ℕ → List ArgKind → Option FormatText
format_of text arguments = option_and_then (format_by text arguments) (pieces_of text)

-- a format
abbrev pub format_at : Reader FormatText
format_at = tried_at (λ parts. format_of parts.0 parts.1) (pair_at text_at (list_at argument_at))

-- the function of its parts
abbrev pub function_of : ℕ × (ℕ × Bool) → Fun
function_of parts = record { start = parts.0; end = (parts.1).0; gives = (parts.1).1 }

-- a function
abbrev pub function_at : Reader Fun
function_at = made_at function_of (pair_at dword_at (pair_at dword_at truth_at))

-- the selector of its parts
abbrev pub selector_of : ℕ × (ℕ × ℕ) → Selector
selector_of parts = record { rank = parts.0; low = (parts.1).0; high = (parts.1).1 }

-- a selector
abbrev pub selector_at : Reader Selector
selector_at = made_at selector_of (pair_at byte_at (pair_at dword_at dword_at))

-- a key behind its tag
abbrev pub key_behind : ℕ → Reader (Option ℕ)
key_behind tag bytes =
    if tag == 0 then Some (None, bytes) else (if tag == 1 then made_at Some byte_at bytes else None)

-- a key
abbrev pub key_at : Reader (Option ℕ)
key_at = tagged_at key_behind

-- an event behind its tag
abbrev pub event_behind : ℕ → Reader Event
event_behind tag bytes =
    if tag == 0 then Some (event.PreStart, bytes) else (if tag == 1 then Some (event.Start, bytes)
    else (if tag == 2 then Some (event.Stop, bytes)
    else (if tag == 3 then made_at event.Message (list_at selector_at) bytes
    else (if tag == 4 then made_at event.Timer dword_at bytes
    else (if tag == 5 then made_at event.Key key_at bytes else None)))))

-- an event
abbrev pub event_at : Reader Event
event_at = tagged_at event_behind

-- an event has fewer than 2^32 selectors
abbrev pub IsShortEvent : Event → Type 0
IsShortEvent event = length (selectors_of event) < 2 ^ 32

-- the event procedure of its parts
abbrev pub handler_of : Event × (ℕ × (ℕ × ℕ)) → Handler
handler_of parts = record {
  event = parts.0;
  function = (parts.1).0;
  file = ((parts.1).1).0;
  line = ((parts.1).1).1;
}

-- an event procedure
abbrev pub handler_at : Reader Handler
handler_at = made_at handler_of (pair_at event_at (pair_at dword_at (pair_at dword_at dword_at)))
