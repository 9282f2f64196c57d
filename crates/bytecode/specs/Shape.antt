-- The table of the instructions: how many numbers each takes and gives, where it goes, and what it names.
use Rattle.std.specs.Prelude.{ℕ, if◌then◌else◌, slice_get}
use Rattle.std.specs.Option.{option_map_or}
use Rattle.write_format.specs.Line.{numbers_taken}
use Rattle.bytecode.specs.declared.code.Code.{Code}
use Rattle.bytecode.specs.declared.code.Fun.{Fun}
use Rattle.bytecode.specs.declared.instr.Instr.{Instr}
use Rattle.bytecode.specs.declared.instr.Instr.TheVariants.{Push, Load, Store, Check, Elem, SetElem, Bytes, SetBytes, Sig, SetSig, SetField, Bin, Neg, Inv, Conv, Not, Dup, Drop, Jump, Zero, Case, Back, Turn, Call, Ret, Write, Send, Copy, Stop, Set, Cancel, Active, Now}
use Rattle.bytecode.specs.declared.shape.Flow.TheVariants as flow
use Rattle.bytecode.specs.declared.shape.Named.TheVariants.{Nothing, Number, Cell, Array, Message, Messages, Signal, Field, Operation, Format, Timer}
use Rattle.bytecode.specs.declared.shape.Shape.{Shape}

-- how many numbers a function gives to its caller: one or none
abbrev pub numbers_given : Fun → ℕ
numbers_given function = if function.gives then 1 else 0

-- how many numbers a call of a function gives
abbrev pub given_by_call : Code → ℕ → ℕ
given_by_call code f = option_map_or numbers_given (slice_get code.functions f) 0

-- how many numbers a line of a format takes
abbrev pub taken_by_line : Code → ℕ → ℕ
taken_by_line code f = option_map_or numbers_taken (slice_get code.formats f) 0

-- The table. An instruction gives its numbers where it goes to the next place, and none where it goes to a
-- target. One that looks at the top takes it, and may give it back.
abbrev pub shape_of : Code → Instr → Shape
shape_of code (Push n) = record { taken = 0; given = 1; flow = flow.Next; named = Number n }
shape_of code (Load cell) = record { taken = 0; given = 1; flow = flow.Next; named = Cell cell }
shape_of code (Store cell) = record { taken = 1; given = 1; flow = flow.Next; named = Cell cell }
shape_of code (Check len) = record { taken = 1; given = 1; flow = flow.Next; named = Nothing }
shape_of code (Elem base len) = record { taken = 1; given = 1; flow = flow.Next; named = Array base len }
shape_of code (SetElem base len) = record { taken = 2; given = 1; flow = flow.Next; named = Array base len }
shape_of code (Bytes k at) = record { taken = 1; given = 1; flow = flow.Next; named = Message at }
shape_of code (SetBytes k at) = record { taken = 2; given = 1; flow = flow.Next; named = Message at }
shape_of code (Sig l at) = record { taken = 0; given = 1; flow = flow.Next; named = Signal l at }
shape_of code (SetSig l at) = record { taken = 1; given = 1; flow = flow.Next; named = Signal l at }
shape_of code (SetField f at) = record { taken = 1; given = 1; flow = flow.Next; named = Field f at }
shape_of code (Bin op k) = record { taken = 2; given = 1; flow = flow.Next; named = Operation op }
shape_of code (Neg k) = record { taken = 1; given = 1; flow = flow.Next; named = Nothing }
shape_of code (Inv k) = record { taken = 1; given = 1; flow = flow.Next; named = Nothing }
shape_of code (Conv k) = record { taken = 1; given = 1; flow = flow.Next; named = Nothing }
shape_of code Not = record { taken = 1; given = 1; flow = flow.Next; named = Nothing }
shape_of code Dup = record { taken = 1; given = 2; flow = flow.Next; named = Nothing }
shape_of code Drop = record { taken = 1; given = 0; flow = flow.Next; named = Nothing }
shape_of code (Jump target) = record { taken = 0; given = 0; flow = flow.Jump target; named = Nothing }
shape_of code (Zero target) = record { taken = 1; given = 0; flow = flow.Branch target; named = Nothing }
shape_of code (Case target label) =
    record { taken = 1; given = 1; flow = flow.Branch target; named = Number label }
shape_of code (Back target) = record { taken = 1; given = 0; flow = flow.Loop target; named = Nothing }
shape_of code Turn = record { taken = 0; given = 0; flow = flow.Next; named = Nothing }
shape_of code (Call f) =
    record { taken = 0; given = given_by_call code f; flow = flow.Call f; named = Nothing }
shape_of code Ret = record { taken = 0; given = 0; flow = flow.Return; named = Nothing }
shape_of code (Write f) =
    record { taken = taken_by_line code f; given = 0; flow = flow.Next; named = Format f }
shape_of code (Send at) = record { taken = 0; given = 0; flow = flow.Next; named = Message at }
shape_of code (Copy to from) = record { taken = 0; given = 0; flow = flow.Next; named = Messages to from }
shape_of code Stop = record { taken = 0; given = 0; flow = flow.Next; named = Nothing }
shape_of code (Set timer cyclic) = record { taken = 1; given = 0; flow = flow.Next; named = Timer timer }
shape_of code (Cancel timer) = record { taken = 0; given = 0; flow = flow.Next; named = Timer timer }
shape_of code (Active timer) = record { taken = 0; given = 1; flow = flow.Next; named = Timer timer }
shape_of code Now = record { taken = 0; given = 1; flow = flow.Next; named = Nothing }
