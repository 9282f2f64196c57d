-- Instructions at the front of bytes.
use Rattle.std.specs.Prelude.{ℕ, ◌==◌, nat_le, Bool, List, [], ◌∷◌, slice_get, ℤ, Option, Some, None, if◌then◌else◌}
use Rattle.std.specs.Option.{option_and_then, option_map}
use Rattle.int_kinds.specs.declared.kinds.Kind.{Kind}
use Rattle.int_kinds.specs.declared.operators.BinOp.{BinOp}
use Rattle.int_kinds.specs.declared.operators.BinOp.TheVariants as op
use Rattle.signal_codec.specs.declared.layout.Layout.{Layout}
use Rattle.bytecode.specs.declared.instr.Instr.{Instr}
use Rattle.bytecode.specs.declared.instr.Instr.TheVariants.{Push, Load, Store, Check, Elem, SetElem, Bytes, SetBytes, Sig, SetSig, SetField, Bin, Neg, Inv, Conv, Not, Dup, Drop, Jump, Zero, Case, Back, Turn, Call, Ret, Write, Send, Copy, Stop, Set, Cancel, Active, Now}
use Rattle.object_file.specs.declared.operand.Operands.{Operands}
use Rattle.object_file.specs.declared.operand.Operands.TheVariants as operands
use Rattle.object_file.specs.declared.operand.Pair.{Pair}
use Rattle.object_file.specs.declared.operand.Pair.TheVariants as pair
use Rattle.object_file.specs.Inside.Reading.{Reader, byte_at, dword_at, integer_at, made_at, pair_at, tagged_at, tried_at, truth_at, word_at}
use Rattle.object_file.specs.Inside.Tables.{kind_at}

-- the operator of a number
abbrev pub operator_of : ℕ → Option BinOp
operator_of n =
    slice_get (op.OrElse ∷ op.AndAlso ∷ op.Or ∷ op.Xor ∷ op.And ∷ op.Equal ∷ op.NotEqual ∷ op.Less ∷
    op.LessEqual ∷ op.Greater ∷ op.GreaterEqual ∷ op.Shl ∷ op.Shr ∷ op.Add ∷ op.Sub ∷ op.Mul ∷ op.Div ∷
    op.Rem ∷ []) n

-- an operator
abbrev pub operator_at : Reader BinOp
operator_at = tried_at operator_of byte_at

-- the layout of its parts
abbrev pub layout_of : ℕ × (ℕ × (Bool × Bool)) → Layout
layout_of parts = record {
  start = parts.0;
  len = (parts.1).0;
  big = ((parts.1).1).0;
  signed = ((parts.1).1).1;
}

-- where a signal lies
abbrev pub layout_at : Reader Layout
layout_at = made_at layout_of (pair_at word_at (pair_at word_at (pair_at truth_at truth_at)))

-- what stands behind the numbers of instructions, from 0 on
abbrev pub all_operands : List Operands
all_operands =
    operands.Number ∷ operands.Place ∷ operands.Place ∷ operands.Place ∷
    operands.Two pair.Places ∷ operands.Two pair.Places ∷ operands.Two pair.KindAndPlace ∷
    operands.Two pair.KindAndPlace ∷ operands.Two pair.LayoutAndPlace ∷
    operands.Two pair.LayoutAndPlace ∷ operands.Two pair.FieldAndPlace ∷ operands.Two pair.Operation ∷
    operands.Kind ∷ operands.Kind ∷ operands.Kind ∷ operands.Nothing ∷ operands.Nothing ∷
    operands.Nothing ∷ operands.Place ∷ operands.Place ∷ operands.Two pair.NumberAndPlace ∷
    operands.Place ∷ operands.Nothing ∷ operands.Place ∷ operands.Nothing ∷ operands.Place ∷
    operands.Place ∷ operands.Two pair.Places ∷ operands.Nothing ∷ operands.Two pair.PlaceAndTruth ∷
    operands.Place ∷ operands.Place ∷ operands.Nothing ∷ []

-- what stands behind the number of an instruction
abbrev pub operands_of : ℕ → Option Operands
operands_of n = slice_get all_operands n

-- the instruction of a number that holds nothing
abbrev pub with_nothing : ℕ → Option Instr
with_nothing n =
    if n == 15 then Some Not else (if n == 16 then Some Dup else (if n == 17 then Some Drop
    else (if n == 22 then Some Turn else (if n == 24 then Some Ret else (if n == 28 then Some Stop
    else (if n == 32 then Some Now else None))))))

-- the instruction of a number that holds a cell, a place or an entry of a table
abbrev pub with_place : ℕ → ℕ → Option Instr
with_place n place =
    if n == 1 then Some (Load place) else (if n == 2 then Some (Store place)
    else (if n == 3 then Some (Check place) else (if n == 18 then Some (Jump place)
    else (if n == 19 then Some (Zero place) else (if n == 21 then Some (Back place)
    else (if n == 23 then Some (Call place) else (if n == 25 then Some (Write place)
    else (if n == 26 then Some (Send place) else (if n == 30 then Some (Cancel place)
    else (if n == 31 then Some (Active place) else None))))))))))

-- the instruction of a number that holds two of them
abbrev pub with_two_places : ℕ → ℕ × ℕ → Option Instr
with_two_places n places =
    if n == 4 then Some (Elem places.0 places.1) else (if n == 5 then Some (SetElem places.0 places.1)
    else (if n == 27 then Some (Copy places.0 places.1) else None))

-- the instruction of a number that holds a kind
abbrev pub with_kind : ℕ → Kind → Option Instr
with_kind n kind =
    if n == 12 then Some (Neg kind) else (if n == 13 then Some (Inv kind)
    else (if n == 14 then Some (Conv kind) else None))

-- the instruction of a number that holds a kind and a message
abbrev pub with_kind_and_place : ℕ → Kind × ℕ → Option Instr
with_kind_and_place n parts =
    if n == 6 then Some (Bytes parts.0 parts.1)
    else (if n == 7 then Some (SetBytes parts.0 parts.1) else None)

-- the instruction of a number that holds a layout and a message
abbrev pub with_layout_and_place : ℕ → Layout × ℕ → Option Instr
with_layout_and_place n parts =
    if n == 8 then Some (Sig parts.0 parts.1) else (if n == 9 then Some (SetSig parts.0 parts.1) else None)

-- the instruction of a number that holds a field and a message, where it is one of the four fields
abbrev pub with_field_and_place : ℕ → ℕ × ℕ → Option Instr
with_field_and_place n parts =
    if n == 10 then (if nat_le parts.0 3 then Some (SetField parts.0 parts.1) else None) else None

-- the instruction of a number that holds a number of 128 bits
abbrev pub with_number : ℕ → ℤ → Option Instr
with_number n number = if n == 0 then Some (Push number) else None

-- the instruction of a number that holds an operator and a kind
abbrev pub with_operation : ℕ → BinOp × Kind → Option Instr
with_operation n parts = if n == 11 then Some (Bin parts.0 parts.1) else None

-- the instruction of a number that holds a number of 128 bits and a place
abbrev pub with_number_and_place : ℕ → ℤ × ℕ → Option Instr
with_number_and_place n parts = if n == 20 then Some (Case parts.1 parts.0) else None

-- the instruction of a number that holds a timer and a truth value
abbrev pub with_place_and_truth : ℕ → ℕ × Bool → Option Instr
with_place_and_truth n parts = if n == 29 then Some (Set parts.0 parts.1) else None

-- an instruction behind its number, which holds these two
abbrev pub pair_by : Pair → ℕ → Reader Instr
pair_by pair.Places n = tried_at (with_two_places n) (pair_at dword_at dword_at)
pair_by pair.KindAndPlace n = tried_at (with_kind_and_place n) (pair_at kind_at dword_at)
pair_by pair.LayoutAndPlace n = tried_at (with_layout_and_place n) (pair_at layout_at dword_at)
pair_by pair.FieldAndPlace n = tried_at (with_field_and_place n) (pair_at byte_at dword_at)
pair_by pair.Operation n = tried_at (with_operation n) (pair_at operator_at kind_at)
pair_by pair.NumberAndPlace n = tried_at (with_number_and_place n) (pair_at integer_at dword_at)
pair_by pair.PlaceAndTruth n = tried_at (with_place_and_truth n) (pair_at dword_at truth_at)

-- an instruction behind its number, which has these operands
abbrev pub instruction_by : Operands → ℕ → Reader Instr
instruction_by operands.Nothing n bytes = option_map (λ instr. (instr, bytes)) (with_nothing n)
instruction_by operands.Number n bytes = tried_at (with_number n) integer_at bytes
instruction_by operands.Place n bytes = tried_at (with_place n) dword_at bytes
instruction_by operands.Kind n bytes = tried_at (with_kind n) kind_at bytes
instruction_by (operands.Two pair) n bytes = pair_by pair n bytes

-- an instruction behind its number
abbrev pub instruction_behind : ℕ → Reader Instr
instruction_behind n bytes =
    option_and_then (λ operands. instruction_by operands n bytes) (operands_of n)

-- an instruction
abbrev pub instruction_at : Reader Instr
instruction_at = tagged_at instruction_behind
