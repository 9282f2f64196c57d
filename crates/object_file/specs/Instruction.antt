-- Instructions as bytes.
use Rattle.std.specs.Prelude.{ℕ, ◌≤◌, List, ◌++◌, ⊤}
use Rattle.std.specs.Int.{w128}
use Rattle.std.specs.Int.RustNames.{FitsSigned}
use Rattle.int_kinds.specs.declared.operators.BinOp.{BinOp}
use Rattle.int_kinds.specs.declared.operators.BinOp.TheVariants as op
use Rattle.signal_codec.specs.declared.layout.Layout.{Layout}
use Rattle.bytecode.specs.declared.instr.Instr.{Instr}
use Rattle.bytecode.specs.declared.instr.Instr.TheVariants.{Push, Load, Store, Check, Elem, SetElem, Bytes, SetBytes, Sig, SetSig, SetField, Bin, Neg, Inv, Conv, Not, Dup, Drop, Jump, Zero, Case, Back, Turn, Call, Ret, Write, Send, Copy, Stop, Set, Cancel, Active, Now}
use Rattle.object_file.specs.Number.{byte, dword, integer, truth, word}
use Rattle.object_file.specs.Table.{kind_text}

-- the number of an operator
abbrev pub operator_number : BinOp → ℕ
operator_number op.OrElse = 0
operator_number op.AndAlso = 1
operator_number op.Or = 2
operator_number op.Xor = 3
operator_number op.And = 4
operator_number op.Equal = 5
operator_number op.NotEqual = 6
operator_number op.Less = 7
operator_number op.LessEqual = 8
operator_number op.Greater = 9
operator_number op.GreaterEqual = 10
operator_number op.Shl = 11
operator_number op.Shr = 12
operator_number op.Add = 13
operator_number op.Sub = 14
operator_number op.Mul = 15
operator_number op.Div = 16
operator_number op.Rem = 17

-- an operator
abbrev pub operator_text : BinOp → List ℕ
operator_text op = byte (operator_number op)

-- where a signal lies
abbrev pub layout_text : Layout → List ℕ
layout_text layout = word layout.start ++ word layout.len ++ truth layout.big ++ truth layout.signed

-- an instruction: its number, and what it holds
abbrev pub instruction_text : Instr → List ℕ
instruction_text (Push n) = byte 0 ++ integer n
instruction_text (Load cell) = byte 1 ++ dword cell
instruction_text (Store cell) = byte 2 ++ dword cell
instruction_text (Check len) = byte 3 ++ dword len
instruction_text (Elem base len) = byte 4 ++ dword base ++ dword len
instruction_text (SetElem base len) = byte 5 ++ dword base ++ dword len
instruction_text (Bytes kind at) = byte 6 ++ kind_text kind ++ dword at
instruction_text (SetBytes kind at) = byte 7 ++ kind_text kind ++ dword at
instruction_text (Sig layout at) = byte 8 ++ layout_text layout ++ dword at
instruction_text (SetSig layout at) = byte 9 ++ layout_text layout ++ dword at
instruction_text (SetField field at) = byte 10 ++ byte field ++ dword at
instruction_text (Bin op kind) = byte 11 ++ operator_text op ++ kind_text kind
instruction_text (Neg kind) = byte 12 ++ kind_text kind
instruction_text (Inv kind) = byte 13 ++ kind_text kind
instruction_text (Conv kind) = byte 14 ++ kind_text kind
instruction_text Not = byte 15
instruction_text Dup = byte 16
instruction_text Drop = byte 17
instruction_text (Jump target) = byte 18 ++ dword target
instruction_text (Zero target) = byte 19 ++ dword target
instruction_text (Case target label) = byte 20 ++ integer label ++ dword target
instruction_text (Back target) = byte 21 ++ dword target
instruction_text Turn = byte 22
instruction_text (Call function) = byte 23 ++ dword function
instruction_text Ret = byte 24
instruction_text (Write format) = byte 25 ++ dword format
instruction_text (Send at) = byte 26 ++ dword at
instruction_text (Copy to from) = byte 27 ++ dword to ++ dword from
instruction_text Stop = byte 28
instruction_text (Set timer cyclic) = byte 29 ++ dword timer ++ truth cyclic
instruction_text (Cancel timer) = byte 30 ++ dword timer
instruction_text (Active timer) = byte 31 ++ dword timer
instruction_text Now = byte 32

-- a number of an instruction has 128 bits, and a field is one of four
abbrev pub IsInRange : Instr → Type 0
IsInRange (Push n) = FitsSigned w128 n
IsInRange (Case target label) = FitsSigned w128 label
IsInRange (SetField field at) = field ≤ 3
IsInRange _ = ⊤
