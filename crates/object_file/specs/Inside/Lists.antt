-- The lists of code, in the order of its text.
use Rattle.std.specs.Prelude.{ℕ, ◌<◌, ◌^◌, nat_eq, List, ◌++◌, drop, length, All, ℤ, ⊤, Option, Some, None, codes, if◌then◌else◌}
use Rattle.std.specs.List.{starts_with}
use Rattle.std.specs.Int.{w128}
use Rattle.std.specs.Int.RustNames.{FitsSigned}
use Rattle.int_kinds.specs.declared.kinds.Kind.{Kind}
use Rattle.write_format.specs.Line.{FormatText}
use Rattle.bytecode.specs.declared.code.Code.{Code}
use Rattle.bytecode.specs.declared.code.Fun.{Fun}
use Rattle.bytecode.specs.declared.code.Handler.{Handler}
use Rattle.bytecode.specs.declared.instr.Instr.{Instr}
use Rattle.object_file.specs.Number.{dword, list, qword}
use Rattle.object_file.specs.Table.{format_text, function_text, handler_text, kind_text, start_text}
use Rattle.object_file.specs.Instruction.{IsInRange, instruction_text}
use Rattle.object_file.specs.Object.{IsKept}
use Rattle.object_file.specs.Inside.Reading.{Reader, dword_at, integer_at, list_at, pair_at, qword_at}
use Rattle.object_file.specs.Inside.Tables.{IsShortEvent, format_at, function_at, handler_at, kind_at}
use Rattle.object_file.specs.Inside.Instructions.{instruction_at}

-- the lists
abbrev pub Lists : Type 0
Lists =
    List Kind × (List (ℕ × ℤ) × (List ℕ × (List FormatText × (List Fun
    × (List Handler × (List Instr × List ℕ))))))

-- the code of lists
abbrev pub with_lists : Lists → Code
with_lists lists = record {
  cells = lists.0;
  starts = (lists.1).0;
  timers = ((lists.1).1).0;
  formats = (((lists.1).1).1).0;
  functions = ((((lists.1).1).1).1).0;
  handlers = (((((lists.1).1).1).1).1).0;
  instrs = ((((((lists.1).1).1).1).1).1).0;
  depths = ((((((lists.1).1).1).1).1).1).1;
}

-- the lists of code
abbrev pub lists_of : Code → Lists
lists_of code = (
  code.cells,
  (
    code.starts,
    (
      code.timers,
      (
        code.formats,
        (
          code.functions,
          (
            code.handlers,
            (
              code.instrs,
              code.depths,
            ),
          ),
        ),
      ),
    ),
  ),
)

-- their text
abbrev pub lists_text : Lists → List ℕ
lists_text lists =
    list kind_text lists.0 ++ (list start_text (lists.1).0 ++ (list qword ((lists.1).1).0
    ++ (list format_text (((lists.1).1).1).0 ++ (list function_text ((((lists.1).1).1).1).0
    ++ (list handler_text (((((lists.1).1).1).1).1).0
    ++ (list instruction_text ((((((lists.1).1).1).1).1).1).0
    ++ list dword ((((((lists.1).1).1).1).1).1).1))))))

-- a list is short, and something is true of each of its items
abbrev pub Holds : {A : Type 0} → (A → Type 0) → List A → Type 0
Holds P xs = (length xs < 2 ^ 32) × All P xs

-- what is true of lists that are stored
abbrev pub ListsHold : Lists → Type 0
ListsHold lists =
    Holds (λ kind. ⊤) lists.0 × (Holds (λ start. ⊤ × FitsSigned w128 start.1) (lists.1).0
    × (Holds (λ unit. ⊤) ((lists.1).1).0 × (Holds IsKept (((lists.1).1).1).0
    × (Holds (λ function. ⊤) ((((lists.1).1).1).1).0
    × (Holds (λ handler. IsShortEvent handler.event) (((((lists.1).1).1).1).1).0
    × (Holds IsInRange ((((((lists.1).1).1).1).1).1).0
    × Holds (λ depth. ⊤) ((((((lists.1).1).1).1).1).1).1))))))

-- the lists at the front of bytes
abbrev pub lists_at : Reader Lists
lists_at =
    pair_at (list_at kind_at) (pair_at (list_at (pair_at dword_at integer_at)) (pair_at (list_at qword_at)
    (pair_at (list_at format_at) (pair_at (list_at function_at) (pair_at (list_at handler_at)
    (pair_at (list_at instruction_at) (list_at dword_at)))))))

-- what stands behind the letters, where bytes begin with them
abbrev pub behind_letters : List ℕ → Option (List ℕ)
behind_letters bytes =
    if starts_with nat_eq bytes (codes "CAPLOBJ1") then Some (drop 8 bytes) else None
