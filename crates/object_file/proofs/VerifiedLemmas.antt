-- Verified code whose formats are kept can be stored.
use Rattle.std.proofs.Common.{◌≡◌, ◌<◌, ℕ, List, All, Option, Some, None, arith, length, slice_get}
use Rattle.std.specs.Prelude.{ℤ, pos, negsuc, IsSomeAnd}
use Rattle.std.specs.Int.{w128}
use Rattle.std.specs.Int.RustNames.{FitsSigned}
use Rattle.std.proofs.lemmas.Int.{ints}
use Rattle.std.proofs.lemmas.List.Elements.{All-from_get_or}
use Rattle.std.proofs.lemmas.Option.{slice_get-get_or}
use Rattle.int_kinds.specs.Kind.{Holds, IsNumber}
use Rattle.int_kinds.specs.declared.kinds.Kind.{Kind}
use Rattle.int_kinds.proofs.Values.{IsNumber-held}
use Rattle.bytecode.specs.declared.code.Code.{Code}
use Rattle.bytecode.specs.declared.instr.Instr.{Instr}
use Rattle.bytecode.specs.declared.instr.Instr.TheVariants.{Push, Load, Store, Check, Elem, SetElem, Bytes, SetBytes, Sig, SetSig, SetField, Bin, Neg, Inv, Conv, Not, Dup, Drop, Jump, Zero, Case, Back, Turn, Call, Ret, Write, Send, Copy, Stop, Set, Cancel, Active, Now}
use Rattle.bytecode.specs.Rule.{NamesWhatExists}
use Rattle.bytecode.specs.Shape.{shape_of}
use Rattle.bytecode.specs.Verified.{IsShortCode, IsVerified}
use Rattle.bytecode.proofs.CoverLemmas.{Cover-has}
use Rattle.bytecode.proofs.ListItems.{item_below}
use Rattle.object_file.specs.Instruction.{IsInRange}
use Rattle.object_file.specs.Object.{IsKept, IsStorable}
use Rattle.object_file.proofs.ObjectLemmas.{all_each}

-- a number fits a word of 128 bits
fits_number : (n : ℤ) → IsNumber n → FitsSigned w128 n
fits_number (pos n) is = record { sfits = omega (arith, ints, is.below) }
fits_number (negsuc n) is = record { sfits = omega (arith, ints, is.at_least) }

-- and so does what a cell holds at first
fits_start : (kinds : List Kind) (start : ℕ × ℤ) → IsSomeAnd (slice_get kinds start.0) (λ k. Holds k start.1) → FitsSigned w128 start.1
fits_start kinds start held = by_kind (slice_get kinds start.0) held
  where
    by_kind : (kind : Option Kind) → IsSomeAnd kind (λ k. Holds k start.1) → FitsSigned w128 start.1
    by_kind None none = absurd none
    by_kind (Some kind) holds = fits_number start.1 (IsNumber-held kind start.1 holds)

-- an instruction that names what exists is in range
in_range : (code : Code) (instr : Instr) → NamesWhatExists code (shape_of code instr).named → IsInRange instr
in_range code (Push n) is = fits_number n is
in_range code (Load a) is = tt
in_range code (Store a) is = tt
in_range code (Check a) is = tt
in_range code (Elem a b) is = tt
in_range code (SetElem a b) is = tt
in_range code (Bytes k a) is = tt
in_range code (SetBytes k a) is = tt
in_range code (Sig l a) is = tt
in_range code (SetSig l a) is = tt
in_range code (SetField f a) is = is.0
in_range code (Bin op k) is = tt
in_range code (Neg k) is = tt
in_range code (Inv k) is = tt
in_range code (Conv k) is = tt
in_range code Not is = tt
in_range code Dup is = tt
in_range code Drop is = tt
in_range code (Jump a) is = tt
in_range code (Zero a) is = tt
in_range code (Case a n) is = fits_number n is
in_range code (Back a) is = tt
in_range code Turn is = tt
in_range code (Call a) is = tt
in_range code Ret is = tt
in_range code (Write a) is = tt
in_range code (Send a) is = tt
in_range code (Copy a b) is = tt
in_range code Stop is = tt
in_range code (Set a b) is = tt
in_range code (Cancel a) is = tt
in_range code (Active a) is = tt
in_range code Now is = tt

-- the instruction of each place is
in_range_at : (code : Code) → IsVerified code → (place : ℕ) (instr : Instr) → place < length code.instrs
    → slice_get code.instrs place ≡ Some instr → IsInRange instr
in_range_at code verified place instr within there =
    let laid = verified.laid_out in
    let has = Cover-has 0 code.functions (length code.instrs) laid.covered place (omega arith) within in
    let depth = item_below code.depths place (omega (arith, within, laid.depths)) in
    let rule = verified.places place within has.number has.function instr depth.item has.is_there has.inside there depth.is_there in
    in_range code instr rule.names_exist

-- verified code whose formats are kept can be stored
pub verified_storable : (code : Code) → IsVerified code → IsShortCode code → All IsKept code.formats → IsStorable code
verified_storable code verified short kept =
    record {
      short = short;
      starts = all_each _ (λ start. FitsSigned w128 start.1) (fits_start code.cells) code.starts (verified.tables).starts_held;
      formats = kept;
      instrs = All-from_get_or IsInRange code.instrs Now (λ place within.
          in_range_at code verified place _ within (slice_get-get_or code.instrs place Now within));
    }
