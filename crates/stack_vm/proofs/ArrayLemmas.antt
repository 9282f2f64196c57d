-- The arrays that a format reads, in cells that their kinds hold.
use Rattle.std.proofs.Common.{◌≡◌, ◌<◌, ◌+◌, ℕ, true, List, [], ◌∷◌, length, take, drop, All, arith, slice_get, Some, subst}
use Rattle.std.specs.Prelude.{ℤ, ◌≤ℤ◌, pos, nat_le}
use Rattle.std.specs.List.{list_all}
use Rattle.std.proofs.lemmas.List.Elements.{All-cons, All-head, All-nil, All-tail, All-weaker}
use Rattle.std.proofs.lemmas.Option.{get_or_from_slice_get}
use Rattle.int_kinds.specs.Kind.{Holds}
use Rattle.int_kinds.specs.declared.kinds.Kind.{Kind}
use Rattle.int_kinds.specs.declared.kinds.Kind.TheVariants.{Char}
use Rattle.write_format.specs.Line.{HoldsBytes, IsCharArray, FormatText, char_arrays}
use Rattle.bytecode.specs.declared.code.Code.{Code}
use Rattle.bytecode.specs.Runs.{HoldKinds}
use Rattle.bytecode.specs.Verified.{IsVerified}
use Rattle.bytecode.proofs.Rows.{arrays_there}
use Rattle.bytecode.proofs.ZippedLists.{AllZip-drop, AllZip-same_length, AllZip-take}

-- a cell holds a byte
abbrev IsByte : ℤ → Type 0
IsByte n = (pos 0 ≤ℤ n) × (n ≤ℤ pos 255)

-- cells of the kind char hold bytes
chars_hold : (kinds : List Kind) (cells : List ℤ) → HoldKinds kinds cells → All (λ kind. kind ≡ Char) kinds → All IsByte cells
chars_hold [] [] held chars = All-nil IsByte
chars_hold [] (n ∷ cells) held chars = absurd held
chars_hold (kind ∷ kinds) [] held chars = absurd held
chars_hold (kind ∷ kinds) (n ∷ cells) held chars =
    let char : Holds Char n = subst (λ k. Holds k n) (All-head (λ k. k ≡ Char) kind kinds chars) held.0 in
    All-cons IsByte n cells (char.at_least, char.at_most) (chars_hold kinds cells held.1 (All-tail (λ k. k ≡ Char) kind kinds chars))

-- an array of characters holds bytes
array_holds : (kinds : List Kind) (cells : List ℤ) → HoldKinds kinds cells → (array : ℕ × ℕ) → IsCharArray kinds array → HoldsBytes cells array
array_holds kinds cells held array is =
    let same = AllZip-same_length Holds kinds cells held in
    let there_is = is.there in
    record {
      there = omega (arith, same, there_is);
      bytes = chars_hold (take array.1 (drop array.0 kinds)) (take array.1 (drop array.0 cells))
          (AllZip-take Holds array.1 (drop array.0 kinds) (drop array.0 cells) (AllZip-drop Holds array.0 kinds cells held)) is.characters;
    }

-- the arrays of a format of verified code are there
arrays_of : (code : Code) → IsVerified code → (f : ℕ) (format : FormatText) → slice_get code.formats f ≡ Some format → f < length code.formats
    → All (IsCharArray code.cells) (char_arrays format)
arrays_of code verified f format is named =
    subst (λ z. All (IsCharArray code.cells) (char_arrays z)) (get_or_from_slice_get code.formats f format format is) (verified.tables.arrays_exist f format named)

-- they lie in the cells
pub arrays_lie : (code : Code) → IsVerified code → (f : ℕ) (format : FormatText) → slice_get code.formats f ≡ Some format → f < length code.formats
    → (cells : List ℤ) → HoldKinds code.cells cells → list_all (λ array. nat_le (array.0 + array.1) (length cells)) (char_arrays format) ≡ true
arrays_lie code verified f format is named cells held =
    arrays_there code.cells cells (AllZip-same_length Holds code.cells cells held) (char_arrays format) (arrays_of code verified f format is named)

-- and hold bytes
pub arrays_hold : (code : Code) → IsVerified code → (f : ℕ) (format : FormatText) → slice_get code.formats f ≡ Some format → f < length code.formats
    → (cells : List ℤ) → HoldKinds code.cells cells → All (HoldsBytes cells) (char_arrays format)
arrays_hold code verified f format is named cells held =
    All-weaker (IsCharArray code.cells) (HoldsBytes cells) (array_holds code.cells cells held) (char_arrays format) (arrays_of code verified f format is named)
