-- Arrays of characters, by counts of other cells.
use Rattle.std.proofs.Common.{◌≡◌, ℕ, ◌+◌, ◌-◌, ◌≤◌, inl, inr, Bool, true, false, All, List, [], ◌∷◌, ◌++◌, length, get_or, take, drop, cond, refl, sym, ap, ◌∙◌, arith, length-append}
use Rattle.std.specs.Prelude.{count_by, slice_index}
use Rattle.std.proofs.Math.Nat.{eq-or-lt_of_le}
use Rattle.std.proofs.lemmas.List.{get_or_append_left, get_or-append_right, take-take, drop-take}
use Rattle.std.proofs.lemmas.List.Elements.{All-nil, All-cons, All-head, All-tail}
use Rattle.std.proofs.lemmas.List.Sums.{sum_by-take-drop, sum_by-cons}
use Rattle.int_kinds.specs.declared.kinds.Kind.{Kind}
use Rattle.int_kinds.specs.declared.kinds.Kind.TheVariants.{Byte, Word, Dword, Qword, Int, Long, Int64, Char}
use Rattle.write_format.specs.Line.{IsCharArray, cells_of}
use Rattle.write_format.specs.Inside.Chars.{CountsOthers, is_other}

-- how many cells are no characters
abbrev others_in : List Kind → ℕ
others_in kinds = count_by is_other kinds

-- before the first cell stands no other one
pub first_count : (kinds : List Kind) → CountsOthers kinds 0 (0 ∷ [])
first_count kinds = record {
  places = refl;
  counts = λ place low. let first : place ≡ 0 = omega (arith, low) in rw first refl;
}

-- one more place
pub one_more_count : (kinds : List Kind) (last : ℕ) (others : List ℕ) (count : ℕ)
    → CountsOthers kinds last others → count ≡ others_in (take (last + 1) kinds) → CountsOthers kinds (last + 1) (others ++ count ∷ [])
one_more_count kinds last others count before is =
    let so_many = before.places in record {
      places = let whole = length-append others (count ∷ []) in omega (arith, whole, so_many);
      counts = λ place low. elim (eq-or-lt_of_le low) [
        | inl same ↦ let at : slice_index (others ++ count ∷ []) (last + 1) ≡ count = get_or-append_right others (count ∷ []) (last + 1) (last + 1) 0 so_many (omega arith) ∙ first_of_one count (last + 1) in
            rw same (at ∙ is)
        | inr less ↦ get_or_append_left others (count ∷ []) 0 place (omega (arith, so_many, less)) ∙ before.counts place (omega (arith, less))
      ];
    }
  where
    first_of_one : (count n : ℕ) → get_or (count ∷ []) (n - n) 0 ≡ count
    first_of_one count n = let none : n - n ≡ 0 = omega arith in rw none refl

-- the counts at both ends of an array differ by the other cells in it
between : (kinds : List Kind) (base len : ℕ) → others_in (take base kinds) + others_in (cells_of base len kinds) ≡ others_in (take (base + len) kinds)
between kinds base len =
    let split = sum_by-take-drop (λ kind. cond (is_other kind) 1 0) (take (base + len) kinds) base in
    let front : take base (take (base + len) kinds) ≡ take base kinds = take-take base (base + len) kinds (omega arith) in
    let back : drop base (take (base + len) kinds) ≡ cells_of base len kinds = drop-take base len kinds in
    sym (ap (λ l. others_in l + others_in (cells_of base len kinds)) front) ∙ sym (ap (λ l. others_in (take base (take (base + len) kinds)) + others_in l) back) ∙ split

-- a kind of characters is no other
only_char : (kind : Kind) → is_other kind ≡ false → kind ≡ Char
only_char Char is = refl
only_char Byte is = absurd (let told = is in cc)
only_char Word is = absurd (let told = is in cc)
only_char Dword is = absurd (let told = is in cc)
only_char Qword is = absurd (let told = is in cc)
only_char Int is = absurd (let told = is in cc)
only_char Long is = absurd (let told = is in cc)
only_char Int64 is = absurd (let told = is in cc)

-- where no other cell is counted, all are characters
all_chars : (kinds : List Kind) → others_in kinds ≡ 0 → All (λ kind. kind ≡ Char) kinds
all_chars [] none = All-nil (λ kind. kind ≡ Char)
all_chars (kind ∷ kinds) none = by_test (is_other kind) refl (all_chars kinds)
  where
    head : others_in (kind ∷ kinds) ≡ cond (is_other kind) 1 0 + others_in kinds
    head = sum_by-cons (λ k. cond (is_other k) 1 0) kind kinds

    by_test : (t : Bool) → is_other kind ≡ t → (others_in kinds ≡ 0 → All (λ kind. kind ≡ Char) kinds) → All (λ kind. kind ≡ Char) (kind ∷ kinds)
    by_test true is rest = absurd (let one : ◌≡◌ {A = ℕ} (cond (is_other kind) 1 0) 1 = rw is refl in let whole = head in omega (arith, none, whole, one))
    by_test false is rest = let whole = head in All-cons (λ kind. kind ≡ Char) kind kinds (only_char kind is) (rest (omega (arith, none, whole)))

-- and the other way round
no_others : (kinds : List Kind) → All (λ kind. kind ≡ Char) kinds → others_in kinds ≡ 0
no_others [] all = refl
no_others (kind ∷ kinds) all =
    let first : kind ≡ Char = All-head (λ kind. kind ≡ Char) kind kinds all in
    let rest = no_others kinds (All-tail (λ kind. kind ≡ Char) kind kinds all) in
    let whole : others_in (kind ∷ kinds) ≡ cond (is_other kind) 1 0 + others_in kinds = sum_by-cons (λ k. cond (is_other k) 1 0) kind kinds in
    let same : is_other kind ≡ false = rw first refl in
    let none : ◌≡◌ {A = ℕ} (cond (is_other kind) 1 0) 0 = rw same refl in
    omega (arith, whole, none, rest)

-- equal counts at both ends of an array that is there
pub is_char_array : (kinds : List Kind) (others : List ℕ) (base len : ℕ) → CountsOthers kinds (length kinds) others → base + len ≤ length kinds
    → slice_index others base ≡ slice_index others (base + len) → IsCharArray kinds (base, len)
is_char_array kinds others base len counts there same =
    let from = counts.counts base (omega (arith, there)) in
    let to = counts.counts (base + len) there in
    let inside = between kinds base len in
    record { there = there; characters = all_chars (cells_of base len kinds) (omega (arith, from, to, inside, same)) }

-- an array of characters has equal counts at both ends
pub equal_counts : (kinds : List Kind) (others : List ℕ) (base len : ℕ) → CountsOthers kinds (length kinds) others → IsCharArray kinds (base, len)
    → slice_index others base ≡ slice_index others (base + len)
equal_counts kinds others base len counts is =
    let there = is.there in
    let from = counts.counts base (omega (arith, there)) in
    let to = counts.counts (base + len) there in
    let inside = between kinds base len in
    let none = no_others (cells_of base len kinds) is.characters in
    omega (arith, from, to, inside, none)
