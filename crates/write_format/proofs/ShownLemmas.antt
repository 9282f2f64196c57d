-- What the codes of a text show of its arguments.
use Rattle.std.proofs.Common.{◌≡◌, ◌≤◌, ◌+◌, ◌-◌, ℕ, suc, Bool, true, false, not, cond, List, [], ◌∷◌, ◌++◌, length, get_or, take, drop, refl, sym, ap, subst, ◌∙◌, arith, Some, None, All}
use Rattle.std.specs.Prelude.{◌==◌, count_by, filter_map, map, unwrap_or}
use Rattle.std.specs.List.{position_or_len, zip}
use Rattle.std.proofs.lemmas.List.{length-append, length-map, length-take-le, get_or-append_right}
use Rattle.std.proofs.lemmas.List.{get_or_append_left}
use Rattle.std.proofs.lemmas.List.Elements.{filter_map-append, All-append, All-cons, All-nil, All-head, All-tail}
use Rattle.std.proofs.lemmas.List.Sums.{sum_by-append, sum_by-cons}
use Rattle.std.proofs.lemmas.Option.{none-some, same_Some}
use Rattle.int_kinds.specs.declared.kinds.Kind.{Kind}
use Rattle.write_format.specs.Line.{Element, Byte, Number, Character, Chars, Str, FormatText, IsCharArray, IsFormatOf, array_of, element_of, format_elements, numbers_taken, takes_number}
use Rattle.write_format.specs.Reading.{piece_at, AreSpelled, codes_of, is_fit, pieces_of}
use Rattle.write_format.specs.Inside.Shown.{AreFit, AreShown, IsArrayIn, format_held, is_number, numbers_of, plain_at}
use Rattle.write_format.specs.declared.argument.ArgKind.{ArgKind}
use Rattle.write_format.specs.declared.argument.ArgKind.TheVariants as argument
use Rattle.write_format.specs.declared.code.Code as declared
use Rattle.write_format.specs.declared.code.Conversion.{Conversion}
use Rattle.write_format.specs.declared.code.Conversion.TheVariants as conversion
use Rattle.write_format.specs.declared.code.Field.{Field}
use Rattle.write_format.specs.declared.piece.Piece.{Piece}
use Rattle.write_format.specs.declared.piece.Piece.TheVariants as piece
use Rattle.write_format.proofs.FrontLemmas.{piece_found}
use Rattle.write_format.proofs.PieceLemmas.{spelled_found}
use Rattle.write_format.proofs.ReadingLemmas.{is_unfit, none_passes}

-- ---- the pieces of a text, from its front
-- they begin with the one that is found
pub next_spelled : (rest : List ℕ) (pieces : List Piece) (found : Piece) (behind : List ℕ) → AreSpelled rest pieces → piece_at rest ≡ Some (found, behind)
    → (more : List Piece) × (pieces ≡ found ∷ more) × AreSpelled behind more
next_spelled rest [] found behind is at = absurd (none-some (found, behind) (subst (λ l. piece_at l ≡ Some (found, behind)) is at))
next_spelled rest (first ∷ pieces) found behind is at =
    let front : piece_at rest ≡ Some (first, is.1) = ap piece_at is.2 ∙ piece_found is.0 first is.1 is.3 in
    let same : (first, is.1) ≡ (found, behind) = same_Some (first, is.1) (found, behind) (sym front ∙ at) in
    let tail : is.1 ≡ behind = ap (λ (pair : Piece × List ℕ). pair.1) same in
    (pieces, ap (λ (pair : Piece × List ℕ). pair.0 ∷ pieces) same, subst (λ l. AreSpelled l pieces) tail is.4)

-- there are none where none is found
pub last_spelled : (rest : List ℕ) (pieces : List Piece) → AreSpelled rest pieces → piece_at rest ≡ None → pieces ≡ []
last_spelled rest [] is none = refl
last_spelled rest (first ∷ pieces) is none = absurd (none-some (first, is.1) (sym none ∙ (ap piece_at is.2 ∙ piece_found is.0 first is.1 is.3)))

-- they begin with the bytes before the first `%`
pub record PlainFirst (bytes : List ℕ) (pieces : List Piece) (n : ℕ) : Type 0 where
  pub more : List Piece
  pub are : pieces ≡ map piece.Byte (take n bytes) ++ more
  pub spelled : AreSpelled (drop n bytes) more

-- so they do
pub plain_first : (bytes : List ℕ) (pieces : List Piece) → AreSpelled bytes pieces → PlainFirst bytes pieces (plain_at bytes)
plain_first [] pieces is = record { more = pieces; are = refl; spelled = is }
plain_first (byte ∷ bytes) pieces is = by_test (byte == 37) refl (plain_first bytes)
  where
    by_test : (t : Bool) → (byte == 37) ≡ t → ((others : List Piece) → AreSpelled bytes others → PlainFirst bytes others (plain_at bytes))
        → PlainFirst (byte ∷ bytes) pieces (cond (not t) (1 + plain_at bytes) 0)
    by_test true same again = record { more = pieces; are = refl; spelled = is }
    by_test false other again =
        let found : piece_at (byte ∷ bytes) ≡ Some (piece.Byte byte, bytes) = rw other refl in
        let next = next_spelled (byte ∷ bytes) pieces (piece.Byte byte) bytes is found in
        let tail = again next.0 next.2 in
        let on : 1 + plain_at bytes ≡ suc (plain_at bytes) = omega arith in
        let first : PlainFirst (byte ∷ bytes) pieces (suc (plain_at bytes)) =
        record { more = tail.more; are = next.1 ∙ ap (λ l. piece.Byte byte ∷ l) tail.are; spelled = tail.spelled } in
        subst (PlainFirst (byte ∷ bytes) pieces) (sym on) first

-- with no such byte, too
pub plain_none : (bytes : List ℕ) (pieces : List Piece) → AreSpelled bytes pieces → PlainFirst bytes pieces 0
plain_none bytes pieces is = record { more = pieces; are = refl; spelled = is }

-- a piece and the bytes behind it
pub counted : (rest behind : List ℕ) (found : Piece) (n : ℕ) → piece_at rest ≡ Some (found, behind) → n ≤ length behind
    → ((others : List Piece) → AreSpelled behind others → PlainFirst behind others n) → (pieces : List Piece) → AreSpelled rest pieces
    → (more : List Piece) × AreSpelled (drop n behind) more × (length pieces ≡ 1 + n + length more)
counted rest behind found n at inside plain pieces spelled =
    let next = next_spelled rest pieces found behind spelled at in
    let first = plain next.0 next.2 in
    let all = ap length next.1 in
    let parts = ap length first.are ∙ length-append (map piece.Byte (take n behind)) first.more in
    let bytes = length-map (take n behind) piece.Byte in
    let taken = length-take-le n behind inside in
    (first.more, first.spelled, omega (arith, all, parts, bytes, taken))

-- ---- codes that show their arguments
-- a code and those behind it
fit_first : (code : declared.Code) (a : ArgKind) (pairs : List (declared.Code × ArgKind)) (t : Bool) → is_fit code.conversion a ≡ t
    → cond (not (not t)) (1 + position_or_len is_unfit pairs) 0 ≡ suc (length pairs)
    → (is_fit code.conversion a ≡ true) × (position_or_len is_unfit pairs ≡ length pairs)
fit_first code a pairs true is at = (is, omega (arith, at))
fit_first code a pairs false is at = absurd (omega (arith, at))

-- where none is found that does not show its argument, each does
all_shown : (pieces : List Piece) (arguments : List ArgKind) → length (codes_of pieces) ≡ length arguments
    → position_or_len is_unfit (zip (codes_of pieces) arguments) ≡ length (zip (codes_of pieces) arguments) → AreShown pieces arguments
all_shown [] [] count at = tt
all_shown [] (a ∷ arguments) count at = absurd (omega (arith, count))
all_shown (piece.Byte byte ∷ pieces) arguments count at = all_shown pieces arguments count at
all_shown (piece.Argument code ∷ pieces) [] count at = absurd (omega (arith, count))
all_shown (piece.Argument code ∷ pieces) (a ∷ arguments) count at =
    let first = fit_first code a (zip (codes_of pieces) arguments) (is_fit code.conversion a) refl at in
    (first.0, all_shown pieces arguments (omega (arith, count)) first.1)

-- so those of a format do
pub format_shown : (text : List ℕ) (arguments : List ArgKind) (format : FormatText) → (is : IsFormatOf text arguments format) → AreShown is.pieces arguments
format_shown text arguments format is =
    all_shown is.pieces arguments (is.matched).count (none_passes is_unfit (zip (codes_of is.pieces) arguments) is.fit)

-- what holds a fit text and its arguments is their format
pub held_is : (text : List ℕ) (arguments : List ArgKind) → AreFit text arguments → IsFormatOf text arguments (format_held text arguments)
held_is text arguments fit =
    let found : pieces_of text ≡ Some fit.0 = spelled_found (length text) text fit.0 (omega arith) (fit.1).spelled in
    record {
      pieces = fit.0;
      matched = fit.1;
      fit = fit.2;
      text_is = refl;
      arguments_are = refl;
      elements = ap (λ o. format_elements (unwrap_or o []) arguments) found;
    }

-- ---- what a line takes
-- the numbers that a code takes are those of its argument
pub element_numbers : (field : Field) (c : Conversion) (a : ArgKind) → is_fit c a ≡ true → count_by takes_number (element_of field c a) ≡ numbers_of a
element_numbers field (conversion.Number kind digits) (argument.Number given) fit = refl
element_numbers field (conversion.Number kind digits) (argument.Chars base len) fit = absurd (cc)
element_numbers field (conversion.Number kind digits) (argument.Str text) fit = absurd (cc)
element_numbers field conversion.Character (argument.Number given) fit = refl
element_numbers field conversion.Character (argument.Chars base len) fit = absurd (cc)
element_numbers field conversion.Character (argument.Str text) fit = absurd (cc)
element_numbers field conversion.Text (argument.Number given) fit = absurd (cc)
element_numbers field conversion.Text (argument.Chars base len) fit = refl
element_numbers field conversion.Text (argument.Str text) fit = refl

-- so are those of all codes
numbers_shown : (pieces : List Piece) (arguments : List ArgKind) → AreShown pieces arguments
    → count_by takes_number (format_elements pieces arguments) ≡ count_by is_number arguments
numbers_shown [] [] shown = refl
numbers_shown [] (a ∷ arguments) shown = absurd shown
numbers_shown (piece.Byte byte ∷ pieces) arguments shown =
    let first = sum_by-cons (λ e. cond (takes_number e) 1 0) (Byte byte) (format_elements pieces arguments) in
    let more = numbers_shown pieces arguments shown in
    omega (arith, first, more)
numbers_shown (piece.Argument code ∷ pieces) [] shown = absurd shown
numbers_shown (piece.Argument code ∷ pieces) (a ∷ arguments) shown =
    let whole = sum_by-append (λ e. cond (takes_number e) 1 0) (element_of code.field code.conversion a) (format_elements pieces arguments) in
    let first = element_numbers code.field code.conversion a shown.0 in
    let all = sum_by-cons numbers_of a arguments in
    let more = numbers_shown pieces arguments shown.1 in
    omega (arith, whole, first, all, more)

-- and those of a format
pub format_numbers : (text : List ℕ) (arguments : List ArgKind) (format : FormatText) → IsFormatOf text arguments format → numbers_taken format ≡ count_by is_number arguments
format_numbers text arguments format is =
    ap (count_by takes_number) is.elements ∙ numbers_shown is.pieces arguments (format_shown text arguments format is)

-- ---- arrays
-- what is true of each element of two lists in a row is true of each of the first
pub all_left : {A : Type 0} (P : A → Type 0) (xs ys : List A) → All P (xs ++ ys) → All P xs
all_left P xs ys all k d within =
    let longer = length-append xs ys in
    subst P (get_or_append_left xs ys d k within) (all k d (omega (arith, within, longer)))

-- and of the second
pub all_right : {A : Type 0} (P : A → Type 0) (xs ys : List A) → All P (xs ++ ys) → All P ys
all_right P xs ys all k d within =
    let longer = length-append xs ys in
    let at : length xs + k - length xs ≡ k = omega arith in
    subst P (get_or-append_right xs ys (length xs) (length xs + k) d refl (omega arith) ∙ ap (λ n. get_or ys n d) at) (all (length xs + k) d (omega (arith, within, longer)))

-- the arrays that elements read
abbrev arrays_of : List Element → List (ℕ × ℕ)
arrays_of elements = filter_map array_of elements

-- the array that a code reads is its argument
element_array : (kinds : List Kind) (field : Field) (c : Conversion) (a : ArgKind) → IsArrayIn kinds a → All (IsCharArray kinds) (arrays_of (element_of field c a))
element_array kinds field (conversion.Number kind digits) (argument.Number given) is = All-nil (IsCharArray kinds)
element_array kinds field (conversion.Number kind digits) (argument.Chars base len) is = All-nil (IsCharArray kinds)
element_array kinds field (conversion.Number kind digits) (argument.Str text) is = All-nil (IsCharArray kinds)
element_array kinds field conversion.Character (argument.Number given) is = All-nil (IsCharArray kinds)
element_array kinds field conversion.Character (argument.Chars base len) is = All-nil (IsCharArray kinds)
element_array kinds field conversion.Character (argument.Str text) is = All-nil (IsCharArray kinds)
element_array kinds field conversion.Text (argument.Number given) is = All-nil (IsCharArray kinds)
element_array kinds field conversion.Text (argument.Chars base len) is = All-cons (IsCharArray kinds) (base, len) [] is (All-nil (IsCharArray kinds))
element_array kinds field conversion.Text (argument.Str text) is = All-nil (IsCharArray kinds)

-- and the other way round
array_element : (kinds : List Kind) (field : Field) (c : Conversion) (a : ArgKind) → is_fit c a ≡ true → All (IsCharArray kinds) (arrays_of (element_of field c a)) → IsArrayIn kinds a
array_element kinds field c (argument.Number given) fit all = tt
array_element kinds field (conversion.Number kind digits) (argument.Chars base len) fit all = absurd (cc)
array_element kinds field conversion.Character (argument.Chars base len) fit all = absurd (cc)
array_element kinds field conversion.Text (argument.Chars base len) fit all = All-head (IsCharArray kinds) (base, len) [] all
array_element kinds field c (argument.Str text) fit all = tt

-- where the arguments are among the cells, the arrays are
arrays_given : (kinds : List Kind) (pieces : List Piece) (arguments : List ArgKind) → All (IsArrayIn kinds) arguments
    → All (IsCharArray kinds) (arrays_of (format_elements pieces arguments))
arrays_given kinds [] arguments all = All-nil (IsCharArray kinds)
arrays_given kinds (piece.Byte byte ∷ pieces) arguments all = arrays_given kinds pieces arguments all
arrays_given kinds (piece.Argument code ∷ pieces) [] all = arrays_given kinds pieces [] all
arrays_given kinds (piece.Argument code ∷ pieces) (a ∷ arguments) all =
    let front = element_of code.field code.conversion a in
    let back = format_elements pieces arguments in
    subst (All (IsCharArray kinds)) (sym (filter_map-append array_of front back))
    (All-append (IsCharArray kinds) (arrays_of front) (arrays_of back)
    (element_array kinds code.field code.conversion a (All-head (IsArrayIn kinds) a arguments all))
    (arrays_given kinds pieces arguments (All-tail (IsArrayIn kinds) a arguments all)))

-- and the other way round
arrays_found : (kinds : List Kind) (pieces : List Piece) (arguments : List ArgKind) → AreShown pieces arguments
    → All (IsCharArray kinds) (arrays_of (format_elements pieces arguments)) → All (IsArrayIn kinds) arguments
arrays_found kinds [] [] shown all = All-nil (IsArrayIn kinds)
arrays_found kinds [] (a ∷ arguments) shown all = absurd shown
arrays_found kinds (piece.Byte byte ∷ pieces) arguments shown all = arrays_found kinds pieces arguments shown all
arrays_found kinds (piece.Argument code ∷ pieces) [] shown all = absurd shown
arrays_found kinds (piece.Argument code ∷ pieces) (a ∷ arguments) shown all =
    let front = element_of code.field code.conversion a in
    let back = format_elements pieces arguments in
    let both : All (IsCharArray kinds) (arrays_of front ++ arrays_of back) = subst (All (IsCharArray kinds)) (filter_map-append array_of front back) all in
    All-cons (IsArrayIn kinds) a arguments
    (array_element kinds code.field code.conversion a shown.0 (all_left (IsCharArray kinds) (arrays_of front) (arrays_of back) both))
    (arrays_found kinds pieces arguments shown.1 (all_right (IsCharArray kinds) (arrays_of front) (arrays_of back) both))

-- the arrays of a format are among the cells where its arguments are
pub format_arrays : (kinds : List Kind) (text : List ℕ) (arguments : List ArgKind) (format : FormatText) → IsFormatOf text arguments format
    → All (IsArrayIn kinds) arguments → All (IsCharArray kinds) (arrays_of format.elements)
format_arrays kinds text arguments format is all =
    subst (λ l. All (IsCharArray kinds) (arrays_of l)) (sym is.elements) (arrays_given kinds is.pieces arguments all)

-- and the other way round
pub arrays_format : (kinds : List Kind) (text : List ℕ) (arguments : List ArgKind) (format : FormatText) → IsFormatOf text arguments format
    → All (IsCharArray kinds) (arrays_of format.elements) → All (IsArrayIn kinds) arguments
arrays_format kinds text arguments format is all =
    arrays_found kinds is.pieces arguments (format_shown text arguments format is)
    (subst (λ l. All (IsCharArray kinds) (arrays_of l)) is.elements all)
