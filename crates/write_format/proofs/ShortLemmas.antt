-- Short texts make short formats.
use Rattle.std.proofs.Common.{◌≡◌, ◌<◌, ◌≤◌, ◌^◌, ℕ, true, List, [], ◌∷◌, length, get_or, refl, sym, ap, subst, ◌∙◌, arith, All}
use Rattle.std.specs.Prelude.{◌==◌}
use Rattle.std.specs.List.{position_or_len}
use Rattle.std.proofs.lemmas.List.{length-append, length-take}
use Rattle.std.proofs.lemmas.List.Elements.{All-append, All-cons, All-nil, All-head, All-tail}
use Rattle.write_format.specs.Line.{Byte, Number, Character, Chars, Str, FormatText, IsFormatOf, IsShort, IsShortArgument, IsShortElement, element_of, format_elements, before_zero}
use Rattle.write_format.specs.Reading.{piece_at, AreSpelled, is_fit}
use Rattle.write_format.specs.Inside.Shown.{AreShown, IsShownShort}
use Rattle.write_format.specs.declared.argument.ArgKind.{ArgKind}
use Rattle.write_format.specs.declared.argument.ArgKind.TheVariants as argument
use Rattle.write_format.specs.declared.code.Conversion.{Conversion}
use Rattle.write_format.specs.declared.code.Conversion.TheVariants as conversion
use Rattle.write_format.specs.declared.code.Field.{Field}
use Rattle.write_format.specs.declared.piece.Piece.{Piece}
use Rattle.write_format.specs.declared.piece.Piece.TheVariants as piece
use Rattle.write_format.proofs.FrontLemmas.{piece_found, piece_shorter}
use Rattle.write_format.proofs.ShownLemmas.{all_left, all_right, format_shown}

-- a code with an argument that it shows is one part
element_one : (field : Field) (c : Conversion) (a : ArgKind) → is_fit c a ≡ true → length (element_of field c a) ≡ 1
element_one field (conversion.Number kind digits) (argument.Number given) fit = refl
element_one field (conversion.Number kind digits) (argument.Chars base len) fit = absurd (cc)
element_one field (conversion.Number kind digits) (argument.Str text) fit = absurd (cc)
element_one field conversion.Character (argument.Number given) fit = refl
element_one field conversion.Character (argument.Chars base len) fit = absurd (cc)
element_one field conversion.Character (argument.Str text) fit = absurd (cc)
element_one field conversion.Text (argument.Number given) fit = absurd (cc)
element_one field conversion.Text (argument.Chars base len) fit = refl
element_one field conversion.Text (argument.Str text) fit = refl

-- as many parts as pieces
elements_count : (pieces : List Piece) (arguments : List ArgKind) → AreShown pieces arguments → length (format_elements pieces arguments) ≡ length pieces
elements_count [] [] shown = refl
elements_count [] (a ∷ arguments) shown = absurd shown
elements_count (piece.Byte byte ∷ pieces) arguments shown = let more = elements_count pieces arguments shown in omega (arith, more)
elements_count (piece.Argument code ∷ pieces) [] shown = absurd shown
elements_count (piece.Argument code ∷ pieces) (a ∷ arguments) shown =
    let more = elements_count pieces arguments shown.1 in
    let one = element_one code.field code.conversion a shown.0 in
    let whole = length-append (element_of code.field code.conversion a) (format_elements pieces arguments) in
    omega (arith, more, one, whole)

-- no more pieces than bytes
pub pieces_few : (pieces : List Piece) (text : List ℕ) → AreSpelled text pieces → length pieces ≤ length text
pieces_few [] text is = omega arith
pieces_few (piece ∷ pieces) text is =
    let more = pieces_few pieces is.1 is.4 in
    let shorter = piece_shorter text piece is.1 (ap piece_at is.2 ∙ piece_found is.0 piece is.1 is.3) in
    omega (arith, more, shorter)

-- what is shown of a short text is short
shown_of_short : (a : ArgKind) → IsShortArgument a → IsShownShort a
shown_of_short (argument.Number kind) short = tt
shown_of_short (argument.Chars base len) short = tt
shown_of_short (argument.Str text) short =
    let taken = length-take (position_or_len (λ byte. byte == 0) text) text in
    omega (arith, short, taken)

-- no elements
abbrev none_long : All IsShortElement []
none_long = All-nil IsShortElement

-- the part of an argument of which a short text is shown
element_short : (field : Field) (c : Conversion) (a : ArgKind) → IsShownShort a → All IsShortElement (element_of field c a)
element_short field (conversion.Number kind digits) (argument.Number given) short = All-cons IsShortElement (Number field kind digits) [] tt none_long
element_short field (conversion.Number kind digits) (argument.Chars base len) short = none_long
element_short field (conversion.Number kind digits) (argument.Str text) short = none_long
element_short field conversion.Character (argument.Number given) short = All-cons IsShortElement (Character field) [] tt none_long
element_short field conversion.Character (argument.Chars base len) short = none_long
element_short field conversion.Character (argument.Str text) short = none_long
element_short field conversion.Text (argument.Number given) short = none_long
element_short field conversion.Text (argument.Chars base len) short = All-cons IsShortElement (Chars field base len) [] tt none_long
element_short field conversion.Text (argument.Str text) short = All-cons IsShortElement (Str field (before_zero text)) [] short none_long

-- and the other way round
short_element : (field : Field) (c : Conversion) (a : ArgKind) → is_fit c a ≡ true → All IsShortElement (element_of field c a) → IsShownShort a
short_element field c (argument.Number given) fit all = tt
short_element field c (argument.Chars base len) fit all = tt
short_element field (conversion.Number kind digits) (argument.Str text) fit all = absurd (cc)
short_element field conversion.Character (argument.Str text) fit all = absurd (cc)
short_element field conversion.Text (argument.Str text) fit all = All-head IsShortElement (Str field (before_zero text)) [] all

-- the parts of such arguments
elements_short : (pieces : List Piece) (arguments : List ArgKind) → All IsShownShort arguments → All IsShortElement (format_elements pieces arguments)
elements_short [] arguments short = none_long
elements_short (piece.Byte byte ∷ pieces) arguments short =
    All-cons IsShortElement (Byte byte) (format_elements pieces arguments) tt (elements_short pieces arguments short)
elements_short (piece.Argument code ∷ pieces) [] short = elements_short pieces [] short
elements_short (piece.Argument code ∷ pieces) (a ∷ arguments) short =
    All-append IsShortElement (element_of code.field code.conversion a) (format_elements pieces arguments)
    (element_short code.field code.conversion a (All-head IsShownShort a arguments short))
    (elements_short pieces arguments (All-tail IsShownShort a arguments short))

-- and the other way round
short_elements : (pieces : List Piece) (arguments : List ArgKind) → AreShown pieces arguments → All IsShortElement (format_elements pieces arguments) → All IsShownShort arguments
short_elements [] [] shown all = All-nil IsShownShort
short_elements [] (a ∷ arguments) shown all = absurd shown
short_elements (piece.Byte byte ∷ pieces) arguments shown all =
    short_elements pieces arguments shown (All-tail IsShortElement (Byte byte) (format_elements pieces arguments) all)
short_elements (piece.Argument code ∷ pieces) [] shown all = absurd shown
short_elements (piece.Argument code ∷ pieces) (a ∷ arguments) shown all =
    let front = element_of code.field code.conversion a in
    let back = format_elements pieces arguments in
    All-cons IsShownShort a arguments
    (short_element code.field code.conversion a shown.0 (all_left IsShortElement front back all))
    (short_elements pieces arguments shown.1 (all_right IsShortElement front back all))

-- a format of few pieces that shows short texts is short
pub pieces_short : (text : List ℕ) (arguments : List ArgKind) (format : FormatText) → (is : IsFormatOf text arguments format)
    → length is.pieces < 2 ^ 32 → All IsShownShort arguments → IsShort format
pieces_short text arguments format is few all =
    let count = elements_count is.pieces arguments (format_shown text arguments format is) in
    let same = ap length is.elements in
    record {
      few = omega (arith, count, same, few);
      texts = subst (All IsShortElement) (sym is.elements) (elements_short is.pieces arguments all);
    }

-- and the other way round
pub short_pieces : (text : List ℕ) (arguments : List ArgKind) (format : FormatText) → (is : IsFormatOf text arguments format)
    → IsShort format → (length is.pieces < 2 ^ 32) × All IsShownShort arguments
short_pieces text arguments format is short =
    let shown = format_shown text arguments format is in
    let count = elements_count is.pieces arguments shown in
    let same = ap length is.elements in
    let few = short.few in
    (omega (arith, count, same, few), short_elements is.pieces arguments shown (subst (All IsShortElement) is.elements short.texts))

-- the format of a short text with short arguments is short
pub format_short : (text : List ℕ) (arguments : List ArgKind) (format : FormatText) → IsFormatOf text arguments format
    → length text < 2 ^ 32 → All IsShortArgument arguments → IsShort format
format_short text arguments format is short all =
    let pieces = pieces_few is.pieces text (is.matched).spelled in
    pieces_short text arguments format is (omega (arith, pieces, short)) (λ k d within. shown_of_short (get_or arguments k d) (all k d within))
