-- A line, piece by piece.
use Rattle.std.proofs.Common.{◌≡◌, ◌<◌, ◌≤◌, ◌+◌, ℕ, [], List, ◌∷◌, ◌++◌, length, get_or, take, drop, refl, sym, ap, subst, ◌∙◌, append_assoc, append-nil, arith, Some, None, All}
use Rattle.std.specs.Prelude.{ℤ, count_by, filter_map, map}
use Rattle.std.proofs.lemmas.List.{length-drop}
use Rattle.std.proofs.lemmas.List.Elements.{filter_map-append}
use Rattle.std.proofs.lemmas.List.Sums.{sum_by-cons}
use Rattle.write_format.specs.Line.{Element, Byte, FormatText, HoldsBytes, IsFormatOf, array_of, char_arrays, element_of, format_elements, line_of, numbers_taken, rendered, takes_number}
use Rattle.write_format.specs.Reading.{piece_at, AreSpelled}
use Rattle.write_format.specs.Inside.Shown.{AreShown, is_number, numbers_of, plain_at}
use Rattle.write_format.specs.declared.argument.ArgKind.{ArgKind}
use Rattle.write_format.specs.declared.code.Code as declared
use Rattle.write_format.specs.declared.piece.Piece.{Piece}
use Rattle.write_format.specs.declared.piece.Piece.TheVariants as piece
use Rattle.write_format.proofs.LineLemmas.{line_of-append, line_of_text}
use Rattle.write_format.proofs.ShownLemmas.{all_left, all_right, element_numbers, format_numbers, format_shown, last_spelled, next_spelled, plain_first}

-- what is left to show behind a line, of a text, arguments and numbers
pub record IsToShow (shown : List ℕ) (cells : List ℤ) (line rest : List ℕ) (arguments : List ArgKind) (numbers : List ℤ) : Type 0 where
  pub pieces : List Piece
  pub spelled : AreSpelled rest pieces
  pub shows : AreShown pieces arguments
  pub count : length numbers ≡ count_by is_number arguments
  pub arrays : All (HoldsBytes cells) (filter_map array_of (format_elements pieces arguments))
  pub all : shown ≡ line ++ line_of (format_elements pieces arguments) numbers cells

-- at first all of it is
pub show_begins : (format : FormatText) (numbers cells : List ℤ) → IsFormatOf format.text format.arguments format → length numbers ≡ numbers_taken format
    → All (HoldsBytes cells) (char_arrays format) → IsToShow (rendered format numbers cells) cells [] format.text format.arguments numbers
show_begins format numbers cells is count arrays =
    record {
      pieces = is.pieces;
      spelled = (is.matched).spelled;
      shows = format_shown format.text format.arguments format is;
      count = count ∙ format_numbers format.text format.arguments format is;
      arrays = subst (λ l. All (HoldsBytes cells) (filter_map array_of l)) is.elements arrays;
      all = ap (λ l. line_of l numbers cells) is.elements;
    }

-- bytes before a `%` show themselves
elements_plain : (bytes : List ℕ) (pieces : List Piece) (arguments : List ArgKind)
    → format_elements (map piece.Byte bytes ++ pieces) arguments ≡ map Byte bytes ++ format_elements pieces arguments
elements_plain [] pieces arguments = refl
elements_plain (byte ∷ bytes) pieces arguments = ap (λ l. Byte byte ∷ l) (elements_plain bytes pieces arguments)

-- take no argument
shown_plain : (bytes : List ℕ) (pieces : List Piece) (arguments : List ArgKind) → AreShown (map piece.Byte bytes ++ pieces) arguments → AreShown pieces arguments
shown_plain [] pieces arguments shown = shown
shown_plain (byte ∷ bytes) pieces arguments shown = shown_plain bytes pieces arguments shown

-- and read no array
arrays_plain : (bytes : List ℕ) (elements : List Element) → filter_map array_of (map Byte bytes ++ elements) ≡ filter_map array_of elements
arrays_plain [] elements = refl
arrays_plain (byte ∷ bytes) elements = arrays_plain bytes elements

-- behind some bytes
show_bytes : (shown : List ℕ) (cells : List ℤ) (line : List ℕ) (arguments : List ArgKind) (numbers : List ℤ) (bytes behind : List ℕ) (pieces : List Piece)
    → AreShown (map piece.Byte bytes ++ pieces) arguments → length numbers ≡ count_by is_number arguments
    → All (HoldsBytes cells) (filter_map array_of (format_elements (map piece.Byte bytes ++ pieces) arguments))
    → shown ≡ line ++ line_of (format_elements (map piece.Byte bytes ++ pieces) arguments) numbers cells
    → AreSpelled behind pieces → IsToShow shown cells (line ++ bytes) behind arguments numbers
show_bytes shown cells line arguments numbers bytes behind pieces shows count arrays all spelled =
    let elements = elements_plain bytes pieces arguments in
    record {
      pieces = pieces;
      spelled = spelled;
      shows = shown_plain bytes pieces arguments shows;
      count = count;
      arrays = subst (All (HoldsBytes cells)) (ap (filter_map array_of) elements ∙ arrays_plain bytes (format_elements pieces arguments)) arrays;
      all = all ∙ ap (λ l. line ++ line_of l numbers cells) elements
          ∙ ap (λ l. line ++ l) (line_of_text bytes (format_elements pieces arguments) numbers cells)
          ∙ sym (append_assoc line bytes (line_of (format_elements pieces arguments) numbers cells));
    }

-- behind the bytes before the first `%`
pub show_plain : (shown : List ℕ) (cells : List ℤ) (line rest : List ℕ) (arguments : List ArgKind) (numbers : List ℤ) → IsToShow shown cells line rest arguments numbers
    → IsToShow shown cells (line ++ take (plain_at rest) rest) (drop (plain_at rest) rest) arguments numbers
show_plain shown cells line rest arguments numbers s =
    let first = plain_first rest s.pieces s.spelled in
    show_bytes shown cells line arguments numbers (take (plain_at rest) rest) (drop (plain_at rest) rest) first.more
    (subst (λ l. AreShown l arguments) first.are s.shows) s.count
    (subst (λ l. All (HoldsBytes cells) (filter_map array_of (format_elements l arguments))) first.are s.arrays)
    (s.all ∙ ap (λ l. line ++ line_of (format_elements l arguments) numbers cells) first.are) first.spelled

-- behind a byte
pub show_byte : (shown : List ℕ) (cells : List ℤ) (line rest : List ℕ) (arguments : List ArgKind) (numbers : List ℤ) (byte : ℕ) (behind : List ℕ)
    → IsToShow shown cells line rest arguments numbers → piece_at rest ≡ Some (piece.Byte byte, behind)
    → IsToShow shown cells (line ++ byte ∷ []) behind arguments numbers
show_byte shown cells line rest arguments numbers byte behind s found =
    let next = next_spelled rest s.pieces (piece.Byte byte) behind s.spelled found in
    show_bytes shown cells line arguments numbers (byte ∷ []) behind next.0
    (subst (λ l. AreShown l arguments) next.1 s.shows) s.count
    (subst (λ l. All (HoldsBytes cells) (filter_map array_of (format_elements l arguments))) next.1 s.arrays)
    (s.all ∙ ap (λ l. line ++ line_of (format_elements l arguments) numbers cells) next.1) next.2

-- what a code shows, and what is left behind it
pub record ShowsCode (shown : List ℕ) (cells : List ℤ) (line : List ℕ) (arguments : List ArgKind) (numbers : List ℤ) (code : declared.Code) (behind : List ℕ) (first : ArgKind) : Type 0 where
  pub few : count_by takes_number (element_of code.field code.conversion first) ≤ length numbers
  pub taken : numbers_of first ≤ length numbers
  pub arrays : All (HoldsBytes cells) (filter_map array_of (element_of code.field code.conversion first))
  pub next : IsToShow shown cells (line ++ line_of (element_of code.field code.conversion first) numbers cells) behind (drop 1 arguments) (drop (numbers_of first) numbers)

-- a code whose argument is the first one
code_first : (shown : List ℕ) (cells : List ℤ) (line : List ℕ) (numbers : List ℤ) (code : declared.Code) (behind : List ℕ) (first : ArgKind) (others : List ArgKind) (pieces : List Piece)
    → AreShown (piece.Argument code ∷ pieces) (first ∷ others) → length numbers ≡ count_by is_number (first ∷ others)
    → All (HoldsBytes cells) (filter_map array_of (format_elements (piece.Argument code ∷ pieces) (first ∷ others)))
    → shown ≡ line ++ line_of (format_elements (piece.Argument code ∷ pieces) (first ∷ others)) numbers cells
    → AreSpelled behind pieces → ShowsCode shown cells line (first ∷ others) numbers code behind first
code_first shown cells line numbers code behind first others pieces shows count arrays all spelled =
    let front = element_of code.field code.conversion first in
    let back = format_elements pieces others in
    let takes = element_numbers code.field code.conversion first shows.0 in
    let whole = sum_by-cons numbers_of first others in
    let both : All (HoldsBytes cells) (filter_map array_of front ++ filter_map array_of back) = subst (All (HoldsBytes cells)) (filter_map-append array_of front back) arrays in
    let left = length-drop (numbers_of first) numbers in
    record {
      few = omega (arith, takes, whole, count);
      taken = omega (arith, whole, count);
      arrays = all_left (HoldsBytes cells) (filter_map array_of front) (filter_map array_of back) both;
      next = record {
        pieces = pieces;
        spelled = spelled;
        shows = shows.1;
        count = omega (arith, left, whole, count);
        arrays = all_right (HoldsBytes cells) (filter_map array_of front) (filter_map array_of back) both;
        all = all ∙ ap (λ l. line ++ l) (line_of-append front back numbers cells)
            ∙ ap (λ n. line ++ (line_of front numbers cells ++ line_of back (drop n numbers) cells)) takes
            ∙ sym (append_assoc line (line_of front numbers cells) (line_of back (drop (numbers_of first) numbers) cells));
      };
    }

-- where a code stands, there is an argument for it
pub code_argument : (shown : List ℕ) (cells : List ℤ) (line rest : List ℕ) (arguments : List ArgKind) (numbers : List ℤ) (code : declared.Code) (behind : List ℕ)
    → IsToShow shown cells line rest arguments numbers → piece_at rest ≡ Some (piece.Argument code, behind) → 0 < length arguments
code_argument shown cells line rest arguments numbers code behind s found =
    let next = next_spelled rest s.pieces (piece.Argument code) behind s.spelled found in
    some next.0 arguments (subst (λ l. AreShown l arguments) next.1 s.shows)
  where
    some : (pieces : List Piece) (all : List ArgKind) → AreShown (piece.Argument code ∷ pieces) all → 0 < length all
    some pieces [] shows = absurd shows
    some pieces (first ∷ others) shows = omega arith

-- behind a code
pub show_code : (shown : List ℕ) (cells : List ℤ) (line rest : List ℕ) (arguments : List ArgKind) (numbers : List ℤ) (code : declared.Code) (behind : List ℕ) (first : ArgKind)
    → IsToShow shown cells line rest arguments numbers → piece_at rest ≡ Some (piece.Argument code, behind) → first ≡ get_or arguments 0 first
    → ShowsCode shown cells line arguments numbers code behind first
show_code shown cells line rest [] numbers code behind first s found is =
    absurd (let some = code_argument shown cells line rest [] numbers code behind s found in omega (arith, some))
show_code shown cells line rest (a ∷ others) numbers code behind first s found is =
    let next = next_spelled rest s.pieces (piece.Argument code) behind s.spelled found in
    subst (ShowsCode shown cells line (a ∷ others) numbers code behind) (sym is)
    (code_first shown cells line numbers code behind a others next.0
    (subst (λ l. AreShown l (a ∷ others)) next.1 s.shows) s.count
    (subst (λ l. All (HoldsBytes cells) (filter_map array_of (format_elements l (a ∷ others)))) next.1 s.arrays)
    (s.all ∙ ap (λ l. line ++ line_of (format_elements l (a ∷ others)) numbers cells) next.1) next.2)

-- at the end all is shown
pub show_ends : (shown : List ℕ) (cells : List ℤ) (line rest : List ℕ) (arguments : List ArgKind) (numbers : List ℤ) → IsToShow shown cells line rest arguments numbers
    → piece_at rest ≡ None → shown ≡ line
show_ends shown cells line rest arguments numbers s none =
    s.all ∙ ap (λ l. line ++ line_of (format_elements l arguments) numbers cells) (last_spelled rest s.pieces s.spelled none) ∙ append-nil line

-- the same, told otherwise
pub show_same : (shown : List ℕ) (cells : List ℤ) (line same_line rest : List ℕ) (arguments same_arguments : List ArgKind) (numbers same_numbers : List ℤ)
    → IsToShow shown cells line rest arguments numbers → same_line ≡ line → same_arguments ≡ arguments → same_numbers ≡ numbers
    → IsToShow shown cells same_line rest same_arguments same_numbers
show_same shown cells line same_line rest arguments same_arguments numbers same_numbers s lines given taken =
    subst (λ l. IsToShow shown cells l rest same_arguments same_numbers) (sym lines)
    (subst (λ l. IsToShow shown cells line rest l same_numbers) (sym given)
    (subst (IsToShow shown cells line rest arguments) (sym taken) s))

-- behind the bytes before the first `%`, told otherwise
pub show_on : (shown : List ℕ) (cells : List ℤ) (line next rest behind : List ℕ) (arguments : List ArgKind) (numbers : List ℤ) → IsToShow shown cells line rest arguments numbers
    → next ≡ line ++ take (plain_at rest) rest → behind ≡ drop (plain_at rest) rest → IsToShow shown cells next behind arguments numbers
show_on shown cells line next rest behind arguments numbers s longer shorter =
    subst (λ l. IsToShow shown cells next l arguments numbers) (sym shorter)
    (subst (λ l. IsToShow shown cells l (drop (plain_at rest) rest) arguments numbers) (sym longer)
    (show_plain shown cells line rest arguments numbers s))
