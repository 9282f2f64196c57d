-- The text of parts in a row.
use Rattle.std.proofs.Common.{◌≡◌, ◌<◌, ◌≤◌, ◌+◌, ℕ, Bool, true, false, cond, List, [], ◌∷◌, ◌++◌, length, get_or, take, drop, refl, sym, ap, ◌∙◌, append_assoc, arith, to_z, of_z}
use Rattle.std.specs.Prelude.{ℤ, pos, negsuc, ◌≤ℤ◌, ◌==◌, count_by, map, unsigned_abs}
use Rattle.std.specs.Int.{w128}
use Rattle.std.proofs.lemmas.Int.{ints, to_z-of_z}
use Rattle.std.proofs.lemmas.List.{drop-drop, get_or-map, length-map, map-append, take-map, take_more}
use Rattle.std.proofs.lemmas.List.Sums.{position_or_len_is, sum_by-cons}
use Rattle.write_format.specs.Line.{Element, Byte, Number, Character, Chars, Str, takes_number, character_of, filled, first_argument, line_of, number_text, text_in, cells_of}

-- bytes are written as they are
pub line_of_text : (bytes : List ℕ) (elements : List Element) (numbers cells : List ℤ)
    → line_of (map Byte bytes ++ elements) numbers cells ≡ bytes ++ line_of elements numbers cells
line_of_text [] elements numbers cells = refl
line_of_text (byte ∷ bytes) elements numbers cells = ap (λ l. byte ∷ l) (line_of_text bytes elements numbers cells)

-- how many numbers these parts take
abbrev pub taken_by : List Element → ℕ
taken_by elements = count_by takes_number elements

-- 1 where something is so
abbrev number_if : Bool → ℕ
number_if so = cond so 1 0

-- how many one part takes
abbrev taken_at : Element → ℕ
taken_at element = cond (takes_number element) 1 0

-- a part that takes none
takes_none : (element : Element) (elements : List Element) → takes_number element ≡ false → taken_by (element ∷ elements) ≡ taken_by elements
takes_none element elements none =
    let first = sum_by-cons (λ e. cond (takes_number e) 1 0) element elements in
    let value : taken_at element ≡ 0 = ap number_if none in
    omega (arith, first, value)

-- a part that takes one
takes_one : (element : Element) (elements : List Element) → takes_number element ≡ true → taken_by (element ∷ elements) ≡ 1 + taken_by elements
takes_one element elements one =
    let first = sum_by-cons (λ e. cond (takes_number e) 1 0) element elements in
    let value : taken_at element ≡ 1 = ap number_if one in
    omega (arith, first, value)

-- the numbers behind those that the parts take
behind_one : (element : Element) (elements : List Element) (numbers : List ℤ) → takes_number element ≡ true
    → drop (taken_by elements) (drop 1 numbers) ≡ drop (taken_by (element ∷ elements)) numbers
behind_one element elements numbers one = drop-drop (taken_by elements) 1 numbers ∙ ap (λ n. drop n numbers) (sym (takes_one element elements one))

-- the same of a part that takes none
behind_none : (element : Element) (elements : List Element) (numbers : List ℤ) → takes_number element ≡ false
    → drop (taken_by elements) numbers ≡ drop (taken_by (element ∷ elements)) numbers
behind_none element elements numbers none = ap (λ n. drop n numbers) (sym (takes_none element elements none))

-- parts in a row
pub line_of-append : (elements more : List Element) (numbers cells : List ℤ)
    → line_of (elements ++ more) numbers cells ≡ line_of elements numbers cells ++ line_of more (drop (taken_by elements) numbers) cells
line_of-append [] more numbers cells = refl
line_of-append (Byte byte ∷ elements) more numbers cells =
    ap (λ l. byte ∷ l) (line_of-append elements more numbers cells)
    ∙ ap (λ l. (byte ∷ line_of elements numbers cells) ++ line_of more l cells) (behind_none (Byte byte) elements numbers refl)
line_of-append (Number field kind digits ∷ elements) more numbers cells =
    let text = number_text field kind digits (first_argument numbers) in
    let rest = line_of elements (drop 1 numbers) cells in
    ap (λ l. text ++ l) (line_of-append elements more (drop 1 numbers) cells)
    ∙ sym (append_assoc text rest (line_of more (drop (taken_by elements) (drop 1 numbers)) cells))
    ∙ ap (λ l. (text ++ rest) ++ line_of more l cells) (behind_one (Number field kind digits) elements numbers refl)
line_of-append (Character field ∷ elements) more numbers cells =
    let text = filled field (character_of (first_argument numbers)) in
    let rest = line_of elements (drop 1 numbers) cells in
    ap (λ l. text ++ l) (line_of-append elements more (drop 1 numbers) cells)
    ∙ sym (append_assoc text rest (line_of more (drop (taken_by elements) (drop 1 numbers)) cells))
    ∙ ap (λ l. (text ++ rest) ++ line_of more l cells) (behind_one (Character field) elements numbers refl)
line_of-append (Chars field base len ∷ elements) more numbers cells =
    let text = filled field (text_in (cells_of base len cells)) in
    let rest = line_of elements numbers cells in
    ap (λ l. text ++ l) (line_of-append elements more numbers cells)
    ∙ sym (append_assoc text rest (line_of more (drop (taken_by elements) numbers) cells))
    ∙ ap (λ l. (text ++ rest) ++ line_of more l cells) (behind_none (Chars field base len) elements numbers refl)
line_of-append (Str field shown ∷ elements) more numbers cells =
    let text = filled field shown in
    let rest = line_of elements numbers cells in
    ap (λ l. text ++ l) (line_of-append elements more numbers cells)
    ∙ sym (append_assoc text rest (line_of more (drop (taken_by elements) numbers) cells))
    ∙ ap (λ l. (text ++ rest) ++ line_of more l cells) (behind_none (Str field shown) elements numbers refl)

-- the text in cells, up to a place before which none is 0, and which is the end or holds a 0
pub text_in_is : (cells : List ℤ) (place : ℕ) → place ≤ length cells → ((k : ℕ) → k < place → (unsigned_abs (get_or cells k (pos 0)) == 0) ≡ false)
    → (place < length cells → unsigned_abs (get_or cells place (pos 0)) ≡ 0) → map unsigned_abs (take place cells) ≡ text_in cells
text_in_is cells place within before at =
    let bytes = map unsigned_abs cells in
    let count : length bytes ≡ length cells = length-map cells unsigned_abs in
    let found = position_or_len_is (λ byte. byte == 0) bytes place 0 (omega (arith, within, count))
    (λ k low. ap (λ n. n == 0) (get_or-map unsigned_abs cells k (pos 0) 0 (omega (arith, low, within))) ∙ before k low)
    (λ more. ap (λ n. n == 0) (get_or-map unsigned_abs cells place (pos 0) 0 (omega (arith, more, count)) ∙ at (omega (arith, more, count)))) in
    sym (take-map unsigned_abs place cells) ∙ ap (λ n. take n bytes) (sym found)

-- the bytes of one more cell
pub bytes_more : (cells : List ℤ) (i : ℕ) → i < length cells
    → map unsigned_abs (take (i + 1) cells) ≡ map unsigned_abs (take i cells) ++ unsigned_abs (get_or cells i (pos 0)) ∷ []
bytes_more cells i within = ap (map unsigned_abs) (take_more cells i (pos 0) within) ∙ map-append unsigned_abs (take i cells) (get_or cells i (pos 0) ∷ [])

-- a byte is read back as it was written
pub byte_read_back : (n : ℤ) → (pos 0 ≤ℤ n) × (n ≤ℤ pos 255) → to_z w128 (of_z w128 n) ≡ n
byte_read_back (pos n) is = to_z-of_z w128 (pos n) (record { sfits = let most = is.1 in omega (arith, ints, most) })
byte_read_back (negsuc n) is = absurd (let least = is.0 in omega (arith, ints, least))
