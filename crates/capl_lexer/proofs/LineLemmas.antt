-- That no token has a line end in it, and how far bytes without one lead.
use Rattle.std.proofs.Common.{◌≡◌, ◌≢◌, ◌<◌, ◌≤◌, ◌+◌, ◌-◌, ℕ, zero, suc, Bool, true, false, List, [], ◌∷◌, ◌++◌, length, get_or, take, drop, All, inl, inr, Option, Some, None, refl, sym, ap, subst, ◌∙◌, arith, eqb, length-drop}
use Rattle.std.specs.Prelude.{◌⊎◌, ◌&&◌, not, codes}
use Rattle.std.specs.List.{list_all, suffix_len}
use Rattle.std.proofs.lemmas.Bool.{and_parts}
use Rattle.std.proofs.lemmas.Bool.Decides.{nat_tests}
use Rattle.std.proofs.lemmas.List.{get_or-drop, get_or-take, length-take-le}
use Rattle.std.proofs.lemmas.List.Elements.{All-cons, All-nil, All-append, All-weaker}
use Rattle.std.proofs.lemmas.List.Sums.{count_by_more_no, suffix_len-take_yes, suffix_len-le-length}
use Rattle.text_parts.specs.Number.{IsDigit, IsHexDigit}
use Rattle.capl_lexer.specs.Spelling.{IsLetter, IsNamePart, IsBlankInLine, IsNameByte, IsPlain, IsPlainInChar, IsMarked, IsEscape, IsItem, AreItems, Spells, escaped, sign_spelling, word_spelling}
use Rattle.capl_lexer.specs.Reading.{line_at, column_at}
use Rattle.capl_lexer.specs.Inside.Position.{IsOfLine, IsInLine}
use Rattle.capl_lexer.specs.declared.token.Sign.{Sign}
use Rattle.capl_lexer.specs.declared.token.Sign.TheVariants as sign
use Rattle.capl_lexer.specs.declared.token.Tok.{Tok}
use Rattle.capl_lexer.specs.declared.token.Tok.TheVariants as tok
use Rattle.capl_lexer.proofs.SpellingLemmas.{word-name_form}

-- ---- No token has a line end in it.

digit_in : (byte : ℕ) → IsDigit byte → IsOfLine byte
digit_in byte digit = grind arith

hex_in : (byte : ℕ) → IsHexDigit byte → IsOfLine byte
hex_in byte digit = grind arith

letter_in : (byte : ℕ) → IsLetter byte → IsOfLine byte
letter_in byte letter = grind arith

part_in : (byte : ℕ) → IsNamePart byte → IsOfLine byte
part_in byte part = grind arith

plain_in : (byte : ℕ) → IsPlain byte → IsOfLine byte
plain_in byte plain = plain.2

char_in : (byte : ℕ) → IsPlainInChar byte → IsOfLine byte
char_in byte plain = λ same. absurd (omega (arith, plain.0, same))

blank_in : (byte : ℕ) → IsBlankInLine byte → IsOfLine byte
blank_in byte blank = blank.1

name_byte_in : (byte : ℕ) → IsNameByte byte → IsOfLine byte
name_byte_in byte name = name.1

-- a byte before others
in_cons : (byte : ℕ) (bytes : List ℕ) → IsOfLine byte → IsInLine bytes → IsInLine (byte ∷ bytes)
in_cons byte bytes one all = All-cons IsOfLine byte bytes one all

-- bytes of a class before others
in_append : (P : ℕ → Type 0) → ((byte : ℕ) → P byte → IsOfLine byte) → (bytes rest : List ℕ) → All P bytes
    → IsInLine rest → IsInLine (bytes ++ rest)
in_append P weaker bytes rest all behind = All-append IsOfLine bytes rest (All-weaker P IsOfLine weaker bytes all) behind

-- one byte
in_one : (byte : ℕ) → IsOfLine byte → IsInLine (byte ∷ [])
in_one byte one = in_cons byte [] one (All-nil IsOfLine)

-- whether no byte of them ends a line
abbrev is_in_line : List ℕ → Bool
is_in_line bytes = list_all (λ byte. not (eqb byte 10)) bytes

byte_test : (byte : ℕ) → not (eqb byte 10) ≡ true → IsOfLine byte
byte_test byte e = grind (arith, nat_tests)

line_test : (bytes : List ℕ) → is_in_line bytes ≡ true → IsInLine bytes
line_test [] e = All-nil IsOfLine
line_test (byte ∷ bytes) e =
    let both = and_parts (not (eqb byte 10)) (is_in_line bytes) e in
    in_cons byte bytes (byte_test byte both.0) (line_test bytes both.1)

sign_test : (some : Sign) → is_in_line (sign_spelling some) ≡ true
sign_test sign.OpenBrace = refl
sign_test _ = refl

-- bytes that are the same
same_in : (bytes others : List ℕ) → bytes ≡ others → IsInLine others → IsInLine bytes
same_in bytes others is all = subst IsInLine (sym is) all

marked_in : (bytes front : List ℕ) (ext : Bool) → IsMarked bytes front ext → IsInLine front → IsInLine bytes
marked_in bytes front true (mark, is_mark, is) all =
    let one : IsOfLine mark = grind arith in
    same_in bytes (front ++ mark ∷ []) is (All-append IsOfLine front (mark ∷ []) all (in_one mark one))
marked_in bytes front false is all = same_in bytes front is all

letter_of_escape : (letter value : ℕ) → escaped letter ≡ Some value → IsOfLine letter
letter_of_escape letter value escape = λ same. let none : None ≡ Some value = sym (ap escaped same) ∙ escape in cc

escape_in : (value : ℕ) (text rest : List ℕ) → IsEscape value text rest → IsInLine rest → IsInLine text
escape_in value text rest (inl (letter, is, escape)) all =
    same_in text (92 ∷ letter ∷ rest) is
    (in_cons 92 (letter ∷ rest) (omega arith) (in_cons letter rest (letter_of_escape letter value escape) all))
escape_in value text rest (inr (digits, is, hex, value_is, count)) all =
    same_in text (92 ∷ 120 ∷ digits ++ rest) is
    (in_cons 92 (120 ∷ digits ++ rest) (omega arith)
    (in_cons 120 (digits ++ rest) (omega arith) (in_append IsHexDigit hex_in digits rest hex all)))

item_in : (P : ℕ → Type 0) → ((byte : ℕ) → P byte → IsOfLine byte) → (value : ℕ) (text rest : List ℕ)
    → IsItem P value text rest → IsInLine rest → IsInLine text
item_in P weaker value text rest (inl (plain, is)) all = same_in text (value ∷ rest) is (in_cons value rest (weaker value plain) all)
item_in P weaker value text rest (inr escape) all = escape_in value text rest escape all

items_in : (values text rest : List ℕ) → AreItems values text rest → IsInLine rest → IsInLine text
items_in [] text rest is all = same_in text rest is all
items_in (value ∷ values) text rest (between, item, items) all =
    item_in IsPlain plain_in value text between item (items_in values between rest items all)

-- no byte of a token's spelling ends a line
pub spelling-in_line : (bytes : List ℕ) (token : Tok) → Spells bytes token → IsInLine bytes
spelling-in_line bytes (tok.Name text) (is, name) = All-weaker IsNamePart IsOfLine part_in bytes name.parts
spelling-in_line bytes (tok.Word reserved) is =
    same_in bytes (word_spelling reserved) is
    (All-weaker IsNamePart IsOfLine part_in (word_spelling reserved) (word-name_form reserved).parts)
spelling-in_line bytes (tok.Sign some) is = same_in bytes (sign_spelling some) is (line_test (sign_spelling some) (sign_test some))
spelling-in_line bytes (tok.Num ext value) (number, value_is, inl (digits, some, all, number_is, marked)) =
    marked_in bytes digits ext marked (All-weaker IsDigit IsOfLine digit_in digits all)
spelling-in_line bytes (tok.Num ext value) (number, value_is, inr (digits, x, some, all, x_is, number_is, marked)) =
    let one : IsOfLine x = grind arith in
    marked_in bytes (48 ∷ x ∷ digits) ext marked
    (in_cons 48 (x ∷ digits) (omega arith) (in_cons x digits one (All-weaker IsHexDigit IsOfLine hex_in digits all)))
spelling-in_line bytes tok.Float (whole, fraction, some, all, behind, is) =
    same_in bytes (whole ++ 46 ∷ fraction) is
    (in_append IsDigit digit_in whole (46 ∷ fraction) all
    (in_cons 46 fraction (omega arith) (All-weaker IsDigit IsOfLine digit_in fraction behind)))
spelling-in_line bytes (tok.Char value) (inside, is, item) =
    same_in bytes (39 ∷ inside) is
    (in_cons 39 inside (omega arith)
    (item_in IsPlainInChar char_in value inside (39 ∷ []) item (in_one 39 (omega arith))))
spelling-in_line bytes (tok.Str text) (inside, is, items) =
    same_in bytes (34 ∷ inside) is
    (in_cons 34 inside (omega arith) (items_in text inside (34 ∷ []) items (in_one 34 (omega arith))))
spelling-in_line bytes (tok.Include name) (blanks, all, named, is) =
    same_in bytes (codes "#include" ++ blanks ++ 34 ∷ name ++ 34 ∷ []) is
    (All-append IsOfLine (codes "#include") (blanks ++ 34 ∷ name ++ 34 ∷ []) (line_test (codes "#include") refl)
    (All-append IsOfLine (blanks ++ 34 ∷ name) (34 ∷ [])
    (in_append IsBlankInLine blank_in blanks (34 ∷ name) all
    (in_cons 34 name (omega arith) (All-weaker IsNameByte IsOfLine name_byte_in name named)))
    (in_one 34 (omega arith))))
spelling-in_line bytes tok.Directive (letters, some, all, is) =
    same_in bytes (35 ∷ letters) is (in_cons 35 letters (omega arith) (All-weaker IsLetter IsOfLine letter_in letters all))

-- ---- Bytes without a line end lead to a place in the same line.

byte_no_end : (byte : ℕ) → IsOfLine byte → eqb byte 10 ≡ false
byte_no_end byte one = grind (arith, nat_tests)

byte_goes_on : (byte : ℕ) → IsOfLine byte → not (eqb byte 10) ≡ true
byte_goes_on byte one = ap not (byte_no_end byte one)

column_is : (text : List ℕ) (place : ℕ)
    → column_at text place ≡ 1 + suffix_len (λ byte. not (eqb byte 10)) (take place text)
column_is text place =
    let goes_on : ℕ → Bool = λ byte. not (eqb byte 10) in
    let before = take place text in
    omega (arith, length-drop (length before - suffix_len goes_on before) before, suffix_len-le-length goes_on before)

-- the bytes from a place on that are in its line, by their places
abbrev AreOfLine : List ℕ → ℕ → ℕ → Type 0
AreOfLine text place count = (k : ℕ) → k < count → IsOfLine (get_or text (place + k) 0)

-- the line and the column of the place behind such bytes
pub record IsAlong (text : List ℕ) (place count : ℕ) : Type 0 where
  pub line : line_at text (place + count) ≡ line_at text place
  pub column : column_at text (place + count) ≡ column_at text place + count

along_one : (text : List ℕ) (place : ℕ) → place < length text → IsOfLine (get_or text place 0) → IsAlong text place 1
along_one text place within one =
    let goes_on : ℕ → Bool = λ byte. not (eqb byte 10) in
    let back : place + 1 - 1 ≡ place = omega arith in
    let passes : goes_on (get_or text (place + 1 - 1) 0) ≡ true =
    subst (λ n. goes_on (get_or text n 0) ≡ true) (sym back) (byte_goes_on (get_or text place 0) one) in
    let more = suffix_len-take_yes goes_on text (place + 1) 0 (omega arith) (omega arith) passes in
    let same : suffix_len goes_on (take (place + 1 - 1) text) ≡ suffix_len goes_on (take place text) =
    ap (λ n. suffix_len goes_on (take n text)) back in
    record {
      line = ap (λ n. 1 + n) (count_by_more_no (λ byte. eqb byte 10) text place 0 within (byte_no_end (get_or text place 0) one));
      column = omega (arith, column_is text (place + 1), column_is text place, more, same);
    }

along_by_places : (text : List ℕ) (place count : ℕ) → place + count ≤ length text → AreOfLine text place count
    → IsAlong text place count
along_by_places text place zero within all =
    let same : place + 0 ≡ place = omega arith in
    record { line = ap (line_at text) same; column = omega (arith, ap (column_at text) same) }
along_by_places text place (suc count) within all =
    let before = along_by_places text place count (omega arith) (λ k below. all k (omega arith)) in
    let last = along_one text (place + count) (omega arith) (all count (omega arith)) in
    let same : place + suc count ≡ place + count + 1 = omega arith in
    record {
      line = ap (line_at text) same ∙ last.line ∙ before.line;
      column = omega (arith, ap (column_at text) same, last.column, before.column);
    }

-- bytes without a line end lead to a place in the same line
pub along : (text : List ℕ) (place count : ℕ) → place + count ≤ length text → IsInLine (take count (drop place text))
    → IsAlong text place count
along text place count within all =
    let size : length (take count (drop place text)) ≡ count =
    length-take-le count (drop place text) (omega (arith, length-drop place text)) in
    along_by_places text place count within (λ k below.
    let at : get_or (take count (drop place text)) k 0 ≡ get_or text (place + k) 0 =
    get_or-take count (drop place text) k 0 below ∙ get_or-drop place text k 0 in
    subst IsOfLine at (all k 0 (omega (arith, size))))
