-- Whether bytes spell a token.
use Rattle.std.proofs.Common.{◌≡◌, ◌≢◌, ◌<◌, ◌≤◌, ℕ, zero, suc, Bool, true, false, List, [], ◌∷◌, ◌++◌, length, Option, Some, None, inl, inr, refl, sym, ap, subst, ◌∙◌, arith, All, append-nil, append_assoc, length-append}
use Rattle.std.specs.Prelude.{◌⊎◌, codes}
use Rattle.std.specs.List.{list_any}
use Rattle.std.specs.Str.{bytes_eq}
use Rattle.std.proofs.lemmas.Bool.{false≢true}
use Rattle.std.proofs.lemmas.Slice.Eq.{bytes_eq-Decides}
use Rattle.text_parts.specs.Number.{IsDigit, IsHexDigit, number_in, number_of_64_bits}
use Rattle.capl_lexer.specs.Spelling.{IsBlank, IsBlankInLine, IsLetter, IsMark, IsHexDigitFront, word_spelling, sign_spelling, IsName, IsMarked, IsDecimal, IsHexadecimal, IsFloat, escaped, IsEscape, IsPlain, IsPlainInChar, IsItem, AreItems, IsChar, IsString, IsNameByte, IsInclude, IsDirective, Spells}
use Rattle.capl_lexer.specs.Name.{reserved_words, is_reserved}
use Rattle.capl_lexer.specs.declared.token.Word.{Word}
use Rattle.capl_lexer.specs.declared.token.Word.TheVariants as word
use Rattle.capl_lexer.specs.declared.token.Sign.{Sign}
use Rattle.capl_lexer.specs.declared.token.Sign.TheVariants as sign
use Rattle.capl_lexer.specs.declared.token.Tok.{Tok}
use Rattle.capl_lexer.specs.declared.token.Tok.TheVariants as tok
use Rattle.capl_lexer.proofs.NameTests.{is_name-Decides}
use Rattle.whole_readings.proofs.Known.{Known, known_by, known_both, known_three, known_either, known_not, known_same, known_le, known_text, known_told, known_all, known_split, any_found, same_heads, HasSplit}

-- ---- bytes

-- whether a byte is a decimal digit
pub known_digit : (byte : ℕ) → Known (IsDigit byte)
known_digit byte = known_both (known_le 48 byte) (known_le byte 57)

-- whether it is a hexadecimal digit
pub known_hex_digit : (byte : ℕ) → Known (IsHexDigit byte)
known_hex_digit byte =
    known_either (known_digit byte) (known_either (known_both (known_le 65 byte) (known_le byte 70)) (known_both (known_le 97 byte) (known_le byte 102)))

-- whether it is a blank
pub known_blank : (byte : ℕ) → Known (IsBlank byte)
known_blank byte = known_either (known_both (known_le 9 byte) (known_le byte 13)) (known_same byte 32)

known_other : (byte other : ℕ) → Known (byte ≢ other)
known_other byte other = known_not (known_same byte other)

known_blank_in_line : (byte : ℕ) → Known (IsBlankInLine byte)
known_blank_in_line byte = known_both (known_blank byte) (known_other byte 10)

known_letter : (byte : ℕ) → Known (IsLetter byte)
known_letter byte = known_either (known_both (known_le 65 byte) (known_le byte 90)) (known_both (known_le 97 byte) (known_le byte 122))

known_mark : (byte : ℕ) → Known (IsMark byte)
known_mark byte = known_either (known_same byte 120) (known_same byte 88)

known_plain : (byte : ℕ) → Known (IsPlain byte)
known_plain byte = known_three (known_other byte 34) (known_other byte 92) (known_other byte 10)

known_plain_in_char : (byte : ℕ) → Known (IsPlainInChar byte)
known_plain_in_char byte = known_three (known_le 32 byte) (known_other byte 39) (known_other byte 92)

known_name_byte : (byte : ℕ) → Known (IsNameByte byte)
known_name_byte byte = known_both (known_other byte 34) (known_other byte 10)

known_some : (bytes : List ℕ) → Known (bytes ≢ [])
known_some bytes = known_not (known_text bytes [])

-- ---- names, words and signs

known_name : (bytes : List ℕ) → Known (IsName bytes)
known_name bytes = known_told _ (is_name-Decides bytes)

all_signs : List Sign
all_signs =
    sign.OpenBrace ∷ sign.CloseBrace ∷ sign.OpenParen ∷ sign.CloseParen ∷ sign.OpenBracket ∷ sign.CloseBracket
    ∷ sign.Semi ∷ sign.Comma ∷ sign.Colon ∷ sign.Scope ∷ sign.Question ∷ sign.Dot ∷ sign.Dollar ∷ sign.At
    ∷ sign.Tilde ∷ sign.Bang ∷ sign.Assign ∷ sign.Equal ∷ sign.NotEqual ∷ sign.Less ∷ sign.LessEqual
    ∷ sign.Greater ∷ sign.GreaterEqual ∷ sign.ShiftLeft ∷ sign.ShiftRight ∷ sign.Plus ∷ sign.Minus ∷ sign.Star
    ∷ sign.Slash ∷ sign.Percent ∷ sign.Amp ∷ sign.Bar ∷ sign.Caret ∷ sign.AndAnd ∷ sign.OrOr ∷ sign.PlusPlus
    ∷ sign.MinusMinus ∷ sign.PlusAssign ∷ sign.MinusAssign ∷ sign.StarAssign ∷ sign.SlashAssign
    ∷ sign.PercentAssign ∷ sign.AmpAssign ∷ sign.BarAssign ∷ sign.CaretAssign ∷ sign.ShiftLeftAssign
    ∷ sign.ShiftRightAssign ∷ []

is_sign : List ℕ → Bool
is_sign bytes = list_any (λ some. bytes_eq bytes (sign_spelling some)) all_signs

-- each sign and each word is among them
sign_told : (some : Sign) → is_sign (sign_spelling some) ≡ true
unfolding is_sign all_signs
sign_told sign.OpenBrace = refl
sign_told _ = refl

word_told : (some : Word) → is_reserved (word_spelling some) ≡ true
word_told word.Includes = refl
word_told _ = refl

known_sign : (bytes : List ℕ) → Known ((some : Sign) × (bytes ≡ sign_spelling some))
unfolding is_sign
known_sign bytes = by (is_sign bytes) refl
  where
    by : (told : Bool) → is_sign bytes ≡ told → Known ((some : Sign) × (bytes ≡ sign_spelling some))
    by true is = let (some, same) = any_found (λ some. bytes_eq bytes (sign_spelling some)) all_signs is in inl (some, (bytes_eq-Decides bytes (sign_spelling some)).0 same)
    by false is = inr (λ some. false≢true (sym is ∙ ap is_sign some.1 ∙ sign_told some.0))

known_word : (bytes : List ℕ) → Known ((some : Word) × (bytes ≡ word_spelling some))
known_word bytes = by (is_reserved bytes) refl
  where
    by : (told : Bool) → is_reserved bytes ≡ told → Known ((some : Word) × (bytes ≡ word_spelling some))
    by true is = let (some, same) = any_found (λ some. bytes_eq bytes (word_spelling some)) reserved_words is in inl (some, (bytes_eq-Decides bytes (word_spelling some)).0 same)
    by false is = inr (λ some. false≢true (sym is ∙ ap is_reserved some.1 ∙ word_told some.0))

-- ---- numbers

-- nothing, or a mark
abbrev IsMarkOrNothing : List ℕ → Type 0
IsMarkOrNothing [] = Unit {0}
IsMarkOrNothing (byte ∷ []) = IsMark byte
IsMarkOrNothing (byte ∷ next ∷ bytes) = ⊥

known_mark_or_nothing : (bytes : List ℕ) → Known (IsMarkOrNothing bytes)
known_mark_or_nothing [] = inl tt
known_mark_or_nothing (byte ∷ []) = known_mark byte
known_mark_or_nothing (byte ∷ next ∷ bytes) = inr (λ none. none)

-- digits of a kind, and perhaps a mark
abbrev AreMarkedDigits : (ℕ → Type 0) → List ℕ → List ℕ → Type 0
AreMarkedDigits IsOne digits mark = (digits ≢ []) × All IsOne digits × IsMarkOrNothing mark

known_marked_digits : (IsOne : ℕ → Type 0) → ((byte : ℕ) → Known (IsOne byte)) → (bytes : List ℕ)
    → Known (HasSplit (AreMarkedDigits IsOne) bytes)
known_marked_digits IsOne known bytes =
    known_split (AreMarkedDigits IsOne) bytes
    (λ digits mark split. known_three (known_some digits) (known_all IsOne known digits) (known_mark_or_nothing mark))

marked_from : (bytes front mark : List ℕ) → bytes ≡ front ++ mark → IsMarkOrNothing mark → (ext : Bool) × IsMarked bytes front ext
marked_from bytes front [] split is = (false, split ∙ append-nil front)
marked_from bytes front (byte ∷ []) split is = (true, (byte, is, split))
marked_from bytes front (byte ∷ next ∷ more) split is = absurd is

from_marked : (bytes front : List ℕ) (ext : Bool) → IsMarked bytes front ext → (mark : List ℕ) × (bytes ≡ front ++ mark) × IsMarkOrNothing mark
from_marked bytes front true (mark, is_mark, split) = (mark ∷ [], split, is_mark)
from_marked bytes front false is = ([], is ∙ sym (append-nil front), tt)

-- a number in decimal digits
abbrev IsAnyDecimal : List ℕ → Type 0
IsAnyDecimal bytes = (number : ℕ) × (ext : Bool) × IsDecimal bytes number ext

known_decimal : (bytes : List ℕ) → Known (IsAnyDecimal bytes)
known_decimal bytes = known_by there back (known_marked_digits IsDigit known_digit bytes)
  where
    there : HasSplit (AreMarkedDigits IsDigit) bytes → IsAnyDecimal bytes
    there (digits, mark, split, (some, all, is)) =
        let marked = marked_from bytes digits mark split is in
        (number_in 10 digits, marked.0, (digits, some, all, refl, marked.1))

    back : IsAnyDecimal bytes → HasSplit (AreMarkedDigits IsDigit) bytes
    back (number, ext, (digits, some, all, number_is, is)) =
        let marked = from_marked bytes digits ext is in (digits, marked.0, marked.1, (some, all, marked.2))

-- a number in hexadecimal digits
abbrev IsAnyHexadecimal : List ℕ → Type 0
IsAnyHexadecimal bytes = (number : ℕ) × (ext : Bool) × IsHexadecimal bytes number ext

-- the digits behind `0x`
abbrev IsHexForm : List ℕ → Type 0
IsHexForm (first ∷ x ∷ bytes) = (first ≡ 48) × IsMark x × HasSplit (AreMarkedDigits IsHexDigit) bytes
IsHexForm _ = ⊥

known_hex_form : (bytes : List ℕ) → Known (IsHexForm bytes)
known_hex_form [] = inr (λ none. none)
known_hex_form (byte ∷ []) = inr (λ none. none)
known_hex_form (first ∷ x ∷ bytes) = known_three (known_same first 48) (known_mark x) (known_marked_digits IsHexDigit known_hex_digit bytes)

hex_there : (bytes : List ℕ) → IsHexForm bytes → IsAnyHexadecimal bytes
hex_there [] none = absurd none
hex_there (byte ∷ []) none = absurd none
hex_there (first ∷ x ∷ bytes) (is, is_mark, (digits, mark, split, (some, all, is_end))) =
    let whole : first ∷ x ∷ bytes ≡ (48 ∷ x ∷ digits) ++ mark = ap (λ b. b ∷ x ∷ bytes) is ∙ ap (λ l. 48 ∷ x ∷ l) split in
    let marked = marked_from (first ∷ x ∷ bytes) (48 ∷ x ∷ digits) mark whole is_end in
    (number_in 16 digits, marked.0, (digits, x, some, all, is_mark, refl, marked.1))

hex_back : (bytes : List ℕ) → IsAnyHexadecimal bytes → IsHexForm bytes
hex_back bytes (number, ext, (digits, x, some, all, is_mark, number_is, is)) =
    let marked = from_marked bytes (48 ∷ x ∷ digits) ext is in
    subst IsHexForm (sym marked.1) (refl, is_mark, (digits, marked.0, refl, (some, all, marked.2)))

known_hexadecimal : (bytes : List ℕ) → Known (IsAnyHexadecimal bytes)
known_hexadecimal bytes = known_by (hex_there bytes) (hex_back bytes) (known_hex_form bytes)

-- a point and digits
abbrev IsPointed : List ℕ → Type 0
IsPointed [] = ⊥
IsPointed (byte ∷ bytes) = (byte ≡ 46) × All IsDigit bytes

known_pointed : (bytes : List ℕ) → Known (IsPointed bytes)
known_pointed [] = inr (λ none. none)
known_pointed (byte ∷ bytes) = known_both (known_same byte 46) (known_all IsDigit known_digit bytes)

-- digits before a point
abbrev IsWhole : List ℕ → List ℕ → Type 0
IsWhole whole behind = (whole ≢ []) × All IsDigit whole × IsPointed behind

known_float : (bytes : List ℕ) → Known (IsFloat bytes)
known_float bytes =
    known_by there back (known_split IsWhole bytes (λ whole behind split. known_three (known_some whole) (known_all IsDigit known_digit whole) (known_pointed behind)))
  where
    there : HasSplit IsWhole bytes → IsFloat bytes
    there (whole, [], split, (some, all, none)) = absurd none
    there (whole, byte ∷ fraction, split, (some, all, (is, digits))) =
        (whole, fraction, some, all, digits, split ∙ ap (λ b. whole ++ b ∷ fraction) is)

    back : IsFloat bytes → HasSplit IsWhole bytes
    back (whole, fraction, some, all, digits, split) = (whole, 46 ∷ fraction, split, (some, all, (refl, digits)))

-- ---- characters and strings

abbrev IsHexFront : List ℕ → List ℕ → List ℕ → Type 0
IsHexFront rest digits behind =
    (behind ≡ rest) × All IsHexDigit digits × ((length digits ≡ 2) ⊎ ((length digits ≡ 1) × (IsHexDigitFront rest → ⊥)))

known_hex_digit_front : (bytes : List ℕ) → Known (IsHexDigitFront bytes)
known_hex_digit_front [] = inr (λ none. none)
known_hex_digit_front (byte ∷ bytes) = known_hex_digit byte

-- an escape at the front of a text, before this rest
abbrev IsAnyEscape : List ℕ → List ℕ → Type 0
IsAnyEscape text rest = (value : ℕ) × IsEscape value text rest

abbrev IsLetterForm : List ℕ → List ℕ → Type 0
IsLetterForm rest (slash ∷ letter ∷ behind) = (slash ≡ 92) × (behind ≡ rest) × ((value : ℕ) × (escaped letter ≡ Some value))
IsLetterForm rest _ = ⊥

abbrev IsHexEscapeForm : List ℕ → List ℕ → Type 0
IsHexEscapeForm rest (slash ∷ x ∷ behind) = (slash ≡ 92) × (x ≡ 120) × HasSplit (IsHexFront rest) behind
IsHexEscapeForm rest _ = ⊥

known_option : (o : Option ℕ) → Known ((value : ℕ) × (o ≡ Some value))
known_option None = inr (λ some. let e = some.1 in cc)
known_option (Some value) = inl (value, refl)

known_letter_form : (rest text : List ℕ) → Known (IsLetterForm rest text)
known_letter_form rest [] = inr (λ none. none)
known_letter_form rest (byte ∷ []) = inr (λ none. none)
known_letter_form rest (slash ∷ letter ∷ behind) = known_three (known_same slash 92) (known_text behind rest) (known_option (escaped letter))

known_hex_escape_form : (rest text : List ℕ) → Known (IsHexEscapeForm rest text)
known_hex_escape_form rest [] = inr (λ none. none)
known_hex_escape_form rest (byte ∷ []) = inr (λ none. none)
known_hex_escape_form rest (slash ∷ x ∷ behind) =
    known_three (known_same slash 92) (known_same x 120) (known_split (IsHexFront rest) behind
    (λ digits more split. known_three (known_text more rest) (known_all IsHexDigit known_hex_digit digits)
    (known_either (known_same (length digits) 2) (known_both (known_same (length digits) 1) (known_not (known_hex_digit_front rest))))))

letter_there : (rest text : List ℕ) → IsLetterForm rest text → IsAnyEscape text rest
letter_there rest [] none = absurd none
letter_there rest (byte ∷ []) none = absurd none
letter_there rest (slash ∷ letter ∷ behind) (is, same, (value, stands)) =
    (value, inl (letter, ap (λ s. s ∷ letter ∷ behind) is ∙ ap (λ l. 92 ∷ letter ∷ l) same, stands))

hex_escape_there : (rest text : List ℕ) → IsHexEscapeForm rest text → IsAnyEscape text rest
hex_escape_there rest [] none = absurd none
hex_escape_there rest (byte ∷ []) none = absurd none
hex_escape_there rest (slash ∷ x ∷ behind) (is, x_is, (digits, more, split, (same, all, long))) = (
  number_in 16 digits,
  inr (
    digits,
    ap (λ s. s ∷ x ∷ behind) is ∙ ap (λ b. 92 ∷ b ∷ behind) x_is ∙ ap (λ l. 92 ∷ 120 ∷ l) (split ∙ ap (λ l. digits ++ l) same),
    all,
    refl,
    long,
  ),
)

escape_there : (rest text : List ℕ) → IsLetterForm rest text ⊎ IsHexEscapeForm rest text → IsAnyEscape text rest
escape_there rest text (inl form) = letter_there rest text form
escape_there rest text (inr form) = hex_escape_there rest text form

escape_back : (rest text : List ℕ) → IsAnyEscape text rest → IsLetterForm rest text ⊎ IsHexEscapeForm rest text
escape_back rest text (value, inl (letter, split, stands)) =
    inl (subst (IsLetterForm rest) (sym split) (refl, refl, (value, stands)))
escape_back rest text (value, inr (digits, split, all, value_is, long)) =
    inr (subst (IsHexEscapeForm rest) (sym split) (refl, refl, (digits, rest, refl, (refl, all, long))))

known_escape : (rest text : List ℕ) → Known (IsAnyEscape text rest)
known_escape rest text =
    known_by (escape_there rest text) (escape_back rest text)
    (known_either (known_letter_form rest text) (known_hex_escape_form rest text))

-- what stands for a byte at the front of a text, before this rest
abbrev IsAnyItem : (ℕ → Type 0) → List ℕ → List ℕ → Type 0
IsAnyItem IsPlainByte text rest = (value : ℕ) × IsItem IsPlainByte value text rest

abbrev IsPlainForm : (ℕ → Type 0) → List ℕ → List ℕ → Type 0
IsPlainForm IsPlainByte rest [] = ⊥
IsPlainForm IsPlainByte rest (byte ∷ behind) = IsPlainByte byte × (behind ≡ rest)

known_plain_form : (IsPlainByte : ℕ → Type 0) → ((byte : ℕ) → Known (IsPlainByte byte)) → (rest text : List ℕ) → Known (IsPlainForm IsPlainByte rest text)
known_plain_form IsPlainByte known rest [] = inr (λ none. none)
known_plain_form IsPlainByte known rest (byte ∷ behind) = known_both (known byte) (known_text behind rest)

item_there : (IsPlainByte : ℕ → Type 0) (rest text : List ℕ) → IsPlainForm IsPlainByte rest text ⊎ IsAnyEscape text rest → IsAnyItem IsPlainByte text rest
item_there IsPlainByte rest [] (inl none) = absurd none
item_there IsPlainByte rest (byte ∷ behind) (inl (plain, same)) = (byte, inl (plain, ap (λ l. byte ∷ l) same))
item_there IsPlainByte rest text (inr (value, escape)) = (value, inr escape)

item_back : (IsPlainByte : ℕ → Type 0) (rest text : List ℕ) → IsAnyItem IsPlainByte text rest → IsPlainForm IsPlainByte rest text ⊎ IsAnyEscape text rest
item_back IsPlainByte rest text (value, inl (plain, split)) = inl (subst (IsPlainForm IsPlainByte rest) (sym split) (plain, refl))
item_back IsPlainByte rest text (value, inr escape) = inr (value, escape)

known_item : (IsPlainByte : ℕ → Type 0) → ((byte : ℕ) → Known (IsPlainByte byte)) → (rest text : List ℕ) → Known (IsAnyItem IsPlainByte text rest)
known_item IsPlainByte known rest text =
    known_by (item_there IsPlainByte rest text) (item_back IsPlainByte rest text)
    (known_either (known_plain_form IsPlainByte known rest text) (known_escape rest text))

-- a character of some value
abbrev IsAnyChar : List ℕ → Type 0
IsAnyChar bytes = (value : ℕ) × IsChar bytes value

known_char : (bytes : List ℕ) → Known (IsAnyChar bytes)
known_char [] = inr (λ some. let e = some.1.1 in cc)
known_char (byte ∷ inside) =
    known_by (λ both. (both.1.0, (inside, ap (λ b. b ∷ inside) both.0, both.1.1))) back
    (known_both (known_same byte 39) (known_item IsPlainInChar known_plain_in_char (39 ∷ []) inside))
  where
    back : IsAnyChar (byte ∷ inside) → (byte ≡ 39) × IsAnyItem IsPlainInChar inside (39 ∷ [])
    back (value, (within, split, item)) =
        let same = same_heads byte 39 inside within split in
        (same.0, (value, subst (λ l. IsItem IsPlainInChar value l (39 ∷ [])) (sym same.1) item))

-- items of some values at the front of a text, before this rest
abbrev AreAnyItems : List ℕ → List ℕ → Type 0
AreAnyItems rest text = (values : List ℕ) × AreItems values text rest

-- an item, and items behind it
abbrev IsItemAndMore : List ℕ → List ℕ → List ℕ → List ℕ → Type 0
IsItemAndMore rest text front behind = (front ≢ []) × IsAnyItem IsPlain text behind × AreAnyItems rest behind

item_shorter : (value : ℕ) (text rest : List ℕ) → IsItem IsPlain value text rest → length rest < length text
item_shorter value text rest (inl (plain, split)) = let long = ap length split in omega (arith, long)
item_shorter value text rest (inr (inl (letter, split, stands))) = let long = ap length split in omega (arith, long)
item_shorter value text rest (inr (inr (digits, split, all, value_is, long))) =
    let whole = ap length split in omega (arith, whole, length-append digits rest)

front_some : (text front behind : List ℕ) → text ≡ front ++ behind → length behind < length text → front ≢ []
front_some text front behind split shorter none =
    let long : length text ≡ length behind = ap length (split ∙ ap (λ l. l ++ behind) none) in omega (arith, long, shorter)

shorter_behind : (text front behind : List ℕ) → text ≡ front ++ behind → front ≢ [] → length behind < length text
shorter_behind text [] behind split some = absurd (some refl)
shorter_behind text (byte ∷ front) behind split some =
    let long : length text ≡ suc (length (front ++ behind)) = ap length split in omega (arith, long, length-append front behind)

items_there : (rest text : List ℕ) → HasSplit (IsItemAndMore rest text) text → AreAnyItems rest text
items_there rest text (front, behind, split, (some, item, more)) = (item.0 ∷ more.0, (behind, item.1, more.1))

-- an item is some bytes before what is behind it
plain_split : (IsPlainByte : ℕ → Type 0) (value : ℕ) (text rest : List ℕ) → IsItem IsPlainByte value text rest → (front : List ℕ) × (text ≡ front ++ rest)
plain_split IsPlainByte value text rest (inl (plain, split)) = (value ∷ [], split)
plain_split IsPlainByte value text rest (inr (inl (letter, split, stands))) = (92 ∷ letter ∷ [], split)
plain_split IsPlainByte value text rest (inr (inr (digits, split, all, value_is, long))) = (92 ∷ 120 ∷ digits, split)

items_back : (rest text : List ℕ) → text ≢ rest → AreAnyItems rest text → HasSplit (IsItemAndMore rest text) text
items_back rest text other ([], same) = absurd (other same)
items_back rest text other (value ∷ values, (between, item, more)) =
    let front = plain_split IsPlain value text between item in (
      front.0,
      between,
      front.1,
      (front_some text front.0 between front.1 (item_shorter value text between item), (value, item), (values, more)),
    )

items_by : (rest text : List ℕ) → Known (text ≡ rest) → Known (HasSplit (IsItemAndMore rest text) text) → Known (AreAnyItems rest text)
items_by rest text (inl same) known = inl ([], same)
items_by rest text (inr other) known = known_by (items_there rest text) (items_back rest text other) known

-- some bytes, an item and what is behind it
known_item_and_more : (rest text front behind : List ℕ) → (front ≢ [] → Known (AreAnyItems rest behind)) → Known (IsItemAndMore rest text front behind)
known_item_and_more rest text [] behind known = inr (λ all. all.0 refl)
known_item_and_more rest text (byte ∷ front) behind known =
    known_three (known_some (byte ∷ front)) (known_item IsPlain known_plain behind text) (known (λ none. cc))

-- items at the front of a text of at most so many bytes
known_items : (most : ℕ) (rest text : List ℕ) → length text ≤ most → Known (AreAnyItems rest text)
known_items zero rest text within =
    items_by rest text (known_text text rest) (known_split (IsItemAndMore rest text) text
    (λ front behind split. known_item_and_more rest text front behind (λ some.
    let shorter = shorter_behind text front behind split some in absurd (omega (arith, within, shorter)))))
known_items (suc most) rest text within =
    items_by rest text (known_text text rest) (known_split (IsItemAndMore rest text) text
    (λ front behind split. known_item_and_more rest text front behind (λ some.
    let shorter = shorter_behind text front behind split some in known_items most rest behind (omega (arith, within, shorter)))))

-- ---- names of files, and directives

-- a quote, a name and a quote
abbrev IsNamedQuote : List ℕ → List ℕ → Type 0
IsNamedQuote name end = All IsNameByte name × (end ≡ 34 ∷ [])

abbrev IsQuotedName : List ℕ → Type 0
IsQuotedName [] = ⊥
IsQuotedName (byte ∷ bytes) = (byte ≡ 34) × HasSplit IsNamedQuote bytes

abbrev IsNamedBehind : List ℕ → List ℕ → Type 0
IsNamedBehind blanks quoted = All IsBlankInLine blanks × IsQuotedName quoted

abbrev IsIncludeForm : List ℕ → List ℕ → Type 0
IsIncludeForm front behind = (front ≡ codes "#include") × HasSplit IsNamedBehind behind

known_quoted_name : (bytes : List ℕ) → Known (IsQuotedName bytes)
known_quoted_name [] = inr (λ none. none)
known_quoted_name (byte ∷ bytes) =
    known_both (known_same byte 34) (known_split IsNamedQuote bytes
    (λ name end split. known_both (known_all IsNameByte known_name_byte name) (known_text end (34 ∷ []))))

known_include_form : (bytes : List ℕ) → Known (HasSplit IsIncludeForm bytes)
known_include_form bytes =
    known_split IsIncludeForm bytes (λ front behind split. known_both (known_text front (codes "#include"))
    (known_split IsNamedBehind behind (λ blanks quoted apart. known_both (known_all IsBlankInLine known_blank_in_line blanks) (known_quoted_name quoted))))

-- an included file of some name
abbrev IsAnyInclude : List ℕ → Type 0
IsAnyInclude bytes = (name : List ℕ) × IsInclude bytes name

include_there : (bytes : List ℕ) → HasSplit IsIncludeForm bytes → IsAnyInclude bytes
include_there bytes (front, behind, split, (is, (blanks, [], apart, (all, none)))) = absurd none
include_there bytes (front, behind, split, (is, (blanks, byte ∷ quoted, apart, (all, (quote, (name, end, ends, (named, last))))))) = (
  name,
  (
    blanks,
    all,
    named,
    split ∙ ap (λ l. l ++ behind) is ∙ ap (λ l. codes "#include" ++ l) (apart ∙ ap (λ b. blanks ++ b ∷ quoted) quote
        ∙ ap (λ l. blanks ++ 34 ∷ l) (ends ∙ ap (λ l. name ++ l) last) ∙ sym (append_assoc blanks (34 ∷ name) (34 ∷ []))),
  ),
)

include_back : (bytes : List ℕ) → IsAnyInclude bytes → HasSplit IsIncludeForm bytes
include_back bytes (name, (blanks, all, named, split)) = (
  codes "#include",
  blanks ++ (34 ∷ (name ++ 34 ∷ [])),
  split ∙ ap (λ l. codes "#include" ++ l) (append_assoc blanks (34 ∷ name) (34 ∷ [])),
  (refl, (blanks, 34 ∷ (name ++ 34 ∷ []), refl, (all, (refl, (name, 34 ∷ [], refl, (named, refl)))))),
)

known_include : (bytes : List ℕ) → Known (IsAnyInclude bytes)
known_include bytes = known_by (include_there bytes) (include_back bytes) (known_include_form bytes)

known_directive : (bytes : List ℕ) → Known (IsDirective bytes)
known_directive [] = inr (λ is. let e = is.3 in cc)
known_directive (byte ∷ letters) =
    known_by (λ all. (letters, all.1, all.2, ap (λ b. b ∷ letters) all.0)) back
    (known_three (known_same byte 35) (known_some letters) (known_all IsLetter known_letter letters))
  where
    back : IsDirective (byte ∷ letters) → (byte ≡ 35) × (letters ≢ []) × All IsLetter letters
    back (others, some, all, split) =
        let same = same_heads byte 35 letters others split in
        (same.0, (λ none. some (sym same.1 ∙ none)), subst (λ l. All IsLetter l) (sym same.1) all)

-- ---- tokens

-- bytes spell a token
abbrev pub SpellsAny : List ℕ → Type 0
SpellsAny bytes = (token : Tok) × Spells bytes token

abbrev IsAnyString : List ℕ → Type 0
IsAnyString bytes = (values : List ℕ) × IsString bytes values

known_string : (bytes : List ℕ) → Known (IsAnyString bytes)
known_string [] = inr (λ some. let e = some.1.1 in cc)
known_string (byte ∷ inside) =
    known_by (λ both. (both.1.0, (inside, ap (λ b. b ∷ inside) both.0, both.1.1))) back
    (known_both (known_same byte 34) (known_items (length inside) (34 ∷ []) inside (omega arith)))
  where
    back : IsAnyString (byte ∷ inside) → (byte ≡ 34) × AreAnyItems (34 ∷ []) inside
    back (values, (within, split, items)) =
        let same = same_heads byte 34 inside within split in
        (same.0, (values, subst (λ l. AreItems values l (34 ∷ [])) (sym same.1) items))

-- the forms of tokens
abbrev IsForm : List ℕ → Type 0
IsForm bytes =
    IsName bytes ⊎ ((some : Word) × (bytes ≡ word_spelling some)) ⊎ ((some : Sign) × (bytes ≡ sign_spelling some))
    ⊎ IsAnyDecimal bytes ⊎ IsAnyHexadecimal bytes ⊎ IsFloat bytes ⊎ IsAnyChar bytes ⊎ IsAnyString bytes
    ⊎ IsAnyInclude bytes ⊎ IsDirective bytes

known_form : (bytes : List ℕ) → Known (IsForm bytes)
known_form bytes =
    known_either (known_name bytes) (known_either (known_word bytes) (known_either (known_sign bytes)
    (known_either (known_decimal bytes) (known_either (known_hexadecimal bytes) (known_either (known_float bytes)
    (known_either (known_char bytes) (known_either (known_string bytes) (known_either (known_include bytes)
    (known_directive bytes)))))))))

token_of_form : (bytes : List ℕ) → IsForm bytes → SpellsAny bytes
token_of_form bytes (inl name) = (tok.Name bytes, (refl, name))
token_of_form bytes (inr (inl (some, is))) = (tok.Word some, is)
token_of_form bytes (inr (inr (inl (some, is)))) = (tok.Sign some, is)
token_of_form bytes (inr (inr (inr (inl (number, ext, is))))) = (tok.Num ext (number_of_64_bits number), (number, refl, inl is))
token_of_form bytes (inr (inr (inr (inr (inl (number, ext, is)))))) = (tok.Num ext (number_of_64_bits number), (number, refl, inr is))
token_of_form bytes (inr (inr (inr (inr (inr (inl float)))))) = (tok.Float, float)
token_of_form bytes (inr (inr (inr (inr (inr (inr (inl (value, is)))))))) = (tok.Char value, is)
token_of_form bytes (inr (inr (inr (inr (inr (inr (inr (inl (values, is))))))))) = (tok.Str values, is)
token_of_form bytes (inr (inr (inr (inr (inr (inr (inr (inr (inl (name, is)))))))))) = (tok.Include name, is)
token_of_form bytes (inr (inr (inr (inr (inr (inr (inr (inr (inr is))))))))) = (tok.Directive, is)

form_of_token : (bytes : List ℕ) (token : Tok) → Spells bytes token → IsForm bytes
form_of_token bytes (tok.Name text) (is, name) = inl name
form_of_token bytes (tok.Word some) is = inr (inl (some, is))
form_of_token bytes (tok.Sign some) is = inr (inr (inl (some, is)))
form_of_token bytes (tok.Num ext value) (number, value_is, inl is) = inr (inr (inr (inl (number, ext, is))))
form_of_token bytes (tok.Num ext value) (number, value_is, inr is) = inr (inr (inr (inr (inl (number, ext, is)))))
form_of_token bytes tok.Float float = inr (inr (inr (inr (inr (inl float)))))
form_of_token bytes (tok.Char value) is = inr (inr (inr (inr (inr (inr (inl (value, is)))))))
form_of_token bytes (tok.Str values) is = inr (inr (inr (inr (inr (inr (inr (inl (values, is))))))))
form_of_token bytes (tok.Include name) is = inr (inr (inr (inr (inr (inr (inr (inr (inl (name, is)))))))))
form_of_token bytes tok.Directive is = inr (inr (inr (inr (inr (inr (inr (inr (inr is))))))))

-- whether bytes spell a token
pub known_spelling : (bytes : List ℕ) → Known (SpellsAny bytes)
known_spelling bytes = known_by (token_of_form bytes) (λ some. form_of_token bytes some.0 some.1) (known_form bytes)
