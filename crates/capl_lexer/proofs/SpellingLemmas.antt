-- What spellings begin with, and that bytes spell at most one token.
use Rattle.std.proofs.Common.{◌≡◌, ◌≢◌, ◌<◌, ◌≤◌, ◌+◌, ℕ, Bool, true, false, cond, List, [], ◌∷◌, ◌++◌, length, get_or, take, All, inl, inr, refl, sym, ap, subst, ◌∙◌, arith, eqb, ltb, length-append}
use Rattle.std.specs.Prelude.{◌⊎◌, ◌&&◌, codes}
use Rattle.std.specs.List.{list_all}
use Rattle.std.proofs.lemmas.Bool.{and_parts}
use Rattle.std.proofs.lemmas.Bool.Decides.{nat_tests}
use Rattle.std.proofs.lemmas.List.Elements.{All-cons, All-nil}
use Rattle.text_parts.specs.Number.{IsDigit, IsHexDigit, number_in, number_of_64_bits}
use Rattle.capl_lexer.specs.Spelling.{IsNameStart, IsNameFront, IsNamePart, word_spelling, sign_spelling, IsMarked, IsDecimal, IsHexadecimal, IsFloat, IsItem, AreItems, IsPlainInChar, IsInclude, IsDirective, Spells}
use Rattle.capl_lexer.specs.declared.token.Word.{Word}
use Rattle.capl_lexer.specs.declared.token.Word.TheVariants as word
use Rattle.capl_lexer.specs.declared.token.Sign.{Sign}
use Rattle.capl_lexer.specs.declared.token.Sign.TheVariants as sign
use Rattle.capl_lexer.specs.declared.token.Tok.{Tok}
use Rattle.capl_lexer.specs.declared.token.Tok.TheVariants as tok
use Rattle.capl_lexer.proofs.WordLemmas.{word_spelling-injective}
use Rattle.capl_lexer.proofs.SignLemmas.{sign_first, sign-first, sign_spelling-injective}
use Rattle.capl_lexer.proofs.NumberLemmas.{number-unique, float-number, float-front}
use Rattle.capl_lexer.proofs.ItemLemmas.{item-unique, items-unique, backslash-outside_char}
use Rattle.capl_lexer.proofs.DirectiveLemmas.{include-unique, directive-include}

-- a test of `IsNameStart`
abbrev pub is_name_start : ℕ → Bool
is_name_start byte = cond (ltb byte 65) false (cond (ltb byte 91) true (cond (eqb byte 95) true (cond (ltb byte 97) false (ltb byte 123))))

-- a test of `IsNamePart`
abbrev is_name_part : ℕ → Bool
is_name_part byte = cond (ltb byte 48) false (cond (ltb byte 58) true (is_name_start byte))

is_name_start-true : (byte : ℕ) → is_name_start byte ≡ true → IsNameStart byte
is_name_start-true byte e = grind (arith, nat_tests)

is_name_part-true : (byte : ℕ) → is_name_part byte ≡ true → IsNamePart byte
is_name_part-true byte e = grind (arith, nat_tests)

-- whether the bytes have the form of a name
abbrev is_name_form : List ℕ → Bool
is_name_form [] = false
is_name_form (byte ∷ bytes) = is_name_start byte && list_all is_name_part bytes

all_parts : (bytes : List ℕ) → list_all is_name_part bytes ≡ true → All IsNamePart bytes
all_parts [] e = All-nil IsNamePart
all_parts (byte ∷ bytes) e =
    let both = and_parts (is_name_part byte) (list_all is_name_part bytes) e in
    All-cons IsNamePart byte bytes (is_name_part-true byte both.0) (all_parts bytes both.1)

-- a letter or `_`, then letters, digits and `_`
pub record HasNameForm (bytes : List ℕ) : Type 0 where
  pub start : IsNameFront bytes
  pub parts : All IsNamePart bytes

name_form : (bytes : List ℕ) → is_name_form bytes ≡ true → HasNameForm bytes
name_form [] e = cc
name_form (byte ∷ bytes) e =
    let both = and_parts (is_name_start byte) (list_all is_name_part bytes) e in
    let start : IsNameStart byte = is_name_start-true byte both.0 in
    record { start = start; parts = All-cons IsNamePart byte bytes (inl start) (all_parts bytes both.1) }

word_test : (word : Word) → is_name_form (word_spelling word) ≡ true
word_test word.Includes = refl
word_test _ = refl

-- each reserved word has the form of a name
pub word-name_form : (word : Word) → HasNameForm (word_spelling word)
word-name_form reserved = name_form (word_spelling reserved) (word_test reserved)

-- the byte begins a spelling of the token
abbrev pub Begins : Tok → ℕ → Type 0
Begins (tok.Name text) byte = IsNameStart byte
Begins (tok.Word reserved) byte = IsNameStart byte
Begins (tok.Sign some) byte = sign_first some ≡ byte
Begins (tok.Num ext value) byte = IsDigit byte
Begins tok.Float byte = IsDigit byte
Begins (tok.Char value) byte = byte ≡ 39
Begins (tok.Str text) byte = byte ≡ 34
Begins (tok.Include name) byte = byte ≡ 35
Begins tok.Directive byte = byte ≡ 35

-- a spelling has a first byte
pub record HasFront (bytes : List ℕ) (token : Tok) : Type 0 where
  pub first : ℕ
  pub others : List ℕ
  pub is : bytes ≡ first ∷ others
  pub begins : Begins token first

-- bytes with the form of a name have a first byte
name_front : (bytes : List ℕ) → IsNameFront bytes
    → (first : ℕ) × (others : List ℕ) × (bytes ≡ first ∷ others) × IsNameStart first
name_front [] none = absurd none
name_front (byte ∷ bytes) start = (byte, bytes, refl, start)

-- the first byte of digits, with or without a mark
marked_front : (bytes digits : List ℕ) (ext : Bool) → digits ≢ [] → All IsDigit digits
    → IsMarked bytes digits ext
    → (first : ℕ) × (others : List ℕ) × (bytes ≡ first ∷ others) × IsDigit first
marked_front bytes [] ext some all marked = absurd (some refl)
marked_front bytes (digit ∷ digits) true some all (mark, is_mark, is) = (digit, digits ++ mark ∷ [], is, all 0 0 (omega arith))
marked_front bytes (digit ∷ digits) false some all is = (digit, digits, is, all 0 0 (omega arith))

hex_front : (bytes digits : List ℕ) (x : ℕ) (ext : Bool) → IsMarked bytes (48 ∷ x ∷ digits) ext
    → (others : List ℕ) × (bytes ≡ 48 ∷ others)
hex_front bytes digits x true (mark, is_mark, is) = (x ∷ digits ++ mark ∷ [], is)
hex_front bytes digits x false is = (x ∷ digits, is)

-- a spelling has a first byte, which tells its class
pub spelling-front : (bytes : List ℕ) (token : Tok) → Spells bytes token → HasFront bytes token
spelling-front bytes (tok.Name text) (is, name) =
    let (first, others, split, start) = name_front bytes name.start in
    record { first = first; others = others; is = split; begins = start }
spelling-front bytes (tok.Word reserved) is =
    let (first, others, split, start) = name_front (word_spelling reserved) (word-name_form reserved).start in
    record { first = first; others = others; is = is ∙ split; begins = start }
spelling-front bytes (tok.Sign some) is =
    let (others, split) = sign-first some in
    record { first = sign_first some; others = others; is = is ∙ split; begins = refl }
spelling-front bytes (tok.Num ext value) (number, value_is, inl (digits, some, all, number_is, marked)) =
    let (first, others, split, digit) = marked_front bytes digits ext some all marked in
    record { first = first; others = others; is = split; begins = digit }
spelling-front bytes (tok.Num ext value) (number, value_is, inr (digits, x, some, all, x_is, number_is, marked)) =
    let (others, split) = hex_front bytes digits x ext marked in
    record { first = 48; others = others; is = split; begins = (omega arith, omega arith) }
spelling-front bytes tok.Float float =
    let (first, others, split, digit) = float-front bytes float in
    record { first = first; others = others; is = split; begins = digit }
spelling-front bytes (tok.Char value) (inside, is, item) = record { first = 39; others = inside; is = is; begins = refl }
spelling-front bytes (tok.Str text) (inside, is, items) = record { first = 34; others = inside; is = is; begins = refl }
spelling-front bytes (tok.Include name) (blanks, all, named, is) = record { first = 35; others = codes "include" ++ blanks ++ 34 ∷ name ++ 34 ∷ []; is = is; begins = refl }
spelling-front bytes tok.Directive (letters, some, all, is) = record { first = 35; others = letters; is = is; begins = refl }

-- the class of tokens that a byte begins: names and words, signs, numbers, strings, characters, and what begins with `#`
abbrev pub class_of : ℕ → ℕ
class_of byte =
    cond (eqb byte 34) 3 (cond (eqb byte 39) 4 (cond (eqb byte 35) 5
    (cond (is_name_start byte) 0 (cond (ltb byte 48) 1 (cond (ltb byte 58) 2 1)))))

-- the class of a token
abbrev pub class_of_token : Tok → ℕ
class_of_token (tok.Name text) = 0
class_of_token (tok.Word reserved) = 0
class_of_token (tok.Sign some) = 1
class_of_token (tok.Num ext value) = 2
class_of_token tok.Float = 2
class_of_token (tok.Str text) = 3
class_of_token (tok.Char value) = 4
class_of_token (tok.Include name) = 5
class_of_token tok.Directive = 5

class_at : (byte other class : ℕ) → other ≡ byte → class_of other ≡ class → class_of byte ≡ class
class_at byte other class at is = subst (λ b. class_of b ≡ class) at is

-- the first byte of a name is of the class of names
pub name_class : (byte : ℕ) → IsNameStart byte → class_of byte ≡ 0
name_class byte start = grind (arith, nat_tests)

-- a digit is of the class of numbers
pub digit_class : (byte : ℕ) → IsDigit byte → class_of byte ≡ 2
digit_class byte digit = grind (arith, nat_tests)

-- the first byte of a sign is of the class of signs
pub sign_class : (some : Sign) → class_of (sign_first some) ≡ 1
sign_class sign.OpenBrace = refl
sign_class _ = refl

-- a byte that begins a token is of the token's class
pub begins-class : (token : Tok) (byte : ℕ) → Begins token byte → class_of byte ≡ class_of_token token
begins-class (tok.Name text) byte start = name_class byte start
begins-class (tok.Word reserved) byte start = name_class byte start
begins-class (tok.Sign some) byte is = class_at byte (sign_first some) 1 is (sign_class some)
begins-class (tok.Num ext value) byte digit = digit_class byte digit
begins-class tok.Float byte digit = digit_class byte digit
begins-class (tok.Char value) byte is = class_at byte 39 4 (sym is) refl
begins-class (tok.Str text) byte is = class_at byte 34 3 (sym is) refl
begins-class (tok.Include name) byte is = class_at byte 35 5 (sym is) refl
begins-class tok.Directive byte is = class_at byte 35 5 (sym is) refl

-- the tokens that one byte begins are of one class
pub same_class : (byte : ℕ) (token other : Tok) → Begins token byte → Begins other byte
    → class_of_token token ≡ class_of_token other
same_class byte token other first second = sym (begins-class token byte first) ∙ begins-class other byte second

spelled_class : (bytes : List ℕ) (token other : Tok) → Spells bytes token → Spells bytes other
    → class_of_token token ≡ class_of_token other
spelled_class bytes token other first second =
    let one = spelling-front bytes token first in
    let two = spelling-front bytes other second in
    let same : one.first ≡ two.first = let a = one.is in let b = two.is in cc in
    same_class two.first token other (subst (Begins token) same one.begins) two.begins

-- bytes spell at most one token
pub spelling-unique : (bytes : List ℕ) (token other : Tok) → Spells bytes token
    → Spells bytes other → token ≡ other
spelling-unique bytes (tok.Name text) (tok.Name others) first second = ap tok.Name (sym first.0 ∙ second.0)
spelling-unique bytes (tok.Name text) (tok.Word reserved) first second = absurd (first.1.not_reserved reserved second)
spelling-unique bytes (tok.Word reserved) (tok.Name text) first second = absurd (second.1.not_reserved reserved first)
spelling-unique bytes (tok.Word reserved) (tok.Word another) first second = ap tok.Word (word_spelling-injective reserved another (sym first ∙ second))
spelling-unique bytes (tok.Sign some) (tok.Sign another) first second =
    ap tok.Sign (sign_spelling-injective some another (sym first ∙ second))
spelling-unique bytes (tok.Num ext value) (tok.Num marked other) (number, value_is, first) (another, other_is, second) =
    let (same, mark) = number-unique bytes number another ext marked first second in
    let values : value ≡ other = value_is ∙ ap number_of_64_bits same ∙ sym other_is in cc
spelling-unique bytes (tok.Num ext value) tok.Float (number, value_is, first) second = absurd (float-number bytes number ext second first)
spelling-unique bytes tok.Float (tok.Num ext value) first (number, value_is, second) = absurd (float-number bytes number ext first second)
spelling-unique bytes tok.Float tok.Float first second = refl
spelling-unique bytes (tok.Char value) (tok.Char other) (inside, is, item) (within, is_too, also) =
    let whole : 39 ∷ inside ≡ 39 ∷ within = sym is ∙ is_too in
    let same : inside ≡ within = cc in
    ap tok.Char (item-unique IsPlainInChar backslash-outside_char within value other (39 ∷ []) (39 ∷ [])
    (subst (λ t. IsItem IsPlainInChar value t (39 ∷ [])) same item) also).one_value
spelling-unique bytes (tok.Str text) (tok.Str others) (inside, is, items) (within, is_too, also) =
    let whole : 34 ∷ inside ≡ 34 ∷ within = sym is ∙ is_too in
    let same : inside ≡ within = cc in
    ap tok.Str (items-unique text others within [] [] (subst (λ t. AreItems text t (34 ∷ [])) same items) also).0
spelling-unique bytes (tok.Include name) (tok.Include other) first second = ap tok.Include (include-unique bytes name other first second)
spelling-unique bytes (tok.Include name) tok.Directive first second = absurd (directive-include bytes name first second)
spelling-unique bytes tok.Directive (tok.Include name) first second = absurd (directive-include bytes name second first)
spelling-unique bytes tok.Directive tok.Directive first second = refl
spelling-unique bytes token other first second =
    let same = spelled_class bytes token other first second in absurd (omega (arith, same))
