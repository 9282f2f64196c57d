-- The number at the front of a text.
use Rattle.std.proofs.Common.{◌≡◌, ◌≢◌, ◌<◌, ◌≤◌, ◌+◌, ℕ, zero, suc, Bool, true, false, cond, List, [], ◌∷◌, ◌++◌, length, get_or, take, drop, All, inl, inr, refl, sym, ap, subst, ◌∙◌, arith, length-append, length-drop}
use Rattle.std.specs.Prelude.{◌⊎◌}
use Rattle.std.proofs.lemmas.Bool.{cases_lt}
use Rattle.std.proofs.lemmas.List.{append_assoc, take_more, drop_more, drop_at, take-append-drop, get_or_append_left, length-take-le}
use Rattle.text_parts.specs.Number.{IsDigit, IsHexDigit, number_in, number_of_64_bits}
use Rattle.capl_lexer.specs.Spelling.{IsMark, IsMarked, IsDecimal, IsHexadecimal, IsFloat, Spells}
use Rattle.capl_lexer.specs.Inside.ByteClass.{IsInClass, IsFirstInClass, IsRun}
use Rattle.capl_lexer.specs.Reading.{IsLongest}
use Rattle.capl_lexer.specs.Inside.Base.{IsBaseOf, IsHexadecimalFront, radix_of, prefix_of, digits_of}
use Rattle.capl_lexer.specs.Inside.Front.{IsTokenFront, HasNoFloat}
use Rattle.capl_lexer.specs.declared.byte_class.ByteClass.{ByteClass}
use Rattle.capl_lexer.specs.declared.byte_class.ByteClass.TheVariants as class
use Rattle.capl_lexer.specs.declared.base.Base.{Base}
use Rattle.capl_lexer.specs.declared.base.Base.TheVariants.{Ten, Sixteen}
use Rattle.capl_lexer.specs.declared.token.Tok.{Tok}
use Rattle.capl_lexer.specs.declared.token.Tok.TheVariants as tok
use Rattle.capl_lexer.proofs.ByteClassLemmas.{run-le, run-exact}
use Rattle.capl_lexer.proofs.NumberLemmas.{digit-mark, hex_digit-mark, digit-point, marked_rest, marked-length, marked_at, mark-le-one, number-no_point}
use Rattle.capl_lexer.proofs.SpellingLemmas.{digit_class}
use Rattle.capl_lexer.proofs.SplitLemmas.{take_append_more}
use Rattle.capl_lexer.proofs.FrontLemmas.{front-class, run-positive, first_after}

-- digits at the front, marked or not, are no longer than their run and the mark behind it
marked_run-le : (kind : ByteClass) → ((byte : ℕ) → IsInClass kind byte → IsMark byte → ⊥)
    → (text : List ℕ) (count : ℕ) (ext : Bool) → IsRun kind text count
    → (IsFirstInClass class.Mark (drop count text) → ext ≡ true)
    → (bytes digits after : List ℕ) (marked : Bool) → text ≡ bytes ++ after
    → All (IsInClass kind) digits → IsMarked bytes digits marked → length bytes ≤ count + cond ext 1 0
marked_run-le kind outside text count ext run has_mark bytes digits after true split all (mark, is_mark, is) =
    let whole : text ≡ digits ++ mark ∷ after = split ∙ ap (λ b. b ++ after) is ∙ append_assoc digits (mark ∷ []) after in
    let ends : length digits ≡ count = run-exact kind text count digits mark after run whole all (λ inside. outside mark inside is_mark) in
    let rest : drop count text ≡ mark ∷ after = ap (drop count) whole ∙ drop_at digits (mark ∷ after) count ends in
    let ext_is : ext ≡ true = has_mark (subst (IsFirstInClass class.Mark) (sym rest) is_mark) in
    let one : cond {A = ℕ} ext 1 0 ≡ 1 = ap (λ (b : Bool). cond {A = ℕ} b 1 0) ext_is in
    omega (arith, ends, marked-length bytes digits true (mark, is_mark, is))
marked_run-le kind outside text count ext run has_mark bytes digits after false split all is =
    let le : length bytes ≤ count = run-le kind text count bytes after run split (subst (All (IsInClass kind)) (sym is) all) in
    omega arith

-- a text with a hexadecimal front
record HexadecimalFront (text : List ℕ) : Type 0 where
  x : ℕ
  is : text ≡ 48 ∷ x ∷ drop 2 text
  is_mark : IsMark x
  first : IsFirstInClass class.HexDigit (drop 2 text)

hexadecimal_front : (text : List ℕ) → IsHexadecimalFront text → HexadecimalFront text
hexadecimal_front (zero_digit ∷ x ∷ digit ∷ text) (is_zero, is_mark, is_digit) =
    record { x = x; is = ap (λ b. b ∷ x ∷ digit ∷ text) is_zero; is_mark = is_mark; first = is_digit }
hexadecimal_front _ none = absurd none

-- the digits stand behind the prefix
pub prefix-le : (text : List ℕ) (base : Base) → IsBaseOf text base → prefix_of base ≤ length text
prefix-le text Ten is = omega arith
prefix-le (a ∷ b ∷ text) Sixteen is = omega arith
prefix-le (a ∷ []) Sixteen is = absurd is
prefix-le [] Sixteen is = absurd is

-- decimal digits do not go past the `0` of a hexadecimal front
decimal_in_hexadecimal : (text : List ℕ) → HexadecimalFront text
    → (bytes after digits : List ℕ) (ext : Bool) → text ≡ bytes ++ after
    → All IsDigit digits → IsMarked bytes digits ext → length bytes ≤ 2
decimal_in_hexadecimal text front bytes after digits ext split all is =
    elim (cases_lt 1 (length digits)) [
      | inl long ↦
          let lengths = marked-length bytes digits ext is in
          let within : 1 < length bytes = omega arith in
          let in_text : get_or text 1 0 ≡ get_or bytes 1 0 = ap (λ b. get_or b 1 0) split ∙ get_or_append_left bytes after 0 1 within in
          let is_x : get_or text 1 0 ≡ front.x = ap (λ b. get_or b 1 0) front.is in
          let at : get_or digits 1 0 ≡ front.x = sym (marked_at bytes digits ext 1 is long) ∙ sym in_text ∙ is_x in
          absurd (digit-mark front.x (subst IsDigit at (all 1 0 long)) front.is_mark)
      | inr short ↦ omega (arith, mark-le-one ext, marked-length bytes digits ext is)
    ]

-- a hexadecimal number at the front makes the front hexadecimal
hexadecimal_split : (text bytes after digits : List ℕ) (x : ℕ) (ext : Bool) → text ≡ bytes ++ after
    → digits ≢ [] → All IsHexDigit digits → IsMark x
    → IsMarked bytes (48 ∷ x ∷ digits) ext → IsHexadecimalFront text
hexadecimal_split text bytes after [] x ext split some all is_mark is = absurd (some refl)
hexadecimal_split text bytes after (digit ∷ digits) x true split some all is_mark (mark, marks, is) =
    let whole : text ≡ 48 ∷ x ∷ digit ∷ (digits ++ mark ∷ []) ++ after = split ∙ ap (λ b. b ++ after) is in
    subst IsHexadecimalFront (sym whole) (refl, is_mark, all 0 0 (omega arith))
hexadecimal_split text bytes after (digit ∷ digits) x false split some all is_mark is =
    let whole : text ≡ 48 ∷ x ∷ digit ∷ digits ++ after = split ∙ ap (λ b. b ++ after) is in
    subst IsHexadecimalFront (sym whole) (refl, is_mark, all 0 0 (omega arith))

-- no token at the front is longer than the number, where no number with a point stands there
number-longest : (text : List ℕ) (base : Base) (count : ℕ) (ext : Bool)
    → IsFirstInClass class.Digit text → HasNoFloat text → IsBaseOf text base
    → IsRun (digits_of base) (drop (prefix_of base) text) count
    → (IsFirstInClass class.Mark (drop count (drop (prefix_of base) text)) → ext ≡ true)
    → IsLongest text (prefix_of base + count + cond ext 1 0)
number-longest [] base count ext start no_float is run has_mark bytes after token split spells = absurd start
number-longest (byte ∷ text) Ten count ext start no_float is run has_mark bytes after (tok.Num marked value) split (number, value_is, inl (digits, some, all, number_is, marks)) =
    let le = marked_run-le class.Digit digit-mark (byte ∷ text) count ext run has_mark bytes digits after marked split all marks in omega arith
number-longest (byte ∷ text) Ten count ext start no_float is run has_mark bytes after (tok.Num marked value) split (number, value_is, inr (digits, x, some, all, is_mark, number_is, marks)) =
    absurd (is (hexadecimal_split (byte ∷ text) bytes after digits x marked split some all is_mark marks))
number-longest (byte ∷ text) Sixteen count ext start no_float is run has_mark bytes after (tok.Num marked value) split (number, value_is, inl (digits, some, all, number_is, marks)) =
    let le = decimal_in_hexadecimal (byte ∷ text) (hexadecimal_front (byte ∷ text) is) bytes after digits marked split all marks in omega arith
number-longest (byte ∷ text) Sixteen count ext start no_float is run has_mark bytes after (tok.Num marked value) split (number, value_is, inr (digits, x, some, all, is_mark, number_is, marks)) =
    let (rest, rest_split, rest_is) = marked_rest bytes digits x marked marks in
    let whole : byte ∷ text ≡ 48 ∷ x ∷ rest ++ after = split ∙ ap (λ b. b ++ after) rest_split in
    let behind : drop 2 (byte ∷ text) ≡ rest ++ after = ap (drop 2) whole in
    let le = marked_run-le class.HexDigit hex_digit-mark (drop 2 (byte ∷ text)) count ext run has_mark rest digits after marked behind all rest_is in
    omega (arith, ap length rest_split)
number-longest (byte ∷ text) base count ext start no_float is run has_mark bytes after tok.Float split float = absurd (no_float bytes after split float)
number-longest (byte ∷ text) base count ext start no_float is run has_mark bytes after token split spells =
    let same = sym (digit_class byte start) ∙ front-class (byte ∷ text) byte text bytes after token refl split spells in
    absurd (omega (arith, same))

-- what stands before a place, with a mark at the place or without
pub marked_take : (text : List ℕ) (to : ℕ) (ext : Bool) → to ≤ length text
    → (ext ≡ true → IsFirstInClass class.Mark (drop to text))
    → IsMarked (take (to + cond ext 1 0) text) (take to text) ext
marked_take text to true within has_mark =
    let (inside, is_mark) = first_after class.Mark text to (has_mark refl) in
    (get_or text to 0, is_mark, take_more text to 0 inside)
marked_take text to false within has_mark = ap (λ n. take n text) (omega arith)

-- a part that is not empty is not the empty one
positive_take : (text : List ℕ) (count : ℕ) → count ≤ length text → 0 < count → take count text ≢ []
positive_take text count within some none = omega (arith, ap length none, length-take-le count text within)

-- a mark lies within the text
marked-within : (text : List ℕ) (to : ℕ) (ext : Bool) → to ≤ length text
    → (ext ≡ true → IsFirstInClass class.Mark (drop to text)) → to + cond ext 1 0 ≤ length text
marked-within text to true within has_mark = let inside = (first_after class.Mark text to (has_mark refl)).0 in omega arith
marked-within text to false within has_mark = omega arith

-- a prefix before marked digits
prefixed : (bytes digits : List ℕ) (x : ℕ) (ext : Bool) → IsMarked bytes digits ext
    → IsMarked (48 ∷ x ∷ bytes) (48 ∷ x ∷ digits) ext
prefixed bytes digits x true (mark, is_mark, is) = (mark, is_mark, ap (λ b. 48 ∷ x ∷ b) is)
prefixed bytes digits x false is = ap (λ b. 48 ∷ x ∷ b) is

-- what a number at the front is made of: the bytes behind the prefix, its digits and what follows them
pub record IsScanned (text : List ℕ) (base : Base) (behind digits rest : List ℕ) (count : ℕ) (ext : Bool) : Type 0 where
  pub start : IsFirstInClass class.Digit text
  pub is_base : IsBaseOf text base
  pub is_behind : behind ≡ drop (prefix_of base) text
  pub run : IsRun (digits_of base) behind count
  pub is_digits : digits ≡ take count behind
  pub is_rest : rest ≡ drop count behind
  pub has_mark : IsFirstInClass class.Mark rest → ext ≡ true
  pub is_marked : ext ≡ true → IsFirstInClass class.Mark rest

-- the marked digits of a scanned number
scanned_digits : (text : List ℕ) (base : Base) (behind digits rest : List ℕ) (count : ℕ) (ext : Bool) → IsScanned text base behind digits rest count ext
    → IsMarked (take (count + cond ext 1 0) behind) digits ext
scanned_digits text base behind digits rest count ext scanned =
    subst (λ d. IsMarked (take (count + cond ext 1 0) behind) d ext) (sym scanned.is_digits)
    (marked_take behind count ext scanned.run.within (λ e. subst (IsFirstInClass class.Mark) scanned.is_rest (scanned.is_marked e)))

-- the spelling of a scanned number
number_spelling : (text : List ℕ) (base : Base) (behind digits rest : List ℕ) (count : ℕ) (ext : Bool) (size : ℕ) → size ≡ prefix_of base + count + cond ext 1 0
    → IsScanned text base behind digits rest count ext
    → IsDecimal (take size text) (number_in (radix_of base) digits) ext ⊎ IsHexadecimal (take size text) (number_in (radix_of base) digits) ext
number_spelling text Ten behind digits rest count ext size is scanned =
    let marked = scanned_digits text Ten behind digits rest count ext scanned in
    let sizes : size ≡ count + cond ext 1 0 = omega arith in
    let is_text : behind ≡ text = scanned.is_behind in
    let first = subst (IsFirstInClass class.Digit) (sym is_text) scanned.start in
    let some = positive_take behind count scanned.run.within (run-positive class.Digit behind count scanned.run first) in
    let same : take (count + cond ext 1 0) behind ≡ take size text = ap (take (count + cond ext 1 0)) is_text ∙ ap (λ n. take n text) (sym sizes) in
    inl (
      digits,
      (λ none. some (sym scanned.is_digits ∙ none)),
      subst (All IsDigit) (sym scanned.is_digits) scanned.run.inside,
      refl,
      subst (λ b. IsMarked b digits ext) same marked,
    )
number_spelling text Sixteen behind digits rest count ext size is scanned =
    let marked = scanned_digits text Sixteen behind digits rest count ext scanned in
    let front = hexadecimal_front text scanned.is_base in
    let sizes : size ≡ suc (suc (count + cond ext 1 0)) = omega arith in
    let first = subst (IsFirstInClass class.HexDigit) (sym scanned.is_behind) front.first in
    let some = positive_take behind count scanned.run.within (run-positive class.HexDigit behind count scanned.run first) in
    let whole : text ≡ 48 ∷ front.x ∷ behind = front.is ∙ ap (λ b. 48 ∷ front.x ∷ b) (sym scanned.is_behind) in
    let same : 48 ∷ front.x ∷ take (count + cond ext 1 0) behind ≡ take size text =
    ap (λ n. take n (48 ∷ front.x ∷ behind)) (sym sizes) ∙ ap (take size) (sym whole) in
    inr (
      digits,
      front.x,
      (λ none. some (sym scanned.is_digits ∙ none)),
      subst (All IsHexDigit) (sym scanned.is_digits) scanned.run.inside,
      front.is_mark,
      refl,
      subst (λ b. IsMarked b (48 ∷ front.x ∷ digits) ext) same (prefixed (take (count + cond ext 1 0) behind) digits front.x ext marked),
    )

-- a scanned number is the token at the front
pub number_front : (text : List ℕ) (base : Base) (behind digits rest : List ℕ) (count : ℕ) (ext : Bool) (size : ℕ) → size ≡ prefix_of base + count + cond ext 1 0
    → IsScanned text base behind digits rest count ext
    → HasNoFloat text
    → IsTokenFront text (record { tok = tok.Num ext (number_of_64_bits (number_in (radix_of base) digits)); length = size })
number_front text base behind digits rest count ext size is scanned no_float =
    let run = subst (λ b. IsRun (digits_of base) b count) scanned.is_behind scanned.run in
    let is_rest : rest ≡ drop count (drop (prefix_of base) text) = scanned.is_rest ∙ ap (drop count) scanned.is_behind in
    let has_mark = λ (first : IsFirstInClass class.Mark (drop count (drop (prefix_of base) text))). scanned.has_mark (subst (IsFirstInClass class.Mark) (sym is_rest) first) in
    let within = marked-within behind count ext scanned.run.within (λ e. subst (IsFirstInClass class.Mark) scanned.is_rest (scanned.is_marked e)) in
    let prefix = prefix-le text base scanned.is_base in
    record {
      within = omega (arith, ap length scanned.is_behind, length-drop (prefix_of base) text);
      spells = (number_in (radix_of base) digits, refl, number_spelling text base behind digits rest count ext size is scanned);
      longest = subst (IsLongest text) (sym is) (number-longest text base count ext scanned.start no_float scanned.is_base run has_mark);
    }

-- Numbers with a point.

-- the digits before a point are the run, and behind it stand those after it
float_split : (text bytes after whole fraction : List ℕ) (count : ℕ) → IsRun class.Digit text count → text ≡ bytes ++ after
    → All IsDigit whole → bytes ≡ whole ++ 46 ∷ fraction
    → (length whole ≡ count) × (drop count text ≡ 46 ∷ fraction ++ after)
float_split text bytes after whole fraction count run split all is =
    let splits : text ≡ whole ++ 46 ∷ (fraction ++ after) = split ∙ ap (λ b. b ++ after) is ∙ append_assoc whole (46 ∷ fraction) after in
    let ends : length whole ≡ count = run-exact class.Digit text count whole 46 (fraction ++ after) run splits all (λ digit. digit-point 46 digit refl) in
    (ends, ap (drop count) splits ∙ drop_at whole (46 ∷ (fraction ++ after)) count ends)

-- where no point follows the digits, no number with a point stands at the front
pub no_point : (text : List ℕ) (count : ℕ) → IsRun class.Digit text count
    → (IsFirstInClass class.Point (drop count text) → ⊥) → HasNoFloat text
no_point text count run none bytes after split (whole, fraction, some, all, every, is) =
    let (ends, behind) = float_split text bytes after whole fraction count run split all is in
    none (subst (IsFirstInClass class.Point) (sym behind) refl)

-- no token at the front is longer than the number with a point
float-longest : (text rest : List ℕ) (count more : ℕ) → IsFirstInClass class.Digit text → IsRun class.Digit text count
    → drop count text ≡ 46 ∷ rest → IsRun class.Digit rest more → IsLongest text (count + 1 + more)
float-longest [] rest count more start run point fraction_run bytes after token split spells = absurd start
float-longest (byte ∷ text) rest count more start run point fraction_run bytes after tok.Float split (whole, fraction, some, all, every, is) =
    let (ends, behind) = float_split (byte ∷ text) bytes after whole fraction count run split all is in
    let tails : 46 ∷ rest ≡ 46 ∷ fraction ++ after = sym point ∙ behind in
    let le = run-le class.Digit rest more fraction after fraction_run (cc) every in
    omega (arith, ap length is, length-append whole (46 ∷ fraction))
float-longest (byte ∷ text) rest count more start run point fraction_run bytes after (tok.Num ext value) split (number, value_is, without) =
    elim (cases_lt count (length bytes)) [
      | inl long ↦
          let in_text : get_or (byte ∷ text) count 0 ≡ get_or bytes count 0 = ap (λ b. get_or b count 0) split ∙ get_or_append_left bytes after 0 count long in
          let within : count < length (byte ∷ text) = omega (arith, ap length split, length-append bytes after) in
          let is_point : get_or (byte ∷ text) count 0 ≡ 46 =
          let whole : get_or (byte ∷ text) count 0 ∷ drop (count + 1) (byte ∷ text) ≡ 46 ∷ rest = sym (drop_more (byte ∷ text) count 0 within) ∙ point in cc in
          absurd (number-no_point bytes number ext without count 0 long (sym in_text ∙ is_point))
      | inr short ↦ omega arith
    ]
float-longest (byte ∷ text) rest count more start run point fraction_run bytes after token split spells =
    let same = sym (digit_class byte start) ∙ front-class (byte ∷ text) byte text bytes after token refl split spells in
    absurd (omega (arith, same))

-- digits, a point and digits are the token at the front
pub float_front : (text rest : List ℕ) (count more : ℕ) → IsFirstInClass class.Digit text → IsRun class.Digit text count
    → drop count text ≡ 46 ∷ rest → IsRun class.Digit rest more
    → IsTokenFront text (record { tok = tok.Float; length = count + 1 + more })
float_front text rest count more start run point fraction_run =
    let split : text ≡ take count text ++ 46 ∷ rest = sym (take-append-drop count text) ∙ ap (λ b. take count text ++ b) point in
    let lengths = length-take-le count text run.within in
    let sizes : count + 1 + more ≡ length (take count text) + suc more = omega arith in
    let spelled : take (count + 1 + more) text ≡ take count text ++ 46 ∷ take more rest =
    ap (λ n. take n text) sizes ∙ ap (take (length (take count text) + suc more)) split
    ∙ take_append_more (take count text) (46 ∷ rest) (suc more) in
    record {
      within = omega (arith, ap length split, length-append (take count text) (46 ∷ rest), fraction_run.within);
      spells = (
        take count text,
        take more rest,
        positive_take text count run.within (run-positive class.Digit text count run start),
        run.inside,
        fraction_run.inside,
        spelled,
      );
      longest = float-longest text rest count more start run point fraction_run;
    }
