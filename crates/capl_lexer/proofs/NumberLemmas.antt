-- Numbers: marks, and that bytes are at most one number.
use Rattle.std.proofs.Common.{◌≡◌, ◌≢◌, ◌<◌, ◌≤◌, ◌+◌, ℕ, Bool, true, false, cond, List, [], ◌∷◌, ◌++◌, length, get_or, take, All, inl, inr, refl, sym, ap, subst, ◌∙◌, arith, length-append, add-zero}
use Rattle.std.specs.Prelude.{◌⊎◌}
use Rattle.std.proofs.lemmas.List.{take_at, get_or_at, get_or_append_left}
use Rattle.std.proofs.lemmas.List.Elements.{All-append, All-cons, All-weaker}
use Rattle.text_parts.specs.Number.{IsDigit, IsHexDigit, number_in}
use Rattle.capl_lexer.specs.Spelling.{IsMark, IsMarked, IsDecimal, IsHexadecimal, IsFloat}

-- no hexadecimal digit is a mark
pub hex_digit-mark : (byte : ℕ) → IsHexDigit byte → IsMark byte → ⊥
hex_digit-mark byte digit mark = grind arith

-- no digit is a mark
pub digit-mark : (byte : ℕ) → IsDigit byte → IsMark byte → ⊥
digit-mark byte digit mark = grind arith

-- one more at the end tells the front
push_injective : (xs ys : List ℕ) (x y : ℕ) → xs ++ x ∷ [] ≡ ys ++ y ∷ [] → xs ≡ ys
push_injective xs ys x y same =
    let lengths : length xs ≡ length ys = omega (arith, ap length same, length-append xs (x ∷ []), length-append ys (y ∷ [])) in
    sym (take_at xs (x ∷ []) (length xs) refl) ∙ ap (take (length xs)) same ∙ take_at ys (y ∷ []) (length xs) (sym lengths)

-- where the bytes of a class are followed by a mark, they are not all of the class
pushed_outside : (P : ℕ → Type 0) → ((byte : ℕ) → P byte → IsMark byte → ⊥)
    → (digits others : List ℕ) (mark : ℕ)
    → IsMark mark → digits ++ mark ∷ [] ≡ others → All P others → ⊥
pushed_outside P outside digits others mark is_mark is all =
    let at : get_or others (length digits) 0 ≡ mark = ap (λ bytes. get_or bytes (length digits) 0) (sym is) ∙ get_or_at digits mark [] 0 (length digits) refl in
    let within : length digits < length others = omega (arith, ap length is, length-append digits (mark ∷ [])) in
    outside mark (subst P at (all (length digits) 0 within)) is_mark

-- bytes of a class to which no mark belongs are told from their mark
pub marked-unique : (P : ℕ → Type 0) → ((byte : ℕ) → P byte → IsMark byte → ⊥)
    → (bytes digits others : List ℕ) (ext marked : Bool)
    → All P digits → All P others → IsMarked bytes digits ext → IsMarked bytes others marked
    → (digits ≡ others) × (ext ≡ marked)
marked-unique P outside bytes digits others true true all all_others (mark, is_mark, is) (other, is_other, also) =
    (push_injective digits others mark other (sym is ∙ also), refl)
marked-unique P outside bytes digits others true false all all_others (mark, is_mark, is) also =
    absurd (pushed_outside P outside digits others mark is_mark (sym is ∙ also) all_others)
marked-unique P outside bytes digits others false true all all_others is (other, is_other, also) =
    absurd (pushed_outside P outside others digits other is_other (sym also ∙ is) all)
marked-unique P outside bytes digits others false false all all_others is also = (sym is ∙ also, refl)

-- what follows `0x` is marked alone
pub marked_rest : (bytes digits : List ℕ) (x : ℕ) (ext : Bool) → IsMarked bytes (48 ∷ x ∷ digits) ext
    → (rest : List ℕ) × (bytes ≡ 48 ∷ x ∷ rest) × IsMarked rest digits ext
marked_rest bytes digits x true (mark, is_mark, is) = (digits ++ mark ∷ [], is, (mark, is_mark, refl))
marked_rest bytes digits x false is = (digits, is, refl)

-- how many bytes marked ones are
pub marked-length : (bytes digits : List ℕ) (ext : Bool) → IsMarked bytes digits ext
    → length bytes ≡ length digits + cond ext 1 0
marked-length bytes digits true (mark, is_mark, is) = ap length is ∙ length-append digits (mark ∷ [])
marked-length bytes digits false is = ap length is ∙ sym (add-zero (length digits))

-- a mark is at most one byte
pub mark-le-one : (ext : Bool) → cond ext 1 0 ≤ 1
mark-le-one true = omega arith
mark-le-one false = omega arith

-- marked bytes begin with what is marked
pub marked_at : (bytes digits : List ℕ) (ext : Bool) (k : ℕ) → IsMarked bytes digits ext
    → k < length digits → get_or bytes k 0 ≡ get_or digits k 0
marked_at bytes digits true k (mark, is_mark, is) within = ap (λ b. get_or b k 0) is ∙ get_or_append_left digits (mark ∷ []) 0 k within
marked_at bytes digits false k is within = ap (λ b. get_or b k 0) is

-- a list that is not empty has an item
pub nonempty-length : (bytes : List ℕ) → bytes ≢ [] → 0 < length bytes
nonempty-length [] some = absurd (some refl)
nonempty-length (byte ∷ bytes) some = omega arith

-- no bytes are a number in both bases
pub decimal-hexadecimal : (bytes : List ℕ) (number other : ℕ) (ext marked : Bool)
    → IsDecimal bytes number ext → IsHexadecimal bytes other marked → ⊥
decimal-hexadecimal bytes number other ext marked (digits, some, all, number_is, is) (hex, x, some_hex, all_hex, x_is, other_is, also) =
    let (rest, split, rest_is) = marked_rest bytes hex x marked also in
    let long : 0 < length hex = nonempty-length hex some_hex in
    let two : 1 < length digits = omega (arith, mark-le-one ext, marked-length bytes digits ext is, marked-length rest hex marked rest_is, ap length split) in
    let at : get_or digits 1 0 ≡ x = sym (marked_at bytes digits ext 1 is two) ∙ ap (λ b. get_or b 1 0) split in
    digit-mark x (subst IsDigit at (all 1 0 two)) x_is

-- bytes are at most one number
pub number-unique : (bytes : List ℕ) (number other : ℕ) (ext marked : Bool)
    → IsDecimal bytes number ext ⊎ IsHexadecimal bytes number ext
    → IsDecimal bytes other marked ⊎ IsHexadecimal bytes other marked
    → (number ≡ other) × (ext ≡ marked)
number-unique bytes number other ext marked (inl (digits, some, all, number_is, is)) (inl (others, some_others, all_others, other_is, also)) =
    let (same, mark) = marked-unique IsDigit digit-mark bytes digits others ext marked all all_others is also in
    (number_is ∙ ap (number_in 10) same ∙ sym other_is, mark)
number-unique bytes number other ext marked (inl decimal) (inr hexadecimal) = absurd (decimal-hexadecimal bytes number other ext marked decimal hexadecimal)
number-unique bytes number other ext marked (inr hexadecimal) (inl decimal) = absurd (decimal-hexadecimal bytes other number marked ext decimal hexadecimal)
number-unique bytes number other ext marked (inr (digits, x, some, all, x_is, number_is, is)) (inr (others, y, some_others, all_others, y_is, other_is, also)) =
    let (rest, split, rest_is) = marked_rest bytes digits x ext is in
    let (tail, other_split, tail_is) = marked_rest bytes others y marked also in
    let same_rest : rest ≡ tail = cc in
    let (same, mark) = marked-unique IsHexDigit hex_digit-mark tail digits others ext marked all all_others (subst (λ b. IsMarked b digits ext) same_rest rest_is) tail_is in
    (number_is ∙ ap (number_in 16) same ∙ sym other_is, mark)

-- a digit is no point
pub digit-point : (byte : ℕ) → IsDigit byte → byte ≢ 46
digit-point byte digit same = omega (arith, digit, same)

hex_digit-point : (byte : ℕ) → IsHexDigit byte → byte ≢ 46
hex_digit-point byte digit same = grind arith

mark-point : (byte : ℕ) → IsMark byte → byte ≢ 46
mark-point byte mark same = grind arith

marked-no_point : (bytes front : List ℕ) (ext : Bool) → All (λ byte. byte ≢ 46) front → IsMarked bytes front ext
    → All (λ byte. byte ≢ 46) bytes
marked-no_point bytes front true all (mark, is_mark, is) =
    subst (All (λ byte. byte ≢ 46)) (sym is) (All-append (λ byte. byte ≢ 46) front (mark ∷ []) all
    (All-cons (λ byte. byte ≢ 46) mark [] (mark-point mark is_mark) (λ k d below. absurd (omega arith))))
marked-no_point bytes front false all is = subst (All (λ byte. byte ≢ 46)) (sym is) all

-- no byte of a number without a point is one
pub number-no_point : (bytes : List ℕ) (number : ℕ) (ext : Bool)
    → IsDecimal bytes number ext ⊎ IsHexadecimal bytes number ext → All (λ byte. byte ≢ 46) bytes
number-no_point bytes number ext (inl (digits, some, all, number_is, is)) =
    marked-no_point bytes digits ext (All-weaker IsDigit (λ byte. byte ≢ 46) digit-point digits all) is
number-no_point bytes number ext (inr (digits, x, some, all, is_mark, number_is, is)) =
    marked-no_point bytes (48 ∷ x ∷ digits) ext
    (All-cons (λ byte. byte ≢ 46) 48 (x ∷ digits) (λ same. absurd (omega (arith, same)))
    (All-cons (λ byte. byte ≢ 46) x digits (mark-point x is_mark) (All-weaker IsHexDigit (λ byte. byte ≢ 46) hex_digit-point digits all)))
    is

-- no bytes are a number with a point and one without
pub float-number : (bytes : List ℕ) (number : ℕ) (ext : Bool) → IsFloat bytes
    → IsDecimal bytes number ext ⊎ IsHexadecimal bytes number ext → ⊥
float-number bytes number ext (whole, fraction, some, all, every, is) without =
    let at : get_or bytes (length whole) 0 ≡ 46 = ap (λ b. get_or b (length whole) 0) is ∙ get_or_at whole 46 fraction 0 (length whole) refl in
    let within : length whole < length bytes = omega (arith, ap length is, length-append whole (46 ∷ fraction)) in
    number-no_point bytes number ext without (length whole) 0 within at

-- a number with a point begins with a digit
pub float-front : (bytes : List ℕ) → IsFloat bytes
    → (first : ℕ) × (others : List ℕ) × (bytes ≡ first ∷ others) × IsDigit first
float-front bytes ([], fraction, some, all, every, is) = absurd (some refl)
float-front bytes (digit ∷ whole, fraction, some, all, every, is) = (digit, whole ++ 46 ∷ fraction, is, all 0 0 (omega arith))
