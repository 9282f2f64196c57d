-- Hexadecimal numerals, digit by digit.
use Rattle.std.proofs.Common.{◌≡◌, ℕ, zero, suc, ◌+◌, ◌-◌, ◌*◌, ◌/◌, ◌%◌, ◌^◌, ◌<◌, ◌≤◌, Bool, true, false, List, [], ◌∷◌, ◌++◌, length, replicate, refl, sym, ap, ◌∙◌, arith, append_assoc, length-append}
use Rattle.std.specs.Prelude.{◌==◌, nat_lt, if◌then◌else◌}
use Rattle.std.specs.Fmt.{digits, digits_onto, digit_glyph}
use Rattle.std.proofs.Math.Nat.{pow-suc}
use Rattle.std.proofs.lemmas.Bool.Decides.{nat_tests}
use Rattle.std.proofs.lemmas.Fmt.{hex_one_digit}
use Rattle.std.proofs.lemmas.Grind.{replicate_next}
use Rattle.text_parts.specs.Number.{zero_filled, hexadecimal}
use Rattle.log_line.specs.Written.{byte_text}

-- the last digit of a number
abbrev last : ℕ → ℕ
last n = digit_glyph true (n % 16)

-- the digits of a number, at most so many, before what is behind them
abbrev onto : ℕ → ℕ → List ℕ → List ℕ
onto turns n behind = digits_onto turns 16 true n behind

-- what is behind the digits changes none of them
behind_stays : (turns n : ℕ) (behind : List ℕ) → onto turns n behind ≡ onto turns n [] ++ behind
behind_stays zero n behind = refl
behind_stays (suc turns) n behind = by_test (behind_stays turns (n / 16)) (n / 16 == 0)
  where
    by_test : ((b : List ℕ) → onto turns (n / 16) b ≡ onto turns (n / 16) [] ++ b)
        → (t : Bool) → (if t then last n ∷ behind else onto turns (n / 16) (last n ∷ behind)) ≡ (if t then last n ∷ [] else onto turns (n / 16) (last n ∷ [])) ++ behind
    by_test again true = refl
    by_test again false =
        again (last n ∷ behind) ∙ sym (append_assoc (onto turns (n / 16) []) (last n ∷ []) behind) ∙ ap (λ l. l ++ behind) (sym (again (last n ∷ [])))

-- one turn more than there are digits changes none of them
turns_enough : (turns n : ℕ) (behind : List ℕ) → n < 16 ^ suc turns → onto (suc turns) n behind ≡ onto (suc (suc turns)) n behind
turns_enough zero n behind low =
    let none : (n / 16 == 0) ≡ true = grind (arith, nat_tests, low) in
    rw none refl
turns_enough (suc turns) n behind low =
    let power : 16 ^ suc (suc turns) ≡ 16 * 16 ^ suc turns = first_of (search (arith, pow-suc), omega (arith, pow-suc)) in
    ap (λ (l : List ℕ). if n / 16 == 0 then last n ∷ behind else l) (turns_enough turns (n / 16) (last n ∷ behind) (omega (arith, low, power)))

-- a number of more than one digit is one with its last digit behind
more_digits : (n : ℕ) → 16 ≤ n → n < 2 ^ 32 → hexadecimal n ≡ hexadecimal (n / 16) ++ last n ∷ []
unfolding digits
more_digits n more low =
    let some : (n / 16 == 0) ≡ false = grind (arith, nat_tests, more) in
    let opened : hexadecimal n ≡ onto 63 (n / 16) (last n ∷ []) = rw some (refl {a = onto 63 (n / 16) (last n ∷ [])}) in
    opened ∙ turns_enough 62 (n / 16) (last n ∷ []) (omega (arith, low)) ∙ behind_stays 64 (n / 16) (last n ∷ [])

-- one digit
one_digit : (n : ℕ) → n < 16 → hexadecimal n ≡ last n ∷ []
one_digit n low =
    let same : n % 16 ≡ n = omega (arith, low) in
    hex_one_digit true n low ∙ ap (λ d. digit_glyph true d ∷ []) (sym same)

-- a numeral with one digit behind
digit_behind : (count : ℕ) (numeral : List ℕ) (digit : ℕ) → zero_filled (suc count) (numeral ++ digit ∷ []) ≡ zero_filled count numeral ++ digit ∷ []
digit_behind count numeral digit =
    let whole = length-append numeral (digit ∷ []) in
    let zeros : suc count - length (numeral ++ digit ∷ []) ≡ count - length numeral = omega (arith, whole) in
    ap (λ n. replicate n 48 ++ (numeral ++ digit ∷ [])) zeros ∙ sym (append_assoc (replicate (count - length numeral) 48) numeral (digit ∷ []))

-- zeros are the numeral of 0
zeros_are : (count : ℕ) → replicate (suc count) 48 ≡ zero_filled (suc count) (48 ∷ [])
zeros_are count =
    let some : suc count ≡ count + 1 = omega arith in
    let same : suc count - 1 ≡ count = omega arith in
    ap (λ n. replicate n 48) some ∙ replicate_next count 48 ∙ ap (λ n. replicate n 48 ++ 48 ∷ []) (sym same)

-- one digit with zeros before it
one_behind : (count digit : ℕ) → zero_filled (suc (suc count)) (digit ∷ []) ≡ replicate (suc count) 48 ++ digit ∷ []
one_behind count digit =
    let same : suc (suc count) - 1 ≡ suc count = omega arith in
    ap (λ n. replicate n 48 ++ digit ∷ []) same

-- the last digit of a numeral with zeros before it
last_digit : (count n : ℕ) → n < 2 ^ 32 → zero_filled (suc (suc count)) (hexadecimal n) ≡ zero_filled (suc count) (hexadecimal (n / 16)) ++ last n ∷ []
last_digit count n low = by_test (nat_lt n 16) refl
  where
    by_test : (t : Bool) → nat_lt n 16 ≡ t → zero_filled (suc (suc count)) (hexadecimal n) ≡ zero_filled (suc count) (hexadecimal (n / 16)) ++ last n ∷ []
    by_test true is =
        let small : n < 16 = grind (arith, nat_tests, is) in
        let none : n / 16 ≡ 0 = omega (arith, small) in
        let front : hexadecimal (n / 16) ≡ 48 ∷ [] = ap hexadecimal none ∙ one_digit 0 (omega arith) in
        let zeros : replicate (suc count) 48 ≡ zero_filled (suc count) (hexadecimal (n / 16)) = zeros_are count ∙ sym (ap (zero_filled (suc count)) front) in
        ap (zero_filled (suc (suc count))) (one_digit n small) ∙ one_behind count (last n) ∙ ap (λ l. l ++ last n ∷ []) zeros
    by_test false is =
        let more : 16 ≤ n = grind (arith, nat_tests, is) in
        ap (zero_filled (suc (suc count))) (more_digits n more low) ∙ digit_behind (suc count) (hexadecimal (n / 16)) (last n)

-- two digits of a byte
pub byte_digits : (n : ℕ) → n < 256 → byte_text n ≡ digit_glyph true (n / 16) ∷ digit_glyph true (n % 16) ∷ []
byte_digits n low =
    let small : n / 16 < 16 = omega (arith, low) in
    last_digit 0 n (omega (arith, low)) ∙ ap (λ l. zero_filled 1 l ++ last n ∷ []) (hex_one_digit true (n / 16) small)

-- the last two digits of a numeral with zeros before it
pub last_byte : (count n : ℕ) → n < 2 ^ 32 → zero_filled (suc (suc (suc count))) (hexadecimal n) ≡ zero_filled (suc count) (hexadecimal (n / 256)) ++ byte_text (n % 256)
last_byte count n low =
    let over : n / 16 / 16 ≡ n / 256 = omega (arith, low) in
    let first : n / 16 % 16 ≡ n % 256 / 16 = omega (arith, low) in
    let second : n % 16 ≡ n % 256 % 16 = omega (arith, low) in
    let front = zero_filled (suc count) (hexadecimal (n / 16 / 16)) in
    last_digit (suc count) n low ∙ ap (λ l. l ++ last n ∷ []) (last_digit count (n / 16) (omega (arith, low)))
    ∙ append_assoc front (last (n / 16) ∷ []) (last n ∷ [])
    ∙ ap (λ m. zero_filled (suc count) (hexadecimal m) ++ last (n / 16) ∷ last n ∷ []) over
    ∙ ap (λ l. zero_filled (suc count) (hexadecimal (n / 256)) ++ l)
    (ap (λ d. digit_glyph true d ∷ last n ∷ []) first ∙ ap (λ d. digit_glyph true (n % 256 / 16) ∷ digit_glyph true d ∷ []) second ∙ sym (byte_digits (n % 256) (omega arith)))

-- three digits
pub three_digits : (n : ℕ) → n < 4096 → zero_filled 3 (hexadecimal n) ≡ digit_glyph true (n / 256) ∷ byte_text (n % 256)
three_digits n low =
    last_byte 0 n (omega (arith, low)) ∙ ap (λ l. zero_filled 1 l ++ byte_text (n % 256)) (hex_one_digit true (n / 256) (omega (arith, low)))

-- eight digits
pub eight_digits : (n : ℕ) → n < 2 ^ 32 → zero_filled 8 (hexadecimal n) ≡ byte_text (n / 16777216) ++ byte_text (n / 65536 % 256) ++ byte_text (n / 256 % 256) ++ byte_text (n % 256)
eight_digits n low =
    let third : n / 256 / 256 ≡ n / 65536 = omega (arith, low) in
    let fourth : n / 65536 / 256 ≡ n / 16777216 = omega (arith, low) in
    let b1 = byte_text (n / 65536 % 256) in
    let b2 = byte_text (n / 256 % 256) in
    let b3 = byte_text (n % 256) in
    let deepest = last_byte 1 (n / 65536) (omega (arith, low)) ∙ ap (λ m. byte_text m ++ b1) fourth in
    let deeper = last_byte 3 (n / 256) (omega (arith, low)) ∙ ap (λ m. zero_filled 4 (hexadecimal m) ++ b2) third ∙ ap (λ l. l ++ b2) deepest in
    last_byte 5 n low ∙ ap (λ l. l ++ b3) deeper
