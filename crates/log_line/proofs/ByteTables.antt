-- The table of digits, and the first byte that passes a test.
use Rattle.std.proofs.Common.{◌≡◌, ℕ, ◌-◌, ◌<◌, ◌≤◌, Bool, cond, ltb, List, length, Option, Some, None, get_or, ap, ◌∙◌, zero-add, arith}
use Rattle.std.specs.List.{position}
use Rattle.std.proofs.lemmas.Bool.{false_from_ne_true}
use Rattle.std.proofs.lemmas.Bool.Decides.{nat_tests}
use Rattle.std.proofs.lemmas.List.FromFn.{get_or-map-range_with_len}
use Rattle.std.proofs.lemmas.List.Sums.{position_or_len_is}
use Rattle.memchr.specs.Find.{IsFirstByte}
use Rattle.text_parts.specs.Number.{IsHexDigit, digit_value}
use Rattle.log_line.specs.declared.numbers.TheConstants.{DIGITS}

-- what a byte stands for as a hexadecimal digit, or 255
abbrev pub digit_or : ℕ → ℕ
digit_or byte =
    cond (ltb byte 48) 255 (cond (ltb byte 58) (byte - 48) (cond (ltb byte 65) 255 (cond (ltb byte 71) (byte - 55) (cond (ltb byte 97) 255 (cond (ltb byte 103) (byte - 87) 255)))))

-- the table has it of each byte
pub entry : (byte at : ℕ) → at ≡ byte → byte < 256 → get_or DIGITS at 0 ≡ digit_or byte
entry byte at is low = ap (λ i. get_or DIGITS i 0) is ∙ get_or-map-range_with_len digit_or 0 256 byte byte 0 low (zero-add byte)

-- of a digit it is the digit's value
pub digit_is : (byte : ℕ) → IsHexDigit byte → digit_or byte ≡ digit_value byte
digit_is byte is = grind (arith, nat_tests, is)

-- and at most 15
pub digit_at_most : (byte : ℕ) → IsHexDigit byte → digit_value byte ≤ 15
digit_at_most byte is = grind (arith, nat_tests, is)

-- below 16 it is a digit's value
pub digit_found : (byte value : ℕ) → value ≡ digit_or byte → value < 16 → IsHexDigit byte × (value ≡ digit_value byte)
digit_found byte value is low = grind (arith, nat_tests)

-- else the byte is no digit
pub no_digit : (byte value : ℕ) → value ≡ digit_or byte → 16 ≤ value → IsHexDigit byte → ⊥
no_digit byte value is high hex = grind (arith, nat_tests)

-- the first byte that passes a test stands at its position
pub first_is_position : (test : ℕ → Bool) (bytes : List ℕ) (place : Option ℕ) → IsFirstByte test bytes place → place ≡ position test bytes
first_is_position test bytes None none =
    let end = position_or_len_is test bytes (length bytes) 0 (omega arith) (λ k h. false_from_ne_true (test (get_or bytes k 0)) (none k (omega arith) h)) (λ h. absurd (omega (arith, h))) in
    grind (arith, nat_tests)
first_is_position test bytes (Some place) first =
    let at = position_or_len_is test bytes place 0 (omega (arith, first.0.high)) (λ k h. false_from_ne_true (test (get_or bytes k 0)) (first.0.before k (omega arith) h)) (λ h. first.1) in
    let inside = first.0.high in
    grind (arith, nat_tests)
