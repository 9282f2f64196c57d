-- Numbers, and the digits that spell them, the most significant digit first.
use Rattle.std.specs.Prelude.{◌≡◌, ◌≢◌, ℕ, ◌-◌, ◌<◌, ◌≤◌, List, ◌++◌, length, replicate, slice_index, All, true, ◌+◌, ◌*◌, ◌^◌, Bool, ◌⊎◌, fold, nat_lt, nat_le, ◌&&◌, if◌then◌else◌, Option, Some, None}
use Rattle.std.specs.Fmt.{digits}
use Rattle.std.specs.List.{list_all}

-- ---- Digits, and the numbers that they stand for, the most significant digit first.

-- 0 to 9
abbrev pub IsDigit : ℕ → Type 0
IsDigit byte = (48 ≤ byte) × (byte ≤ 57)

-- 0 to 9, A to F or a to f
abbrev pub IsHexDigit : ℕ → Type 0
IsHexDigit byte = IsDigit byte ⊎ ((65 ≤ byte) × (byte ≤ 70)) ⊎ ((97 ≤ byte) × (byte ≤ 102))

-- what a hexadecimal digit stands for
abbrev pub digit_value : ℕ → ℕ
digit_value byte = if nat_lt byte 58 then byte - 48 else (if nat_lt byte 71 then byte - 55 else byte - 87)

-- the number of these digits in a base
abbrev pub number_in : ℕ → List ℕ → ℕ
number_in base digits = fold (λ number digit. number * base + digit_value digit) 0 digits

-- a number of 64 bits, or none
abbrev pub number_of_64_bits : ℕ → Option ℕ
number_of_64_bits number = if nat_lt number (2 ^ 64) then Some number else None

-- whether the byte is one of 0 to 9
abbrev pub is_digit : ℕ → Bool
is_digit byte = nat_le 48 byte && nat_le byte 57

-- the number that decimal digits stand for, where there is a digit and the number is at most the limit
abbrev pub number_up_to : ℕ → List ℕ → Option ℕ
number_up_to limit bytes =
    if nat_lt 0 (length bytes) && list_all is_digit bytes && nat_le (number_in 10 bytes) limit
    then Some (number_in 10 bytes) else None

-- ---- Numbers in the digits of a base.

-- a numeral behind as many zeros as it lacks of so many digits
abbrev pub zero_filled : ℕ → List ℕ → List ℕ
zero_filled least numeral = replicate (least - length numeral) 48 ++ numeral

-- the hexadecimal digits of a number, A to F in upper case
abbrev pub hexadecimal : ℕ → List ℕ
hexadecimal number = digits 16 true number

-- decimal digits that stand for a number, at least so many, and no zero before more of them
pub record IsNumeral (least number : ℕ) (numeral : List ℕ) : Type 0 where
  pub decimal : All IsDigit numeral
  pub value : number_in 10 numeral ≡ number
  pub enough : least ≤ length numeral
  pub no_more_zeros : least < length numeral → slice_index numeral 0 ≢ 48
