-- What the digits that are written stand for.
use Rattle.std.proofs.Common.{◌≡◌, ℕ, zero, suc, ◌+◌, ◌-◌, ◌*◌, ◌^◌, ◌<◌, ◌≤◌, List, ◌++◌, length, replicate, get_or, refl, ap, subst, ◌∙◌, arith, length-append}
use Rattle.std.specs.Prelude.{All, decimal, fold}
use Rattle.std.proofs.lemmas.List.{length-replicate}
use Rattle.std.proofs.lemmas.Fmt.{digits_decimal, digits_value-decimal, first_decimal}
use Rattle.std.proofs.lemmas.List.Elements.{All-nil, All-cons, All-head, All-tail}
use Rattle.std.proofs.lemmas.Str.Parse.{IsNumeralModel, IsDigitsTest, FoldsDigits, numerals_by_fold}
use Rattle.std.specs.Fmt.{digits}
use Rattle.text_parts.specs.Number.{IsDigit, digit_value, number_in, zero_filled, IsNumeral}

-- decimal digits, byte by byte
tells_digits : IsDigitsTest (All IsDigit)
tells_digits = record {
  empty = All-nil IsDigit;
  parts = λ c cs all. (All-head IsDigit c cs all, All-tail IsDigit c cs all);
  more = λ c cs is all. All-cons IsDigit c cs is all;
}

-- what a digit stands for
digit_is : (byte : ℕ) → 48 ≤ byte → byte ≤ 57 → digit_value byte ≡ byte - 48
digit_is byte from to = grind arith

-- the number of more digits, after the number so far
number_after : ℕ → List ℕ → ℕ
number_after n digits = fold (λ number digit. number * 10 + digit_value digit) n digits

-- reads them from the left
folds : FoldsDigits number_after
unfolding number_after
folds = record {
  empty = λ n. refl;
  more = λ n c cs is.
      let value : digit_value c ≡ c - 48 = digit_is c is.0 is.1 in
      ap (λ digit. fold (λ number digit. number * 10 + digit_value digit) (n * 10 + digit) cs) value;
}

-- the words of this crate for decimal numerals
model : IsNumeralModel (All IsDigit) (number_in 10)
unfolding number_after
model = numerals_by_fold (All IsDigit) tells_digits number_after folds

-- zeros before digits change nothing
digits_behind_zeros : (count : ℕ) (digits : List ℕ) → All IsDigit digits → All IsDigit (replicate count 48 ++ digits)
digits_behind_zeros zero digits all = all
digits_behind_zeros (suc count) digits all = All-cons IsDigit 48 (replicate count 48 ++ digits) (omega arith, omega arith) (digits_behind_zeros count digits all)

number_behind_zeros : (count : ℕ) (digits : List ℕ) → number_in 10 (replicate count 48 ++ digits) ≡ number_in 10 digits
number_behind_zeros zero digits = refl
number_behind_zeros (suc count) digits = number_behind_zeros count digits

-- 0 has one digit
length_of_zero : length (decimal 0) ≡ 1
unfolding digits
length_of_zero = refl

-- a number of more than one digit is not 0
is_positive : (number : ℕ) → 1 < length (decimal number) → 0 < number
is_positive zero long = absurd (let one : length (decimal zero) ≡ 1 = length_of_zero in omega (arith, one))
is_positive (suc number) long = omega arith

-- the digits of a number behind zeros are its numeral
pub numeral_is : (least number : ℕ) → 1 ≤ least → number < 2 ^ 64 → IsNumeral least number (zero_filled least (decimal number))
numeral_is least number some fits =
    let digits = decimal number in
    let zeros = least - length digits in
    let whole : length (zero_filled least digits) ≡ zeros + length digits = length-append (replicate zeros 48) digits ∙ ap (λ n. n + length digits) (length-replicate zeros 48) in
    record {
      decimal = digits_behind_zeros zeros digits (digits_decimal model number fits);
      value = number_behind_zeros zeros digits ∙ digits_value-decimal model number fits;
      enough = omega (arith, whole);
      no_more_zeros = λ more zero_first.
          let none : zeros ≡ 0 = omega (arith, whole, more) in
          let long : 1 < length digits = omega (arith, whole, more, none) in
          let first : get_or digits 0 0 ≡ 48 = subst (λ (count : ℕ). get_or (replicate count 48 ++ digits) 0 0 ≡ 48) none zero_first in
          omega (arith, first, first_decimal number (is_positive number long) fits);
    }
