-- Numbers of digits, and where they pass 64 bits.
use Rattle.std.proofs.Common.{nat_lt, nat_le, true, All, ◌≡◌, ◌<◌, ◌≤◌, ◌+◌, ◌*◌, ◌^◌, ℕ, suc, List, [], ◌∷◌, length, get_or, take, drop, Some, None, refl, sym, ap, ◌∙◌, arith}
use Rattle.std.specs.List.{fold, list_all}
use Rattle.std.proofs.lemmas.Option.{cond_some}
use Rattle.std.proofs.lemmas.Bool.Decides.{nat_tests}
use Rattle.std.proofs.lemmas.List.{take_more, take-append-drop}
use Rattle.std.proofs.lemmas.List.Sums.{fold-append, AllPass-from_list_all, list_all-from_AllPass}
use Rattle.std.proofs.lemmas.List.Elements.{All-head, All-tail}
use Rattle.std.proofs.Math.Nat.{mul-le-mul_left, mul-le-mul_right, mul_assoc, pow-suc, pow-zero, le_trans}
use Rattle.text_parts.specs.Number.{IsDigit, IsHexDigit, is_digit, number_up_to, digit_value, number_in, number_of_64_bits}

-- one more digit
abbrev extended : ℕ → ℕ → ℕ → ℕ
extended base number digit = number * base + digit_value digit

extended-grows : (base number digit : ℕ) → 1 ≤ base → number ≤ extended base number digit
extended-grows base number digit some = omega (arith, mul-le-mul_left number some)

fold-grows : (base number : ℕ) (digits : List ℕ) → 1 ≤ base
    → number ≤ fold (extended base) number digits
fold-grows base number [] some = omega arith
fold-grows base number (digit ∷ digits) some =
    le_trans (extended-grows base number digit some) (fold-grows base (extended base number digit) digits some)

-- the number of one more digit
pub number_in-more : (base : ℕ) (digits : List ℕ) (k : ℕ) → k < length digits
    → number_in base (take (k + 1) digits) ≡ number_in base (take k digits) * base + digit_value (get_or digits k 0)
number_in-more base digits k within =
    ap (number_in base) (take_more digits k 0 within) ∙ fold-append (extended base) 0 (take k digits) (get_or digits k 0 ∷ [])

-- more digits stand for no smaller number
pub number_in-take-le : (base : ℕ) (digits : List ℕ) (k : ℕ) → 1 ≤ base
    → number_in base (take k digits) ≤ number_in base digits
number_in-take-le base digits k some =
    let whole : number_in base digits ≡ fold (extended base) (number_in base (take k digits)) (drop k digits) =
    ap (number_in base) (sym (take-append-drop k digits)) ∙ fold-append (extended base) 0 (take k digits) (drop k digits) in
    let grows : number_in base (take k digits) ≤ fold (extended base) (number_in base (take k digits)) (drop k digits) =
    fold-grows base (number_in base (take k digits)) (drop k digits) some in
    omega (arith, whole, grows)

-- a number from 2^64 on is none of 64 bits
pub number_of_64_bits-above : (number : ℕ) → 2 ^ 64 ≤ number → None ≡ number_of_64_bits number
number_of_64_bits-above number above = grind (arith, nat_tests)

-- a number below 2^64 is one of 64 bits
pub number_of_64_bits-below : (number : ℕ) → number < 2 ^ 64 → Some number ≡ number_of_64_bits number
number_of_64_bits-below number below = grind (arith, nat_tests)

-- the digits of a number up to a limit
pub record IsNumberUpTo (limit : ℕ) (bytes : List ℕ) (number : ℕ) : Type 0 where
  pub some : 0 < length bytes
  pub digits : All IsDigit bytes
  pub is : number ≡ number_in 10 bytes
  pub within : number ≤ limit

-- bytes that pass the test of a digit are digits
digits_pass : (bytes : List ℕ) → list_all is_digit bytes ≡ true → All IsDigit bytes
digits_pass bytes pass k d within = grind (arith, nat_tests, AllPass-from_list_all is_digit bytes pass k d within)

-- digits pass the test
pass_digits : (bytes : List ℕ) → All IsDigit bytes → list_all is_digit bytes ≡ true
pass_digits bytes digits = list_all-from_AllPass is_digit bytes (λ k d within. let digit = digits k d within in grind (arith, nat_tests))

-- a number that was found is that of the digits
pub number_up_to-some : (limit : ℕ) (bytes : List ℕ) (number : ℕ) → number_up_to limit bytes ≡ Some number → IsNumberUpTo limit bytes number
number_up_to-some limit bytes number found =
    let parts = cond_some _ _ _ found in
    let all : list_all is_digit bytes ≡ true = grind (arith, nat_tests, parts.0) in
    record { some = grind (arith, nat_tests, parts.0); digits = digits_pass bytes all; is = sym parts.1; within = grind (arith, nat_tests, parts.0, parts.1) }

-- the number of digits is found
pub number_up_to-is : (limit : ℕ) (bytes : List ℕ) (number : ℕ) → IsNumberUpTo limit bytes number → number_up_to limit bytes ≡ Some number
number_up_to-is limit bytes number is =
    let all : list_all is_digit bytes ≡ true = pass_digits bytes is.digits in
    let some : nat_lt 0 (length bytes) ≡ true = let more = is.some in grind (arith, nat_tests) in
    let within : nat_le (number_in 10 bytes) limit ≡ true = let le = is.within in let same = is.is in grind (arith, nat_tests) in
    rw (some, all, within) (ap Some (sym is.is))

-- a number so far, and digits behind it
fold-lt : (base number : ℕ) (digits : List ℕ) → All (λ digit. digit_value digit < base) digits → fold (extended base) number digits < (number + 1) * base ^ length digits
fold-lt base number [] small =
    let one : base ^ length {A = ℕ} [] ≡ 1 = pow-zero base in
    let grown : (number + 1) * base ^ length {A = ℕ} [] ≡ number + 1 = rw one (omega arith) in
    let none : fold (extended base) number [] ≡ number = refl in
    rw (none, grown) (omega arith)
fold-lt base number (digit ∷ digits) small =
    let rest = fold-lt base (extended base number digit) digits (All-tail (λ d. digit_value d < base) digit digits small) in
    let first : digit_value digit < base = All-head (λ d. digit_value d < base) digit digits small in
    let p : base ^ suc (length digits) ≡ base * base ^ length digits = first_of (search (arith, pow-suc), omega (arith, pow-suc)) in
    let room : extended base number digit + 1 ≤ (number + 1) * base = grind (arith, first) in
    let wider : (extended base number digit + 1) * base ^ length digits ≤ ((number + 1) * base) * base ^ length digits = mul-le-mul_right (base ^ length digits) room in
    let regrouped : ((number + 1) * base) * base ^ length digits ≡ (number + 1) * base ^ suc (length digits) = mul_assoc (number + 1) base (base ^ length digits) ∙ ap (λ q. (number + 1) * q) (sym p) in
    omega (arith, rest, wider, regrouped)

-- so many digits stand for less than that power of the base
pub number_in-lt : (base : ℕ) (digits : List ℕ) → All (λ digit. digit_value digit < base) digits → number_in base digits < base ^ length digits
number_in-lt base digits small = let below = fold-lt base 0 digits small in omega (arith, below)

-- a decimal digit stands for less than 10
pub decimal_below : (digits : List ℕ) → All IsDigit digits → All (λ digit. digit_value digit < 10) digits
decimal_below digits all k d within = let is = all k d within in grind (arith, is)

-- a hexadecimal digit stands for less than 16
pub hexadecimal_below : (digits : List ℕ) → All IsHexDigit digits → All (λ digit. digit_value digit < 16) digits
hexadecimal_below digits all k d within = let is = all k d within in grind (arith, is)
