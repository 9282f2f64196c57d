-- What hexadecimal digits that are written stand for.
use Rattle.std.proofs.Common.{◌≡◌, ℕ, zero, suc, ◌+◌, ◌-◌, ◌*◌, ◌/◌, ◌%◌, ◌^◌, ◌<◌, ◌≤◌, Bool, true, false, List, [], ◌∷◌, ◌++◌, length, replicate, eqb, refl, sym, ap, subst, ◌∙◌, arith, inl, append_assoc, append-nil, length-append}
use Rattle.std.specs.Prelude.{All, fold, ◌==◌, if◌then◌else◌}
use Rattle.std.specs.Fmt.{digits, digits_onto, digit_glyph}
use Rattle.std.proofs.Math.Nat.{pow-suc, pow-le-pow_right}
use Rattle.std.proofs.lemmas.Bool.Decides.{nat_tests}
use Rattle.std.proofs.lemmas.List.{length-replicate}
use Rattle.std.proofs.lemmas.List.Elements.{All-nil, All-cons, All-push, All-append, All-replicate}
use Rattle.std.proofs.lemmas.List.Sums.{fold-append}
use Rattle.text_parts.specs.Number.{IsHexDigit, digit_value, number_in, zero_filled, hexadecimal}

-- one digit is read as what was written
digit_is : (d : ℕ) → d < 16 → digit_value (digit_glyph true d) ≡ d
digit_is d small = grind (arith, small)

-- and it is a digit
is_digit : (d : ℕ) → d < 16 → IsHexDigit (digit_glyph true d)
is_digit d small = grind (arith, small)

-- one more digit behind
number_in-push : (digits : List ℕ) (digit : ℕ) → number_in 16 (digits ++ digit ∷ []) ≡ number_in 16 digits * 16 + digit_value digit
number_in-push digits digit = fold-append (λ number d. number * 16 + digit_value d) 0 digits (digit ∷ [])

-- these digits stand for the number, and are no more than it needs
pub record Writes (number : ℕ) (digits : List ℕ) : Type 0 where
  pub hexadecimal : All IsHexDigit digits
  pub value : number_in 16 digits ≡ number
  pub short : (count : ℕ) → 1 ≤ count → number < 16 ^ count → length digits ≤ count

-- the last digit of a number below 16
writes_one : (n : ℕ) → n / 16 ≡ 0 → Writes n (digit_glyph true (n % 16) ∷ [])
writes_one n none =
    let small : n % 16 < 16 = omega arith in
    record {
      hexadecimal = All-cons IsHexDigit (digit_glyph true (n % 16)) [] (is_digit (n % 16) small) (All-nil IsHexDigit);
      value =
          let pushed = number_in-push [] (digit_glyph true (n % 16)) in
          let digit = digit_is (n % 16) small in
          omega (arith, pushed, digit);
      short = λ count some below. some;
    }

-- one place less
fewer : (n count : ℕ) → (n / 16 ≡ 0 → ⊥) → 1 ≤ count → n < 16 ^ count → (rest : ℕ) × (count ≡ suc rest) × (1 ≤ rest) × (n / 16 < 16 ^ rest)
fewer n zero more some below = absurd (omega (arith, some))
fewer n (suc zero) more some below = absurd (more (omega (arith, below)))
fewer n (suc (suc rest)) more some below =
    let p : 16 ^ suc (suc rest) ≡ 16 * 16 ^ suc rest = first_of (search (arith, pow-suc), omega (arith, pow-suc)) in
    (suc rest, refl, omega arith, omega (arith, below, p))

-- one more digit behind
writes_more : (n : ℕ) (front : List ℕ) → (n / 16 ≡ 0 → ⊥) → Writes (n / 16) front → Writes n (front ++ digit_glyph true (n % 16) ∷ [])
writes_more n front more is =
    let small : n % 16 < 16 = omega arith in
    let glyph = digit_glyph true (n % 16) in
    let pushed = number_in-push front glyph in
    let value_is = is.value in
    let digit = digit_is (n % 16) small in
    record {
      hexadecimal = All-push IsHexDigit front glyph is.hexadecimal (is_digit (n % 16) small);
      value = omega (arith, pushed, value_is, digit);
      short = λ count some below.
          let one_less = fewer n count more some below in
          let front_short = is.short one_less.0 one_less.2 one_less.3 in
          let whole = length-append front (glyph ∷ []) in
          let same = one_less.1 in
          omega (arith, front_short, whole, same);
    }

-- by whether the last digit is the only one
by_test : (k n : ℕ) (behind : List ℕ)
    → (n / 16 < 16 ^ k → (front : List ℕ) × (digits_onto k 16 true (n / 16) (digit_glyph true (n % 16) ∷ behind) ≡ front ++ digit_glyph true (n % 16) ∷ behind) × Writes (n / 16) front)
    → n < 16 ^ suc k → (t : Bool) → (n / 16 == 0) ≡ t
    → (front : List ℕ) × ((if t then digit_glyph true (n % 16) ∷ behind else digits_onto k 16 true (n / 16) (digit_glyph true (n % 16) ∷ behind)) ≡ front ++ behind) × Writes n front
by_test k n behind again below true is =
    let none : n / 16 ≡ 0 = grind (arith, nat_tests, is) in
    (digit_glyph true (n % 16) ∷ [], refl, writes_one n none)
by_test k n behind again below false is =
    let p : 16 ^ suc k ≡ 16 * 16 ^ k = first_of (search (arith, pow-suc), omega (arith, pow-suc)) in
    let small : n / 16 < 16 ^ k = omega (arith, below, p) in
    let rest = again small in
    let more : n / 16 ≡ 0 → ⊥ = λ none. absurd (let t : (n / 16 == 0) ≡ true = grind (arith, nat_tests, none) in let f = is in cc) in
    (rest.0 ++ digit_glyph true (n % 16) ∷ [], rest.1 ∙ sym (append_assoc rest.0 (digit_glyph true (n % 16) ∷ []) behind), writes_more n rest.0 more rest.2)

-- the digits of a number with at most so many, before what is behind them
writes_onto : (k n : ℕ) (behind : List ℕ) → n < 16 ^ k → (front : List ℕ) × (digits_onto k 16 true n behind ≡ front ++ behind) × Writes n front
writes_onto zero n behind below =
    let none : n ≡ 0 = omega (arith, below) in
    ([], refl, record { hexadecimal = All-nil IsHexDigit; value = sym none; short = λ count some small. omega arith })
writes_onto (suc k) n behind below =
    by_test k n behind (writes_onto k (n / 16) (digit_glyph true (n % 16) ∷ behind)) below (n / 16 == 0) refl

-- the digits of a number of 64 bits
pub writes-hexadecimal : (n : ℕ) → n < 2 ^ 64 → Writes n (hexadecimal n)
unfolding digits
writes-hexadecimal n below =
    let all = writes_onto 64 n [] (omega (arith, below)) in
    let same : hexadecimal n ≡ all.0 = all.1 ∙ append-nil all.0 in
    subst (Writes n) (sym same) all.2

-- zeros before digits change nothing
number_behind_zeros : (count : ℕ) (digits : List ℕ) → number_in 16 (replicate count 48 ++ digits) ≡ number_in 16 digits
number_behind_zeros zero digits = refl
number_behind_zeros (suc count) digits = number_behind_zeros count digits

-- exactly so many hexadecimal digits that stand for a number
pub record IsHexadecimal (count number : ℕ) (numeral : List ℕ) : Type 0 where
  pub hexadecimal : All IsHexDigit numeral
  pub value : number_in 16 numeral ≡ number
  pub count_is : length numeral ≡ count

-- the digits of a number behind zeros are its numeral
pub hexadecimal_is_numeral : (count number : ℕ) → 1 ≤ count → count ≤ 16 → number < 16 ^ count → IsHexadecimal count number (zero_filled count (hexadecimal number))
hexadecimal_is_numeral count number some few below =
    let power : 16 ^ count ≤ 16 ^ 16 = pow-le-pow_right {n = 16} (omega arith) few in
    let fits : number < 2 ^ 64 = omega (arith, below, power) in
    let writes = writes-hexadecimal number fits in
    let zeros = count - length (hexadecimal number) in
    let short = writes.short count some below in
    let whole = length-append (replicate zeros 48) (hexadecimal number) in
    let of_zeros : length {A = ℕ} (replicate zeros 48) ≡ zeros = length-replicate zeros 48 in
    record {
      hexadecimal = All-append IsHexDigit (replicate zeros 48) (hexadecimal number) (All-replicate IsHexDigit zeros 48 (inl (omega arith, omega arith))) writes.hexadecimal;
      value = number_behind_zeros zeros (hexadecimal number) ∙ writes.value;
      count_is = omega (arith, short, whole, of_zeros);
    }
