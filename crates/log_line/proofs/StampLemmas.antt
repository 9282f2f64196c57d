-- A stamp is split in one way.
use Rattle.std.proofs.Common.{◌≡◌, ℕ, ◌-◌, ◌^◌, ◌<◌, ◌≤◌, List, [], ◌∷◌, ◌++◌, Some, length, refl, sym, ap, subst, ◌∙◌, arith, append_assoc}
use Rattle.std.specs.Prelude.{All, codes}
use Rattle.std.proofs.Math.Nat.{pow-le-pow_right}
use Rattle.std.proofs.lemmas.List.{append_cancel_right}
use Rattle.text_parts.specs.Number.{IsDigit, number_in, number_up_to}
use Rattle.text_parts.proofs.NumberLemmas.{number_up_to-some, number_up_to-is, number_in-lt, decimal_below}
use Rattle.log_line.specs.Reading.{IsStamp}
use Rattle.log_line.proofs.SplitLemmas.{Without, separator_inside, one_split}

-- digits have no dot
digits_without_dot : (digits : List ℕ) → All IsDigit digits → Without 46 digits
digits_without_dot digits all k d within same = let is = all k d within in omega (arith, is, same)

-- so many digits stand for less than that power of ten
decimal_lt : (digits : List ℕ) (count : ℕ) → All IsDigit digits → length digits ≤ count → number_in 10 digits < 10 ^ count
decimal_lt digits count all short =
    let below = number_in-lt 10 digits (decimal_below digits all) in
    let power : 10 ^ length digits ≤ 10 ^ count = pow-le-pow_right {n = 10} (omega arith) short in
    omega (arith, below, power)

-- what stands between the parentheses of a stamp
pub inside_of : (field inside : List ℕ) (seconds micros : ℕ) → field ≡ codes "(" ++ (inside ++ codes ")") → (is : IsStamp field seconds micros)
    → inside ≡ is.whole ++ 46 ∷ is.fraction
inside_of field inside seconds micros found is =
    let both : 40 ∷ (inside ++ 41 ∷ []) ≡ 40 ∷ (((is.whole ++ 46 ∷ []) ++ is.fraction) ++ 41 ∷ []) = sym found ∙ is.spelled in
    let same : inside ++ 41 ∷ [] ≡ ((is.whole ++ 46 ∷ []) ++ is.fraction) ++ 41 ∷ [] = cc in
    append_cancel_right inside ((is.whole ++ 46 ∷ []) ++ is.fraction) (41 ∷ []) same ∙ append_assoc is.whole (46 ∷ []) is.fraction

-- without a dot between the parentheses it is none
pub no_dot : (field inside : List ℕ) (seconds micros : ℕ) → field ≡ codes "(" ++ (inside ++ codes ")") → Without 46 inside → IsStamp field seconds micros → ⊥
no_dot field inside seconds micros found none is =
    separator_inside 46 is.whole is.fraction (subst (Without 46) (inside_of field inside seconds micros found is) none)

-- the dot stands where it was found
pub same_parts : (field inside whole fraction : List ℕ) (seconds micros : ℕ) → field ≡ codes "(" ++ (inside ++ codes ")") → inside ≡ whole ++ 46 ∷ fraction → Without 46 whole
    → (is : IsStamp field seconds micros) → (whole ≡ is.whole) × (fraction ≡ is.fraction)
same_parts field inside whole fraction seconds micros found split first is =
    one_split 46 whole is.whole fraction is.fraction first (digits_without_dot is.whole is.whole_digits)
    (sym split ∙ inside_of field inside seconds micros found is)

-- the digits of a stamp are numbers
pub whole_number : (field : List ℕ) (seconds micros : ℕ) → (is : IsStamp field seconds micros) → number_up_to (2 ^ 64 - 1) is.whole ≡ Some seconds
whole_number field seconds micros is =
    let below = decimal_lt is.whole 15 is.whole_digits is.at_most_fifteen in
    let same = is.seconds_are in
    number_up_to-is (2 ^ 64 - 1) is.whole seconds (record { some = is.some; digits = is.whole_digits; is = same; within = omega (arith, below, same) })

-- and so are those of its fraction
pub fraction_number : (field : List ℕ) (seconds micros : ℕ) → (is : IsStamp field seconds micros) → number_up_to 999999 is.fraction ≡ Some micros
fraction_number field seconds micros is =
    let six = is.six in
    let below = decimal_lt is.fraction 6 is.fraction_digits (omega (arith, six)) in
    let same = is.micros_are in
    number_up_to-is 999999 is.fraction micros (record { some = omega (arith, six); digits = is.fraction_digits; is = same; within = omega (arith, below, same) })

-- a stamp with these parts
pub stamp_is : (field inside whole fraction : List ℕ) (seconds micros : ℕ) → field ≡ codes "(" ++ (inside ++ codes ")") → inside ≡ whole ++ 46 ∷ fraction
    → length whole ≤ 15 → length fraction ≡ 6 → number_up_to (2 ^ 64 - 1) whole ≡ Some seconds → number_up_to 999999 fraction ≡ Some micros
    → IsStamp field seconds micros
stamp_is field inside whole fraction seconds micros found split short six seconds_are micros_are =
    let first = number_up_to-some (2 ^ 64 - 1) whole seconds seconds_are in
    let second = number_up_to-some 999999 fraction micros micros_are in
    record {
      whole = whole;
      fraction = fraction;
      spelled = found ∙ ap (λ l. 40 ∷ (l ++ 41 ∷ [])) (split ∙ sym (append_assoc whole (46 ∷ []) fraction));
      whole_digits = first.digits;
      some = first.some;
      at_most_fifteen = short;
      fraction_digits = second.digits;
      six = six;
      seconds_are = first.is;
      micros_are = second.is;
    }

-- a field has at most one stamp
pub one_stamp : (field : List ℕ) (seconds micros s m : ℕ) → IsStamp field seconds micros → IsStamp field s m → (seconds ≡ s) × (micros ≡ m)
one_stamp field seconds micros s m is also =
    let inside = is.whole ++ 46 ∷ is.fraction in
    let found : field ≡ codes "(" ++ (inside ++ codes ")") = is.spelled ∙ ap (λ l. 40 ∷ (l ++ 41 ∷ [])) (append_assoc is.whole (46 ∷ []) is.fraction) in
    let same = same_parts field inside is.whole is.fraction s m found refl (digits_without_dot is.whole is.whole_digits) also in
    (is.seconds_are ∙ ap (number_in 10) same.0 ∙ sym also.seconds_are, is.micros_are ∙ ap (number_in 10) same.1 ∙ sym also.micros_are)
