-- Lists of bits and the numbers that they spell.
use Rattle.std.proofs.Common.{◌≡◌, ℕ, zero, suc, ◌+◌, ◌-◌, ◌*◌, ◌/◌, ◌%◌, ◌^◌, ◌<◌, ◌≤◌, Bool, true, false, eqb, cond, List, [], ◌∷◌, ◌++◌, length, replicate, refl, sym, ap, subst, ◌∙◌, arith, length-append}
use Rattle.std.proofs.Math.Nat.{pow-suc}
use Rattle.std.proofs.Math.Numerals.{one-add}
use Rattle.std.proofs.lemmas.Nat.Bits.{bit_at_lowest, bit_at-suc, bit_at_cat_low}
use Rattle.std.proofs.lemmas.Nat.{shr_split, shr_high, mod_low, mod-pow-add, pow-add}
use Rattle.std.proofs.lemmas.Bool.Decides.{nat_tests}
use Rattle.std.proofs.Math.ListN.{length-replicate}
use Rattle.can_frame.specs.Frame.{field_bits, number_of, filled}

-- a field has as many bits as it says
pub length-field_bits : (k n : ℕ) → length (field_bits k n) ≡ k
unfolding field_bits
length-field_bits zero n = refl
length-field_bits (suc k) n = ap suc (length-field_bits k n)

-- a bit put before others adds its power of two
pub number_of-cons : (x : Bool) (bits : List Bool) → number_of (x ∷ bits) ≡ cond x (2 ^ length bits) 0 + number_of bits
unfolding number_of
number_of-cons x bits = refl

-- no bits spell 0
pub number_of-nil : number_of [] ≡ 0
unfolding number_of
number_of-nil = refl

-- a leading 1 adds its power of two
pub number_of-one : (bits : List Bool) → number_of (true ∷ bits) ≡ 2 ^ length bits + number_of bits
unfolding number_of
number_of-one bits = refl

-- a leading 0 adds nothing
pub number_of-zero : (bits : List Bool) → number_of (false ∷ bits) ≡ number_of bits
unfolding number_of
number_of-zero bits = omega arith

weight-append : (x : Bool) (m n : ℕ) → cond x (2 ^ (m + n)) 0 ≡ cond x (2 ^ m) 0 * 2 ^ n
weight-append true m n = pow-add 2 m n
weight-append false m n = omega arith

-- bits behind others push these up by as many places
pub number_of-append : (a b : List Bool) → number_of (a ++ b) ≡ number_of a * 2 ^ length b + number_of b
number_of-append [] b = rw number_of-nil (omega arith)
number_of-append (x ∷ a) b =
    rw (number_of-cons x (a ++ b), number_of-cons x a, length-append a b, weight-append x (length a) (length b), number_of-append a b)
    (omega arith)

-- the weight of a bit of the number, at a place
weight_of_bit : (m p : ℕ) → cond (eqb (m % 2) 1) p 0 ≡ (m % 2) * p
weight_of_bit m p = grind (arith, nat_tests)

-- a field spells the low bits of its number
pub number_of-field_bits : (k n : ℕ) → number_of (field_bits k n) ≡ n % 2 ^ k
unfolding field_bits
number_of-field_bits zero n = rw number_of-nil (omega arith)
number_of-field_bits (suc k) n =
    rw (number_of-cons, length-field_bits k n, number_of-field_bits k n, weight_of_bit (n / 2 ^ k) (2 ^ k))
    (sym (subst (λ m. n % 2 ^ m ≡ n / 2 ^ k % 2 * 2 ^ k + n % 2 ^ k) (one-add k) (mod-pow-add n 1 k)))

-- zeros spell 0
pub number_of-replicate : (k : ℕ) → number_of (replicate k false) ≡ 0
number_of-replicate zero = number_of-nil
number_of-replicate (suc k) = rw (number_of-cons, number_of-replicate k) refl

-- what bits spell is below two to the power of their number
pub number_of-lt : (bits : List Bool) → number_of bits < 2 ^ length bits
number_of-lt [] = rw number_of-nil (omega arith)
number_of-lt (true ∷ bits) = rw (number_of-one, pow-suc) (omega (arith, number_of-lt bits))
number_of-lt (false ∷ bits) = rw (number_of-zero, pow-suc) (omega (arith, number_of-lt bits))

-- a field of at most 32 bits is filled to 32
pub length-filled : (bits : List Bool) → length bits ≤ 32 → length (filled bits) ≡ 32
length-filled bits h = grind (arith, length-append {A = Bool}, length-replicate {A = Bool})

-- to fill a field pushes its number up to the top of 32 bits
pub number_of-filled : (bits : List Bool) (n : ℕ) → length bits ≡ n → number_of (filled bits) ≡ number_of bits * 2 ^ (32 - n)
number_of-filled bits n e =
    rw (number_of-append bits, length-replicate, number_of-replicate, e) (omega arith)

-- ---- fields cut into their bits
pub field_bits-suc : (k n : ℕ) → field_bits (suc k) n ≡ eqb (n / 2 ^ k % 2) 1 ∷ field_bits k n
unfolding field_bits
field_bits-suc k n = refl

-- a field of no bits is empty
pub field_bits-zero : (n : ℕ) → field_bits 0 n ≡ []
unfolding field_bits
field_bits-zero n = refl

-- the last bit of a field is the lowest bit of its number
pub field_bits-snoc : (k n : ℕ) → field_bits (suc k) n ≡ field_bits k (n / 2) ++ eqb (n % 2) 1 ∷ []
field_bits-snoc zero n =
    rw (field_bits-suc 0 n, field_bits-zero n, field_bits-zero (n / 2)) (ap (λ m. eqb m 1 ∷ []) (bit_at_lowest n))
field_bits-snoc (suc k) n =
    rw (field_bits-suc (suc k) n, field_bits-snoc k n, field_bits-suc k (n / 2))
    (ap (λ m. eqb m 1 ∷ (field_bits k (n / 2) ++ eqb (n % 2) 1 ∷ [])) (bit_at-suc n k))

-- a field holds the low bits of a number
low_bit : (n m k : ℕ) → k < m → n % 2 ^ m / 2 ^ k % 2 ≡ n / 2 ^ k % 2
low_bit n m k h =
    sym (bit_at_cat_low (n / 2 ^ m) m (n % 2 ^ m) k h) ∙ ap (λ x. x / 2 ^ k % 2) (shr_split n m)

-- bits of the number above the field change nothing
pub field_bits-mod : (k m n : ℕ) → k ≤ m → field_bits k (n % 2 ^ m) ≡ field_bits k n
field_bits-mod zero m n h = field_bits-zero (n % 2 ^ m) ∙ sym (field_bits-zero n)
field_bits-mod (suc k) m n h =
    field_bits-suc k (n % 2 ^ m)
    ∙ ap (λ x. eqb x 1 ∷ field_bits k (n % 2 ^ m)) (low_bit n m k (omega (arith, h)))
    ∙ ap (λ bits. eqb (n / 2 ^ k % 2) 1 ∷ bits) (field_bits-mod k m n (omega (arith, h)))
    ∙ sym (field_bits-suc k n)

-- a list of bits is the field of the number that it spells
field_of_number : (bit : Bool) (k high low : ℕ) → low < 2 ^ k → eqb (high % 2) 1 ≡ bit → field_bits (suc k) (high * 2 ^ k + low) ≡ bit ∷ field_bits k low
field_of_number bit k high low h e =
    field_bits-suc k (high * 2 ^ k + low)
    ∙ ap (λ x. eqb (x % 2) 1 ∷ field_bits k (high * 2 ^ k + low)) (shr_high high k low h)
    ∙ ap (λ x. x ∷ field_bits k (high * 2 ^ k + low)) e
    ∙ ap (λ bits. bit ∷ bits) (sym (field_bits-mod k k (high * 2 ^ k + low) (omega arith)) ∙ ap (field_bits k) (mod_low high k low h))

-- bits are the field of the number that they spell
pub field_bits-number_of : (bits : List Bool) → field_bits (length bits) (number_of bits) ≡ bits
field_bits-number_of [] = field_bits-zero _
field_bits-number_of (true ∷ bits) =
    ap (field_bits (suc (length bits))) (number_of-one bits ∙ omega arith)
    ∙ field_of_number true (length bits) 1 (number_of bits) (number_of-lt bits) refl
    ∙ ap (λ c. true ∷ c) (field_bits-number_of bits)
field_bits-number_of (false ∷ bits) =
    ap (field_bits (suc (length bits))) (number_of-zero bits ∙ omega arith)
    ∙ field_of_number false (length bits) 0 (number_of bits) (number_of-lt bits) refl
    ∙ ap (λ c. false ∷ c) (field_bits-number_of bits)

-- a field of one bit
pub field_bits-single : (b : Bool) (n : ℕ) → eqb (n % 2) 1 ≡ b → field_bits 1 n ≡ b ∷ []
field_bits-single b n e =
    field_bits-suc 0 n ∙ ap (λ bits. eqb (n / 2 ^ 0 % 2) 1 ∷ bits) (field_bits-zero n) ∙ ap (λ m. eqb m 1 ∷ []) (bit_at_lowest n) ∙ ap (λ x. x ∷ []) e
