-- The register of fifteen bits follows the long division.
use Rattle.std.proofs.Common.{◌≡◌, ◌⊎◌, inl, inr, ℕ, zero, suc, ◌+◌, ◌*◌, ◌/◌, ◌%◌, ◌^◌, ◌<◌, ◌≤◌, Bool, true, false, not, cond, eqb, List, [], ◌∷◌, ◌++◌, length, replicate, refl, sym, ap, subst, ◌∙◌, arith, length-append, append_assoc, bit_and}
use Rattle.std.specs.Int.Bits.{bit_xor}
use Rattle.std.proofs.Math.Bool.{beq}
use Rattle.std.proofs.lemmas.Nat.{and_mask, xor_comm, xor_lt}
use Rattle.std.proofs.lemmas.List.{append-nil}
use Rattle.std.proofs.lemmas.Nat.Bits.{bit_at_xor, bit_at-lt}
use Rattle.can_frame.specs.Frame.{field_bits, number_of}
use Rattle.can_frame.proofs.BitLists.{length-field_bits, number_of-field_bits, field_bits-suc, field_bits-zero, field_bits-snoc, field_bits-mod, field_bits-number_of}
use Rattle.frame_bits.specs.Length.{xor, bit_sum, generator, division_step, division_steps, crc_bits}
use Rattle.frame_bits.specs.Inside.Crc.{IsRegister}

from_beq : (a b : Bool) → beq a b ≡ true → a ≡ b
from_beq true true e = refl
from_beq false false e = refl
from_beq true false e = cc
from_beq false true e = cc

from_not_beq : (a b : Bool) → beq a b ≡ false → a ≡ not b
from_not_beq true true e = cc
from_not_beq false false e = cc
from_not_beq true false e = refl
from_not_beq false true e = refl

-- ---- adding coefficients
pub length-bit_sum : (cs bits : List Bool) → length cs ≤ length bits → length (bit_sum cs bits) ≡ length bits
length-bit_sum [] bits h = refl
length-bit_sum (c ∷ cs) [] h = absurd (omega (arith, h))
length-bit_sum (c ∷ cs) (b ∷ bits) h = ap suc (length-bit_sum cs bits (omega (arith, h)))

bit_sum-zeros : (k : ℕ) (bits : List Bool) → k ≤ length bits → bit_sum (replicate k false) bits ≡ bits
bit_sum-zeros zero bits h = refl
bit_sum-zeros (suc k) [] h = absurd (omega (arith, h))
bit_sum-zeros (suc k) (b ∷ bits) h = ap (λ c. b ∷ c) (bit_sum-zeros k bits (omega (arith, h)))

xor-false : (c : Bool) → xor c false ≡ c
xor-false true = refl
xor-false false = refl

bit_sum-onto_zeros : (cs : List Bool) → bit_sum cs (replicate (length cs) false) ≡ cs
bit_sum-onto_zeros [] = refl
bit_sum-onto_zeros (c ∷ cs) = ap (λ b. b ∷ bit_sum cs (replicate (length cs) false)) (xor-false c) ∙ ap (λ l. c ∷ l) (bit_sum-onto_zeros cs)

-- zeros behind the coefficients add nothing
pub bit_sum-zero_end : (k : ℕ) (cs bits : List Bool) → length cs + k ≤ length bits → bit_sum (cs ++ replicate k false) bits ≡ bit_sum cs bits
bit_sum-zero_end k [] bits h = bit_sum-zeros k bits (omega (arith, h))
bit_sum-zero_end k (c ∷ cs) [] h = absurd (omega (arith, h))
bit_sum-zero_end k (c ∷ cs) (b ∷ bits) h = ap (λ l. xor c b ∷ l) (bit_sum-zero_end k cs bits (omega (arith, h)))

xor-assoc : (x y z : Bool) → xor (xor x y) z ≡ xor x (xor y z)
xor-assoc false y z = refl
xor-assoc true false z = refl
xor-assoc true true true = refl
xor-assoc true true false = refl

-- to add a sum is to add both, one after the other
pub bit_sum-twice : (a b bits : List Bool) → length a ≤ length b → length b ≤ length bits → bit_sum (bit_sum a b) bits ≡ bit_sum a (bit_sum b bits)
bit_sum-twice [] b bits h k = refl
bit_sum-twice (x ∷ a) [] bits h k = absurd (omega (arith, h))
bit_sum-twice (x ∷ a) (y ∷ b) [] h k = absurd (omega (arith, k))
bit_sum-twice (x ∷ a) (y ∷ b) (z ∷ bits) h k =
    ap (λ c. c ∷ bit_sum (bit_sum a b) bits) (xor-assoc x y z)
    ∙ ap (λ l. xor x (xor y z) ∷ l) (bit_sum-twice a b bits (omega (arith, h)) (omega (arith, k)))

-- ---- fields added bit by bit
xor-of_bits : (x y : ℕ) → x < 2 → y < 2 → eqb ((x + y) % 2) 1 ≡ xor (eqb x 1) (eqb y 1)
xor-of_bits zero zero h k = refl
xor-of_bits zero (suc zero) h k = refl
xor-of_bits (suc zero) zero h k = refl
xor-of_bits (suc zero) (suc zero) h k = refl
xor-of_bits (suc (suc x)) y h k = absurd (omega (arith, h))
xor-of_bits zero (suc (suc y)) h k = absurd (omega (arith, k))
xor-of_bits (suc zero) (suc (suc y)) h k = absurd (omega (arith, k))

-- the field of two numbers' exclusive or is the sum of their fields
pub field_bits-xor : (k a b : ℕ) → field_bits k (bit_xor a b) ≡ bit_sum (field_bits k a) (field_bits k b)
field_bits-xor zero a b = rw (field_bits-zero (bit_xor a b), field_bits-zero a, field_bits-zero b) refl
field_bits-xor (suc k) a b =
    rw (field_bits-suc k (bit_xor a b), field_bits-suc k a, field_bits-suc k b, bit_at_xor a b k)
    (ap (λ x. x ∷ field_bits k (bit_xor a b)) (xor-of_bits (a / 2 ^ k % 2) (b / 2 ^ k % 2) (bit_at-lt a k) (bit_at-lt b k))
    ∙ ap (λ l. xor (eqb (a / 2 ^ k % 2) 1) (eqb (b / 2 ^ k % 2) 1) ∷ l) (field_bits-xor k a b))

generator_field : generator ≡ field_bits 15 0x4599
unfolding generator field_bits
generator_field = refl

length-generator : length generator ≡ 15
unfolding generator
length-generator = refl

zero_field : field_bits 15 0 ≡ replicate 15 false
unfolding field_bits
zero_field = refl

-- ---- a step of the register
-- the register without its leading bit, moved up by one place
moved : (r : ℕ) → field_bits 15 (r % 2 ^ 14 * 2) ≡ field_bits 14 r ++ false ∷ []
moved r =
    let half : r % 2 ^ 14 * 2 / 2 ≡ r % 2 ^ 14 = omega arith in
    let last : r % 2 ^ 14 * 2 % 2 ≡ 0 = omega arith in
    field_bits-snoc 14 (r % 2 ^ 14 * 2)
    ∙ ap (λ m. field_bits 14 m ++ eqb (r % 2 ^ 14 * 2 % 2) 1 ∷ []) half
    ∙ ap (λ m. field_bits 14 (r % 2 ^ 14) ++ eqb m 1 ∷ []) last
    ∙ ap (λ l. l ++ false ∷ []) (field_bits-mod 14 14 r (omega arith))

-- what follows the register gets its bits without the leading one
moved_bit_sum : (r : ℕ) (more : List Bool) → 15 ≤ length more → bit_sum (field_bits 14 r) more ≡ bit_sum (field_bits 15 (r % 2 ^ 14 * 2)) more
moved_bit_sum r more h =
    sym (bit_sum-zero_end 1 (field_bits 14 r) more (omega (arith, length-field_bits 14 r, h)))
    ∙ ap (λ l. bit_sum l more) (sym (moved r))

xor-same : (b : Bool) → xor b b ≡ false
xor-same true = refl
xor-same false = refl

xor-not : (b : Bool) → xor (not b) b ≡ true
xor-not true = refl
xor-not false = refl

-- the leading bit struck where it is 0
pub division_step_zero : (r : ℕ) (bit : Bool) (more : List Bool) → 15 ≤ length more → eqb (r / 2 ^ 14 % 2) 1 ≡ bit → division_step (bit_sum (field_bits 15 r) (bit ∷ more)) ≡ bit_sum (field_bits 15 (r % 2 ^ 14 * 2)) more
division_step_zero r bit more h e =
    let rest : List Bool = bit_sum (field_bits 14 r) more in
    ap (λ l. division_step (bit_sum l (bit ∷ more))) (field_bits-suc 14 r)
    ∙ ap (λ t. division_step (xor t bit ∷ rest)) e
    ∙ ap (λ t. division_step (t ∷ rest)) (xor-same bit)
    ∙ moved_bit_sum r more h

-- and where it is 1
pub division_step_one : (r : ℕ) (bit : Bool) (more : List Bool) → 15 ≤ length more → eqb (r / 2 ^ 14 % 2) 1 ≡ not bit → division_step (bit_sum (field_bits 15 r) (bit ∷ more)) ≡ bit_sum (field_bits 15 (bit_xor (r % 2 ^ 14 * 2) 0x4599)) more
division_step_one r bit more h e =
    let rest : List Bool = bit_sum (field_bits 14 r) more in
    let m : ℕ = r % 2 ^ 14 * 2 in
    ap (λ l. division_step (bit_sum l (bit ∷ more))) (field_bits-suc 14 r)
    ∙ ap (λ t. division_step (xor t bit ∷ rest)) e
    ∙ ap (λ t. division_step (t ∷ rest)) (xor-not bit)
    ∙ ap (bit_sum generator) (moved_bit_sum r more h)
    ∙ sym (bit_sum-twice generator (field_bits 15 m) more (omega (arith, length-field_bits 15 m, length-generator)) (omega (arith, length-field_bits 15 m, h)))
    ∙ ap (λ g. bit_sum (bit_sum g (field_bits 15 m)) more) generator_field
    ∙ ap (λ l. bit_sum l more) (sym (field_bits-xor 15 0x4599 m))
    ∙ ap (λ x. bit_sum (field_bits 15 x) more) (xor_comm 0x4599 m)

-- what the code computes of the register
pub shifted_is : (r : ℕ) → bit_and r 16383 * 2 % 65536 ≡ r % 2 ^ 14 * 2
shifted_is r = omega (arith, and_mask r 14)

-- the register stays below two to the fifteenth
pub next-lt : (r : ℕ) → bit_xor (r % 2 ^ 14 * 2) 0x4599 < 2 ^ 15
next-lt r = xor_lt 15 (r % 2 ^ 14 * 2) 0x4599 (omega arith) (omega arith)

leading_is : (r : ℕ) → r < 2 ^ 15 → r / 2 ^ 14 % 2 ≡ r / 2 ^ 14
leading_is r h = omega arith

-- the leading bit that the code compares, where it equals the next bit
pub leads_same : (r : ℕ) (bit : Bool) → r < 2 ^ 15 → beq (eqb (r / 16384) 1) bit ≡ true → eqb (r / 2 ^ 14 % 2) 1 ≡ bit
leads_same r bit h e = ap (λ x. eqb x 1) (leading_is r h) ∙ from_beq (eqb (r / 16384) 1) bit e

-- and where it does not
pub leads_other : (r : ℕ) (bit : Bool) → r < 2 ^ 15 → beq (eqb (r / 16384) 1) bit ≡ false → eqb (r / 2 ^ 14 % 2) 1 ≡ not bit
leads_other r bit h e = ap (λ x. eqb x 1) (leading_is r h) ∙ from_not_beq (eqb (r / 16384) 1) bit e

-- ---- the relation between the register and the bits so far
-- before the first bit the register is 0
pub IsRegister-none : IsRegister 0 []
IsRegister-none more h = sym (ap (λ l. bit_sum l more) zero_field ∙ bit_sum-zeros 15 more h)

-- a step of the register is a step of the division
pub IsRegister-push : (r next : ℕ) (bit : Bool) (bits : List Bool) → ((more : List Bool) → 15 ≤ length more → division_step (bit_sum (field_bits 15 r) (bit ∷ more)) ≡ bit_sum (field_bits 15 next) more) → IsRegister r bits → IsRegister next (bits ++ bit ∷ [])
IsRegister-push r next bit bits step old more h =
    let longer : length (bits ++ bit ∷ []) ≡ suc (length bits) = omega (arith, length-append bits (bit ∷ [])) in
    ap (λ n. division_steps n ((bits ++ bit ∷ []) ++ more)) longer
    ∙ ap (λ l. division_step (division_steps (length bits) l)) (append_assoc bits (bit ∷ []) more)
    ∙ ap division_step (old (bit ∷ more) (omega (arith, h)))
    ∙ step more h

-- ---- the register behind several bits
-- the register behind one more bit
abbrev register_next : ℕ → Bool → ℕ
register_next r bit = cond (beq (eqb (r / 16384) 1) bit) (r % 2 ^ 14 * 2) (bit_xor (r % 2 ^ 14 * 2) 0x4599)

-- the register behind these bits
abbrev pub register_after : ℕ → List Bool → ℕ
register_after r [] = r
register_after r (b ∷ bits) = register_after (register_next r b) bits

either : (t : Bool) → (t ≡ true) ⊎ (t ≡ false)
either true = inl refl
either false = inr refl

IsRegister-next : (r : ℕ) (bit : Bool) (bits : List Bool) → r < 2 ^ 15 → IsRegister r bits → (register_next r bit < 2 ^ 15) × IsRegister (register_next r bit) (bits ++ bit ∷ [])
IsRegister-next r bit bits h now =
    let m : ℕ = r % 2 ^ 14 * 2 in
    let Fits : ℕ → Type 0 = λ next. (next < 2 ^ 15) × IsRegister next (bits ++ bit ∷ []) in
    elim (either (beq (eqb (r / 16384) 1) bit)) [
      | inl same ↦
          subst Fits (ap (λ t. cond t m (bit_xor m 0x4599)) (sym same))
          (omega arith, IsRegister-push r m bit bits (λ more k. division_step_zero r bit more k (leads_same r bit h same)) now)
      | inr other ↦
          subst Fits (ap (λ t. cond t m (bit_xor m 0x4599)) (sym other))
          (next-lt r, IsRegister-push r (bit_xor m 0x4599) bit bits (λ more k. division_step_one r bit more k (leads_other r bit h other)) now)
    ]

-- it holds what the division of all bits adds
pub IsRegister-after : (r : ℕ) (more bits : List Bool) → r < 2 ^ 15 → IsRegister r bits → (register_after r more < 2 ^ 15) × IsRegister (register_after r more) (bits ++ more)
IsRegister-after r [] bits h now = (h, subst (IsRegister r) (sym (append-nil bits)) now)
IsRegister-after r (b ∷ more) bits h now =
    let next : ℕ = register_next r b in
    let one = IsRegister-next r b bits h now in
    let all = IsRegister-after next more (bits ++ b ∷ []) one.0 one.1 in
    (all.0, subst (IsRegister (register_after next more)) (append_assoc bits (b ∷ []) more) all.1)

-- what the register holds at the end is the CRC
pub IsRegister-crc : (r : ℕ) (bits : List Bool) → IsRegister r bits → crc_bits bits ≡ field_bits 15 r
unfolding crc_bits
IsRegister-crc r bits now =
    now (replicate 15 false) (omega arith)
    ∙ ap (λ n. bit_sum (field_bits 15 r) (replicate n false)) (sym (length-field_bits 15 r))
    ∙ bit_sum-onto_zeros (field_bits 15 r)

-- and its number is that of the CRC
pub IsRegister-value : (r : ℕ) (bits : List Bool) → r < 2 ^ 15 → IsRegister r bits → r ≡ number_of (crc_bits bits)
IsRegister-value r bits h now =
    let whole : r ≡ r % 2 ^ 15 = omega arith in
    whole ∙ sym (ap number_of (IsRegister-crc r bits now) ∙ number_of-field_bits 15 r)

-- the remainder has fifteen bits
length-division_step : (bits : List Bool) → 16 ≤ length bits → suc (length (division_step bits)) ≡ length bits
length-division_step [] h = absurd (omega (arith, h))
length-division_step (false ∷ bits) h = refl
length-division_step (true ∷ bits) h = ap suc (length-bit_sum generator bits (omega (arith, length-generator, h)))

length-division_steps : (n : ℕ) (bits : List Bool) → n + 15 ≤ length bits → length (division_steps n bits) + n ≡ length bits
length-division_steps zero bits h = omega arith
length-division_steps (suc n) bits h =
    omega (arith, length-division_steps n bits (omega (arith, h)), length-division_step (division_steps n bits) (omega (arith, h, length-division_steps n bits (omega (arith, h)))))

-- the CRC has fifteen bits
pub length-crc_bits : (bits : List Bool) → length (crc_bits bits) ≡ 15
unfolding crc_bits
length-crc_bits bits =
    let sum : length (bits ++ replicate 15 false) ≡ length bits + 15 = length-append bits (replicate 15 false) in
    omega (arith, sum, length-division_steps (length bits) (bits ++ replicate 15 false) (omega (arith, sum)))

-- and is the field of the number that it spells
pub crc_field : (bits : List Bool) → field_bits 15 (number_of (crc_bits bits)) ≡ crc_bits bits
crc_field bits =
    ap (λ n. field_bits n (number_of (crc_bits bits))) (sym (length-crc_bits bits)) ∙ field_bits-number_of (crc_bits bits)
