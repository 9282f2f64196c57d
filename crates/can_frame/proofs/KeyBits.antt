-- What the code of the arbitration key computes.
use Rattle.std.proofs.Common.{◌≡◌, ℕ, ◌+◌, ◌*◌, ◌/◌, ◌%◌, ◌^◌, ◌≤◌, Bool, true, false, [], ◌∷◌, refl, sym, ap, ◌∙◌, arith, bit_or, bit_and}
use Rattle.std.proofs.lemmas.Nat.{or_shifted, and_mask}
use mir.Val.{bool_byte}
use Rattle.can_frame.specs.declared.Ident.TheVariants.{Std, Ext}
use Rattle.can_frame.specs.Frame.{number_of, FrameFields, IsIdent, filled, arbitration_bits, arbitration_key}
use Rattle.can_frame.proofs.BitLists.{length-field_bits, number_of-append, number_of-field_bits, number_of-filled, number_of-one, number_of-zero, number_of-nil}
use Rattle.can_frame.proofs.Fields.{length-arbitration_std, length-arbitration_ext}

-- the last bits of either field
number_of_last : (remote : Bool) → number_of (remote ∷ []) ≡ bool_byte remote
number_of_last true = rw (number_of-one, number_of-nil) refl
number_of_last false = rw (number_of-zero, number_of-nil) refl

number_of_last_two : (remote : Bool) → number_of (remote ∷ false ∷ []) ≡ bool_byte remote * 2
number_of_last_two true = rw (number_of-one, number_of-zero, number_of-nil) refl
number_of_last_two false = rw (number_of-zero, number_of-zero, number_of-nil) refl

bool_byte-le : (remote : Bool) → bool_byte remote ≤ 1
bool_byte-le true = omega arith
bool_byte-le false = omega arith

number_of-std : (n : ℕ) (remote : Bool) → n ≤ 0x7FF → number_of (filled (arbitration_bits (Std n) remote)) ≡ n * 2097152 + bool_byte remote * 1048576
number_of-std n remote h =
    rw (number_of-filled _ 13 (length-arbitration_std n remote), number_of-append, number_of-field_bits, number_of_last_two)
    (omega arith)

number_of-ext : (n : ℕ) (remote : Bool) → n ≤ 0x1FFFFFFF → number_of (filled (arbitration_bits (Ext n) remote)) ≡ n / 262144 * 2097152 + 1572864 + n % 262144 * 2 + bool_byte remote
number_of-ext n remote h =
    rw (number_of-filled _ 32 (length-arbitration_ext n remote), number_of-append, number_of-append, number_of-field_bits 11 (n / 2 ^ 18), number_of-one, number_of-one, number_of-field_bits 18 n, length-field_bits 18 n, number_of_last)
    (omega arith)

key_std : (n r : ℕ) → n ≤ 0x7FF → r ≤ 1 → bit_or (n * 2097152 % 4294967296) (r * 1048576 % 4294967296) ≡ n * 2097152 + r * 1048576
key_std n r h b =
    let whole : n * 2097152 % 4294967296 ≡ n * 2 ^ 21 = omega arith in
    let low : r * 1048576 % 4294967296 ≡ r * 1048576 = omega arith in
    rw (whole, low) (or_shifted n 21 (r * 1048576) (omega arith))

key_ext : (n r : ℕ) → n ≤ 0x1FFFFFFF → r ≤ 1 → bit_or (bit_or (bit_or (n / 262144 * 2097152 % 4294967296) 1572864) (bit_and n 262143 * 2 % 4294967296)) r ≡ n / 262144 * 2097152 + 1572864 + n % 262144 * 2 + r
key_ext n r h b =
    let whole : n / 262144 * 2097152 % 4294967296 ≡ n / 262144 * 2 ^ 21 = omega arith in
    let marks : n / 262144 * 2 ^ 21 + 1572864 ≡ (n / 262144 * 4 + 3) * 2 ^ 19 = omega arith in
    let further : bit_and n 262143 * 2 % 4294967296 ≡ n % 262144 * 2 = omega (arith, and_mask n 18) in
    let shifted : (n / 262144 * 4 + 3) * 2 ^ 19 + n % 262144 * 2 ≡ ((n / 262144 * 4 + 3) * 2 ^ 18 + n % 262144) * 2 ^ 1 = omega arith in
    rw (whole, or_shifted (n / 262144) 21 1572864 (omega arith), marks, further, or_shifted (n / 262144 * 4 + 3) 19 (n % 262144 * 2) (omega arith), shifted, or_shifted ((n / 262144 * 4 + 3) * 2 ^ 18 + n % 262144) 1 r (omega arith))
    (omega arith)

-- the arbitration key of a frame whose identifier is standard, as the code computes it
pub std_key_is : (f : FrameFields) (n k r : ℕ) → IsIdent f.ident → f.ident ≡ Std n → k ≡ n → r ≡ bool_byte f.remote → bit_or (k * 2097152 % 4294967296) (r * 1048576 % 4294967296) ≡ arbitration_key f
unfolding arbitration_key
std_key_is f n k r fits is same remote =
    let range : n ≤ 0x7FF = rw is at fits in
    rw (same, remote, key_std n (bool_byte f.remote) range (bool_byte-le f.remote))
    (sym (ap (λ i. number_of (filled (arbitration_bits i f.remote))) is ∙ number_of-std n f.remote range))

-- and of one whose identifier is extended
pub ext_key_is : (f : FrameFields) (n r : ℕ) → IsIdent f.ident → f.ident ≡ Ext n → r ≡ bool_byte f.remote → bit_or (bit_or (bit_or (n / 262144 * 2097152 % 4294967296) 1572864) (bit_and n 262143 * 2 % 4294967296)) r ≡ arbitration_key f
unfolding arbitration_key
ext_key_is f n r fits is remote =
    let range : n ≤ 0x1FFFFFFF = rw is at fits in
    rw (remote, key_ext n (bool_byte f.remote) range (bool_byte-le f.remote))
    (sym (ap (λ i. number_of (filled (arbitration_bits i f.remote))) is ∙ number_of-ext n f.remote range))
