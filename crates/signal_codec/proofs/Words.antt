-- The bits of a payload as bits of a word.
use Rattle.std.proofs.Common.{◌≡◌, ℕ, zero, suc, ◌+◌, ◌-◌, ◌*◌, ◌/◌, ◌%◌, ◌^◌, ◌<◌, Bool, true, false, cond, List, length, get_or, arith, ap, sym, ◌∙◌, refl, ⊎_elim, subst}
use Rattle.std.specs.Prelude.{slice_index}
use Rattle.std.specs.Int.{bit_at, from_be_bytes, from_le_bytes, to_be_bytes, to_le_bytes, w64}
use Rattle.std.proofs.lemmas.Nat.{shr-shr, shr_split, le_bytes_8, be_bytes_8, mod_below, pow_pos}
use Rattle.std.proofs.lemmas.List.{get_or_past}
use Rattle.std.proofs.lemmas.Bool.{cases_lt}
use Rattle.std.proofs.lemmas.Nat.Bits.{bit_at_cat_low}
use Rattle.std.proofs.Math.Nat.{div-one}
use Rattle.signal_codec.specs.Place.{big_endian_place, bytes_of, place_of, word_of}
use Rattle.signal_codec.specs.Signal.{payload_bit}
use Rattle.signal_codec.specs.declared.layout.Layout.{Layout}

byte_of_le : (w i : ℕ) → i < 8 → slice_index (to_le_bytes w64 w) i ≡ w / 2 ^ (8 * i) % 2 ^ 8
byte_of_le w zero h = ap (λ x. x % 2 ^ 8) (sym (div-one w))
byte_of_le w (suc zero) h = refl
byte_of_le w (suc (suc zero)) h = refl
byte_of_le w (suc (suc (suc zero))) h = refl
byte_of_le w (suc (suc (suc (suc zero)))) h = refl
byte_of_le w (suc (suc (suc (suc (suc zero))))) h = refl
byte_of_le w (suc (suc (suc (suc (suc (suc zero)))))) h = refl
byte_of_le w (suc (suc (suc (suc (suc (suc (suc zero))))))) h = refl
byte_of_le w (suc (suc (suc (suc (suc (suc (suc (suc i)))))))) h = absurd (omega arith)

byte_of_be : (w i : ℕ) → i < 8 → slice_index (to_be_bytes w64 w) i ≡ w / 2 ^ (8 * (7 - i)) % 2 ^ 8
byte_of_be w zero h = refl
byte_of_be w (suc zero) h = refl
byte_of_be w (suc (suc zero)) h = refl
byte_of_be w (suc (suc (suc zero))) h = refl
byte_of_be w (suc (suc (suc (suc zero)))) h = refl
byte_of_be w (suc (suc (suc (suc (suc zero))))) h = refl
byte_of_be w (suc (suc (suc (suc (suc (suc zero)))))) h = refl
byte_of_be w (suc (suc (suc (suc (suc (suc (suc zero))))))) h = ap (λ x. x % 2 ^ 8) (sym (div-one w))
byte_of_be w (suc (suc (suc (suc (suc (suc (suc (suc i)))))))) h = absurd (omega arith)

-- bit b of a byte of a word
bit_of_byte : (w i b : ℕ) → b < 8 → bit_at (w / 2 ^ i % 2 ^ 8) b ≡ bit_at w (i + b)
bit_of_byte w i b h =
    let x = w / 2 ^ i in
    sym (bit_at_cat_low (x / 2 ^ 8) 8 (x % 2 ^ 8) b h) ∙ ap (λ y. bit_at y b) (shr_split x 8) ∙ ap (λ y. y % 2) (shr-shr w i b)

-- a bit of the bytes of a word in little-endian order
pub payload_bit-le : (w n : ℕ) → n < 64 → payload_bit (to_le_bytes w64 w) n ≡ bit_at w n
payload_bit-le w n h =
    let place : 8 * (n / 8) + n % 8 ≡ n = omega arith in
    ap (λ x. bit_at x (n % 8)) (byte_of_le w (n / 8) (omega arith)) ∙ bit_of_byte w (8 * (n / 8)) (n % 8) (omega arith) ∙ ap (bit_at w) place

-- a bit of the bytes of a word in big-endian order
pub payload_bit-be : (w n : ℕ) → n < 64 → payload_bit (to_be_bytes w64 w) n ≡ bit_at w (big_endian_place n)
payload_bit-be w n h =
    ap (λ x. bit_at x (n % 8)) (byte_of_be w (n / 8) (omega arith)) ∙ bit_of_byte w (8 * (7 - n / 8)) (n % 8) (omega arith)

bit_of_bytes : (big : Bool) (w n : ℕ) → n < 64 → payload_bit (cond big (to_be_bytes w64 w) (to_le_bytes w64 w)) n ≡ bit_at w (cond big (big_endian_place n) n)
bit_of_bytes true w n h = payload_bit-be w n h
bit_of_bytes false w n h = payload_bit-le w n h

-- a bit of the bytes of a word
pub payload_bit-bytes_of : (l : Layout) (w n : ℕ) → n < 64 → payload_bit (bytes_of l w) n ≡ bit_at w (place_of l n)
payload_bit-bytes_of l w n h = bit_of_bytes l.big w n h

bytes_again : (big : Bool) (payload : List ℕ) → length payload ≡ 8 → ((i : ℕ) → get_or payload i 0 < 256)
    → cond big (to_be_bytes w64 (cond big (from_be_bytes w64 payload) (from_le_bytes w64 payload))) (to_le_bytes w64 (cond big (from_be_bytes w64 payload) (from_le_bytes w64 payload))) ≡ payload
bytes_again true payload e bytes = be_bytes_8 payload (from_be_bytes w64 payload) e bytes refl
bytes_again false payload e bytes = le_bytes_8 payload (from_le_bytes w64 payload) e bytes refl

-- a bit of a payload of 8 bytes
pub payload_bit-is : (l : Layout) (payload : List ℕ) (n : ℕ) → length payload ≡ 8 → ((i : ℕ) → get_or payload i 0 < 256) → n < 64 → payload_bit payload n ≡ bit_at (word_of l payload) (place_of l n)
payload_bit-is l payload n e bytes h = ap (λ p. payload_bit p n) (sym (bytes_again l.big payload e bytes)) ∙ payload_bit-bytes_of l (word_of l payload) n h

byte_of_le-lt : (w i : ℕ) → get_or (to_le_bytes w64 w) i 0 < 256
byte_of_le-lt w i = ⊎_elim
    (λ h. subst (λ n. n < 256) (sym (byte_of_le w i h)) (mod_below (w / 2 ^ (8 * i)) (2 ^ 8) (pow_pos 8)))
    (λ h. subst (λ n. n < 256) (sym (get_or_past (to_le_bytes w64 w) i 0 h)) (omega arith))
    (cases_lt i 8)

byte_of_be-lt : (w i : ℕ) → get_or (to_be_bytes w64 w) i 0 < 256
byte_of_be-lt w i = ⊎_elim
    (λ h. subst (λ n. n < 256) (sym (byte_of_be w i h)) (mod_below (w / 2 ^ (8 * (7 - i))) (2 ^ 8) (pow_pos 8)))
    (λ h. subst (λ n. n < 256) (sym (get_or_past (to_be_bytes w64 w) i 0 h)) (omega arith))
    (cases_lt i 8)

bytes_are : (big : Bool) (w : ℕ) → (length (cond big (to_be_bytes w64 w) (to_le_bytes w64 w)) ≡ 8) × ((i : ℕ) → get_or (cond big (to_be_bytes w64 w) (to_le_bytes w64 w)) i 0 < 256)
bytes_are true w = (refl, byte_of_be-lt w)
bytes_are false w = (refl, byte_of_le-lt w)

-- a word has 8 bytes
pub bytes_of-payload : (l : Layout) (w : ℕ) → (length (bytes_of l w) ≡ 8) × ((i : ℕ) → get_or (bytes_of l w) i 0 < 256)
bytes_of-payload l w = bytes_are l.big w
