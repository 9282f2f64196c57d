-- Payloads of 8 bytes by their bits, and that `put` gives the payload that it promises.
use Rattle.std.proofs.Common.{◌≡◌, ◌≢◌, ℕ, zero, suc, ◌+◌, ◌-◌, ◌*◌, ◌/◌, ◌%◌, ◌^◌, ◌<◌, ◌≤◌, Bool, true, false, cond, List, length, get_or, set, arith, ap, sym, ◌∙◌, refl, subst, ⊎_elim}
use Rattle.std.specs.Int.{bit_at, int_rem_euclid}
use Rattle.std.specs.Prelude.{ℤ, pos, unsigned_abs}
use Rattle.std.proofs.lemmas.Bool.{cases_eq, cases_lt}
use Rattle.std.proofs.lemmas.Grind.{same_number_lists}
use Rattle.std.proofs.lemmas.List.{get_or-set_other, get_or-set_same, length-set}
use Rattle.std.proofs.lemmas.Nat.{mod_below, mul-add-lt, pow-add, pow_pos, shr-shr, shr_below, shr_split}
use Rattle.std.proofs.lemmas.Nat.Bits.{bit_at-lt, bit_at_cat_high, bit_at_cat_low, same_from_bits_below}
use Rattle.std.proofs.Math.Nat.{div-one, mod-eq_of_lt}
use Rattle.signal_codec.specs.Place.{big_endian_place, lowest_place, place_of}
use Rattle.signal_codec.specs.Signal.{payload_with, big_endian, bit_numbers, byte_with, following, little_endian, payload_bit, payload_with_bit, payload_with_bits, IsUsable}
use Rattle.signal_codec.specs.declared.layout.Layout.{Layout}
use Rattle.signal_codec.proofs.Places.{following-lt, place-following, room}
use Rattle.signal_codec.proofs.Values.{length-big_endian, length-little_endian}

-- ---- one byte

bit_of_rest : (x j i : ℕ) → i < j → bit_at (x % 2 ^ j) i ≡ bit_at x i
bit_of_rest x j i h = sym (bit_at_cat_low (x / 2 ^ j) j (x % 2 ^ j) i h) ∙ ap (λ n. bit_at n i) (shr_split x j)

two : (h x : ℕ) → h * 2 + x ≡ h * 2 ^ 1 + x
two h x = refl

bit_of_pair : (h x : ℕ) → x < 2 → bit_at (h * 2 + x) 0 ≡ x
bit_of_pair h x small = bit_at_cat_low h 1 x 0 (omega arith) ∙ ap (λ n. n % 2) (div-one x) ∙ mod-eq_of_lt small

module _ (byte j bit : ℕ) (small : bit < 2) where
  byte_with-same : bit_at (byte_with byte j bit) j ≡ bit
  byte_with-same =
      let none : j - j ≡ 0 = omega arith in
      bit_at_cat_high (byte / 2 ^ (j + 1) * 2 + bit) j (byte % 2 ^ j) j (mod_below byte (2 ^ j) (pow_pos j)) (omega arith)
      ∙ ap (bit_at (byte / 2 ^ (j + 1) * 2 + bit)) none ∙ bit_of_pair (byte / 2 ^ (j + 1)) bit small

  byte_with-below : (i : ℕ) → i < j → bit_at (byte_with byte j bit) i ≡ bit_at byte i
  byte_with-below i h = bit_at_cat_low (byte / 2 ^ (j + 1) * 2 + bit) j (byte % 2 ^ j) i h ∙ bit_of_rest byte j i h

  byte_with-above : (i : ℕ) → j < i → bit_at (byte_with byte j bit) i ≡ bit_at byte i
  byte_with-above i h =
      let place : j + 1 + (i - j - 1) ≡ i = omega arith in
      bit_at_cat_high (byte / 2 ^ (j + 1) * 2 + bit) j (byte % 2 ^ j) i (mod_below byte (2 ^ j) (pow_pos j)) (omega arith)
      ∙ bit_at_cat_high (byte / 2 ^ (j + 1)) 1 bit (i - j) (omega arith) (omega arith)
      ∙ ap (λ n. n % 2) (shr-shr byte (j + 1) (i - j - 1)) ∙ ap (bit_at byte) place

  byte_with-other : (i : ℕ) → i ≢ j → bit_at (byte_with byte j bit) i ≡ bit_at byte i
  byte_with-other i ne = ⊎_elim (byte_with-below i) (λ h. byte_with-above i (omega arith)) (cases_lt i j)

  byte_with-lt : byte < 256 → j < 8 → byte_with byte j bit < 256
  byte_with-lt h q =
      let split : 7 - j + (j + 1) ≡ 8 = omega arith in
      let high : byte / 2 ^ (j + 1) < 2 ^ (7 - j) = shr_below byte (7 - j) (j + 1) (subst (λ n. byte < 2 ^ n) (sym split) h) in
      let double : 2 ^ (1 + (7 - j)) ≡ 2 ^ 1 * 2 ^ (7 - j) = pow-add 2 1 (7 - j) in
      let top : byte / 2 ^ (j + 1) * 2 + bit < 2 ^ (1 + (7 - j)) = omega arith in
      let all : j + (1 + (7 - j)) ≡ 8 = omega arith in
      let whole : 2 ^ j * 2 ^ (1 + (7 - j)) ≡ 256 = sym (pow-add 2 j (1 + (7 - j))) ∙ ap (λ n. 2 ^ n) all in
      subst (λ n. byte_with byte j bit < n) whole (mul-add-lt (byte / 2 ^ (j + 1) * 2 + bit) (2 ^ j) (byte % 2 ^ j) (2 ^ (1 + (7 - j))) top (mod_below byte (2 ^ j) (pow_pos j)))

-- ---- a payload

-- a list of 8 bytes
pub record IsPayload (payload : List ℕ) : Type 0 where
  pub eight : length payload ≡ 8
  pub bytes : (i : ℕ) → get_or payload i 0 < 256

-- payloads with the same bits are the same
pub same_payload : (a b : List ℕ) → IsPayload a → IsPayload b → ((n : ℕ) → n < 64 → payload_bit a n ≡ payload_bit b n) → a ≡ b
same_payload a b p q same =
    same_number_lists a b (p.eight ∙ sym q.eight)
    (λ i h. let within : i < 8 = omega (arith, p.eight) in
    same_from_bits_below 8 (get_or a i 0) (get_or b i 0) (p.bytes i) (q.bytes i)
    (λ j k. let row : (8 * i + j) / 8 ≡ i = omega arith in
    let column : (8 * i + j) % 8 ≡ j = omega arith in
    (λ t. bit_at (get_or a (sym row t) 0) (sym column t)) ∙ same (8 * i + j) (omega arith) ∙ (λ t. bit_at (get_or b (row t) 0) (column t))))

module _ (payload : List ℕ) (number bit : ℕ) (p : IsPayload payload) (within : number < 64) (small : bit < 2) where
  row_in : number / 8 < length payload
  row_in = omega (arith, p.eight)

  IsPayload-with_bit : IsPayload (payload_with_bit payload number bit)
  IsPayload-with_bit = record {
    eight = length-set payload (number / 8) (byte_with (get_or payload (number / 8) 0) (number % 8) bit) ∙ p.eight;
    bytes = λ i. ⊎_elim
        (λ same. subst (λ k. get_or (set payload (number / 8) (byte_with (get_or payload (number / 8) 0) (number % 8) bit)) k 0 < 256) (sym same)
        (subst (λ n. n < 256) (sym (get_or-set_same payload (number / 8) (byte_with (get_or payload (number / 8) 0) (number % 8) bit) 0 row_in))
        (byte_with-lt (get_or payload (number / 8) 0) (number % 8) bit small (p.bytes (number / 8)) (omega arith))))
        (λ other. subst (λ n. n < 256) (sym (get_or-set_other payload (number / 8) i (byte_with (get_or payload (number / 8) 0) (number % 8) bit) 0 other)) (p.bytes i))
        (cases_eq i (number / 8));
  }

  payload_bit-with_same : payload_bit (payload_with_bit payload number bit) number ≡ bit
  payload_bit-with_same =
      ap (λ x. bit_at x (number % 8)) (get_or-set_same payload (number / 8) (byte_with (get_or payload (number / 8) 0) (number % 8) bit) 0 row_in)
      ∙ byte_with-same (get_or payload (number / 8) 0) (number % 8) bit small

  payload_bit-with_other : (n : ℕ) → n ≢ number → payload_bit (payload_with_bit payload number bit) n ≡ payload_bit payload n
  payload_bit-with_other n ne =
      let byte = byte_with (get_or payload (number / 8) 0) (number % 8) bit in
      ⊎_elim
      (λ same. let apart : n % 8 ≢ number % 8 = λ e. ne (omega (arith, e)) in
      (λ t. bit_at (get_or (set payload (number / 8) (byte_with (get_or payload (number / 8) 0) (number % 8) bit)) (same t) 0) (n % 8))
      ∙ ap (λ x. bit_at x (n % 8)) (get_or-set_same payload (number / 8) (byte_with (get_or payload (number / 8) 0) (number % 8) bit) 0 row_in)
      ∙ byte_with-other (get_or payload (number / 8) 0) (number % 8) bit small (n % 8) apart
      ∙ (λ t. bit_at (get_or payload (sym same t) 0) (n % 8)))
      (λ other. ap (λ x. bit_at x (n % 8)) (get_or-set_other payload (number / 8) (n / 8) (byte_with (get_or payload (number / 8) 0) (number % 8) bit) 0 other))
      (cases_eq (n / 8) (number / 8))

-- ---- a payload with several bits set

with_little : (payload : List ℕ) (s n v : ℕ) → IsPayload payload → s + n ≤ 64 → IsPayload (payload_with_bits payload (little_endian s n) v)
with_little payload s zero v p h = p
with_little payload s (suc n) v p h =
    IsPayload-with_bit (payload_with_bits payload (little_endian s n) v) (s + n) (bit_at v (length (little_endian s n))) (with_little payload s n v p (omega arith)) (omega arith) (bit_at-lt v (length (little_endian s n)))

little_inside : (payload : List ℕ) (s n v i : ℕ) → IsPayload payload → s + n ≤ 64 → i < n → payload_bit (payload_with_bits payload (little_endian s n) v) (s + i) ≡ bit_at v i
little_inside payload s zero v i p h k = absurd (omega arith)
little_inside payload s (suc n) v i p h k =
    let rest = payload_with_bits payload (little_endian s n) v in
    let bit = bit_at v (length (little_endian s n)) in
    let q = with_little payload s n v p (omega arith) in
    ⊎_elim
    (λ same.
    ap (λ m. payload_bit (payload_with_bit rest (s + n) bit) (s + m)) same ∙ payload_bit-with_same rest (s + n) bit q (omega arith) (bit_at-lt v (length (little_endian s n)))
    ∙ ap (bit_at v) (length-little_endian s n ∙ sym same))
    (λ other.
    payload_bit-with_other rest (s + n) bit q (omega arith) (bit_at-lt v (length (little_endian s n))) (s + i) (λ e. other (omega (arith, e)))
    ∙ little_inside payload s n v i p (omega arith) (omega arith))
    (cases_eq i n)

little_outside : (payload : List ℕ) (s n v m : ℕ) → IsPayload payload → s + n ≤ 64 → ((i : ℕ) → i < n → m ≢ s + i) → payload_bit (payload_with_bits payload (little_endian s n) v) m ≡ payload_bit payload m
little_outside payload s zero v m p h out = refl
little_outside payload s (suc n) v m p h out =
    payload_bit-with_other (payload_with_bits payload (little_endian s n) v) (s + n) (bit_at v (length (little_endian s n))) (with_little payload s n v p (omega arith)) (omega arith) (bit_at-lt v (length (little_endian s n))) m (out n (omega arith))
    ∙ little_outside payload s n v m p (omega arith) (λ i k. out i (omega arith))

with_big : (payload : List ℕ) (n k v : ℕ) → IsPayload payload → n < 64 → k ≤ big_endian_place n → IsPayload (payload_with_bits payload (big_endian n (suc k)) v)
with_big payload n zero v p h r = IsPayload-with_bit payload n (bit_at v 0) p h (bit_at-lt v 0)
with_big payload n (suc k) v p h r =
    let next = following-lt n h (omega arith) in
    let place = place-following n h next in
    let rest = big_endian (following n) (suc k) in
    IsPayload-with_bit (payload_with_bits payload rest v) n (bit_at v (length rest)) (with_big payload (following n) k v p next (omega arith)) h (bit_at-lt v (length rest))

-- the bit i places above the lowest
big_inside : (payload : List ℕ) (n k v low b i : ℕ) → IsPayload payload → n < 64 → low + k ≡ big_endian_place n → b < 64 → big_endian_place b ≡ low + i → i ≤ k → payload_bit (payload_with_bits payload (big_endian n (suc k)) v) b ≡ bit_at v i
big_inside payload n zero v low b i p h e bl be ik =
    let same : b ≡ n = omega arith in
    let none : 0 ≡ i = omega arith in
    ap (payload_bit (payload_with_bit payload n (bit_at v 0))) same ∙ payload_bit-with_same payload n (bit_at v 0) p h (bit_at-lt v 0) ∙ ap (bit_at v) none
big_inside payload n (suc k) v low b i p h e bl be ik =
    let next = following-lt n h (omega arith) in
    let place = place-following n h next in
    let rest = big_endian (following n) (suc k) in
    let q = with_big payload (following n) k v p next (omega arith) in
    ⊎_elim
    (λ same.
    let top : suc k ≡ i = omega arith in
    ap (payload_bit (payload_with_bit (payload_with_bits payload rest v) n (bit_at v (length rest)))) same
    ∙ payload_bit-with_same (payload_with_bits payload rest v) n (bit_at v (length rest)) q h (bit_at-lt v (length rest))
    ∙ ap (bit_at v) (length-big_endian (following n) (suc k) ∙ top))
    (λ other.
    payload_bit-with_other (payload_with_bits payload rest v) n (bit_at v (length rest)) q h (bit_at-lt v (length rest)) b other
    ∙ big_inside payload (following n) k v low b i p next (omega arith) bl be (omega arith))
    (cases_eq b n)

big_outside : (payload : List ℕ) (n k v low b : ℕ) → IsPayload payload → n < 64 → low + k ≡ big_endian_place n → b < 64 → ((i : ℕ) → i ≤ k → big_endian_place b ≢ low + i) → payload_bit (payload_with_bits payload (big_endian n (suc k)) v) b ≡ payload_bit payload b
big_outside payload n zero v low b p h e bl out =
    payload_bit-with_other payload n (bit_at v 0) p h (bit_at-lt v 0) b (λ same. out 0 (omega arith) (omega (arith, same)))
big_outside payload n (suc k) v low b p h e bl out =
    let next = following-lt n h (omega arith) in
    let place = place-following n h next in
    let rest = big_endian (following n) (suc k) in
    payload_bit-with_other (payload_with_bits payload rest v) n (bit_at v (length rest)) (with_big payload (following n) k v p next (omega arith)) h (bit_at-lt v (length rest)) b
    (λ same. out (suc k) (omega arith) (omega (arith, ap big_endian_place same)))
    ∙ big_outside payload (following n) k v low b p next (omega arith) bl (λ i r. out i (omega arith))

module _ (payload : List ℕ) (v : ℕ) (p : IsPayload payload) where
  with_numbers : (big : Bool) (start len : ℕ) → 1 ≤ len → start < 64 → len ≤ cond big (big_endian_place start + 1) (64 - start) → IsPayload (payload_with_bits payload (cond big (big_endian start len) (little_endian start len)) v)
  with_numbers big start zero some low r = absurd (omega arith)
  with_numbers true start (suc k) some low r = with_big payload start k v p low (omega arith)
  with_numbers false start (suc k) some low r = with_little payload start (suc k) v p (omega arith)

  inside_numbers : (big : Bool) (start len b i : ℕ) → 1 ≤ len → start < 64 → len ≤ cond big (big_endian_place start + 1) (64 - start) → b < 64
      → cond big (big_endian_place b) b ≡ cond big (big_endian_place start + 1 - len) start + i → i < len
      → payload_bit (payload_with_bits payload (cond big (big_endian start len) (little_endian start len)) v) b ≡ bit_at v i
  inside_numbers big start zero b i some low r h e k = absurd (omega arith)
  inside_numbers true start (suc n) b i some low r h e k = big_inside payload start n v (big_endian_place start + 1 - suc n) b i p low (omega arith) h e (omega arith)
  inside_numbers false start (suc n) b i some low r h e k = ap (payload_bit (payload_with_bits payload (little_endian start (suc n)) v)) e ∙ little_inside payload start (suc n) v i p (omega arith) k

  outside_numbers : (big : Bool) (start len b : ℕ) → 1 ≤ len → start < 64 → len ≤ cond big (big_endian_place start + 1) (64 - start) → b < 64
      → ((i : ℕ) → i < len → cond big (big_endian_place b) b ≢ cond big (big_endian_place start + 1 - len) start + i)
      → payload_bit (payload_with_bits payload (cond big (big_endian start len) (little_endian start len)) v) b ≡ payload_bit payload b
  outside_numbers big start zero b some low r h out = absurd (omega arith)
  outside_numbers true start (suc n) b some low r h out = big_outside payload start n v (big_endian_place start + 1 - suc n) b p low (omega arith) h (λ i k. out i (omega arith))
  outside_numbers false start (suc n) b some low r h out = little_outside payload start (suc n) v b p (omega arith) out

module _ (l : Layout) (payload : List ℕ) (v : ℕ) (u : IsUsable l) (p : IsPayload payload) where
  -- it is one of 8 bytes
  pub IsPayload-with_bits : IsPayload (payload_with_bits payload (bit_numbers l) v)
  IsPayload-with_bits = let r = room l.big l.start l.len u.at_least_one u.in_payload in with_numbers payload v p l.big l.start l.len u.at_least_one r.0 r.1

  -- its bits of the signal are those of v
  pub payload_bit-with_bits_inside : (b i : ℕ) → b < 64 → place_of l b ≡ lowest_place l + i → i < l.len → payload_bit (payload_with_bits payload (bit_numbers l) v) b ≡ bit_at v i
  payload_bit-with_bits_inside b i h e k = let r = room l.big l.start l.len u.at_least_one u.in_payload in inside_numbers payload v p l.big l.start l.len b i u.at_least_one r.0 r.1 h e k

  -- its other bits are as they were
  pub payload_bit-with_bits_outside : (b : ℕ) → b < 64 → ((i : ℕ) → i < l.len → place_of l b ≢ lowest_place l + i) → payload_bit (payload_with_bits payload (bit_numbers l) v) b ≡ payload_bit payload b
  payload_bit-with_bits_outside b h out = let r = room l.big l.start l.len u.at_least_one u.in_payload in outside_numbers payload v p l.big l.start l.len b u.at_least_one r.0 r.1 h out

-- a payload with a signal set is one of 8 bytes
pub IsPayload-payload_with : (l : Layout) (payload : List ℕ) (n : ℤ) → IsUsable l → IsPayload payload → IsPayload (payload_with l payload n)
unfolding payload_with
IsPayload-payload_with l payload n u p = IsPayload-with_bits l payload (unsigned_abs (int_rem_euclid n (pos (2 ^ l.len)))) u p
