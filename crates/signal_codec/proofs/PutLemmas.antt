-- That `put` writes the bits of a signal, and no others.
use Rattle.std.proofs.Common.{◌≡◌, ℕ, ◌+◌, ◌-◌, ◌*◌, ◌/◌, ◌%◌, ◌^◌, ◌<◌, ◌≤◌, min, max, List, length, get_or, bit_and, bit_or, arith, ap, sym, ◌∙◌, subst, ⊎_elim}
use Rattle.std.specs.Prelude.{unsigned_abs, ℤ, pos, negsuc, Contains, FitsSigned}
use Rattle.std.specs.Int.{bit_at, int_rem_euclid, cast_unsigned, w64, w128}
use Rattle.std.proofs.lemmas.Bool.{cases_lt}
use Rattle.std.proofs.lemmas.Int.{ints}
use Rattle.std.proofs.lemmas.Nat.{and_mask, mod_below, pow-add, pow_pos, shl_whole, shr-shr, shr_split}
use Rattle.std.proofs.lemmas.Nat.Bits.{bit_at-lt, bit_at-zero, bit_at_above, bit_at_and, bit_at_cat_high, bit_at_cat_low, bit_at_not, bit_at_ones, bit_at_ones_above, bit_at_or, same_from_bits_below}
use Rattle.std.proofs.Math.Nat.{add-zero}
use Rattle.int_kinds.specs.Congruent.{Congruent}
use Rattle.int_kinds.proofs.Congruence.{rem_of_congruent, Congruent-mod, Congruent-refl, Congruent-trans}
use Rattle.signal_codec.specs.Place.{bytes_of, lowest_place, place_of, word_of}
use Rattle.signal_codec.specs.Signal.{payload_with, bit_numbers, natural_of, payload_bit, signal_value, IsUsable}
use Rattle.signal_codec.specs.declared.layout.Layout.{Layout}
use Rattle.signal_codec.proofs.Payloads.{same_payload, IsPayload, IsPayload-with_bits, payload_bit-with_bits_inside, payload_bit-with_bits_outside}
use Rattle.signal_codec.proofs.Places.{contains_of_place, lowest_place-le, place_of-lt}
use Rattle.signal_codec.proofs.Values.{natural_of-bit_numbers, Congruent-signal_value}
use Rattle.signal_codec.proofs.Words.{bytes_of-payload, payload_bit-bytes_of, payload_bit-is}

-- ---- bits of a word that was moved up

moved_low : (x low p : ℕ) → p < low → bit_at (x * 2 ^ low) p ≡ 0
moved_low x low p h = ap (λ n. bit_at n p) (sym (add-zero (x * 2 ^ low))) ∙ bit_at_cat_low x low 0 p h ∙ bit_at-zero p

moved_high : (x low p : ℕ) → low ≤ p → bit_at (x * 2 ^ low) p ≡ bit_at x (p - low)
moved_high x low p h = ap (λ n. bit_at n p) (sym (add-zero (x * 2 ^ low))) ∙ bit_at_cat_high x low 0 p (pow_pos low) h

-- a word with `len` bits from `low` on replaced
abbrev replaced : ℕ → ℕ → ℕ → ℕ → ℕ
replaced w low ones bits = bit_or (bit_and w (2 ^ 64 - 1 - ones * 2 ^ low % 2 ^ 64)) (bits * 2 ^ low % 2 ^ 64)

module _ (w low len bits : ℕ) (room : low + len ≤ 64) (few : bits < 2 ^ len) where
  ones_fit : (2 ^ len - 1) * 2 ^ low % 2 ^ 64 ≡ (2 ^ len - 1) * 2 ^ low
  ones_fit = let some = pow_pos len in shl_whole (2 ^ len - 1) len low 64 (omega arith) (omega arith)

  bits_fit : bits * 2 ^ low % 2 ^ 64 ≡ bits * 2 ^ low
  bits_fit = shl_whole bits len low 64 few (omega arith)

  mask_below : (2 ^ len - 1) * 2 ^ low < 2 ^ 64
  mask_below = subst (λ n. n < 2 ^ 64) ones_fit (mod_below ((2 ^ len - 1) * 2 ^ low) (2 ^ 64) (pow_pos 64))

  bit_of_replaced : (p : ℕ) → p < 64 → bit_at (replaced w low (2 ^ len - 1) bits) p ≡ max (min (bit_at w p) (1 - bit_at ((2 ^ len - 1) * 2 ^ low) p)) (bit_at (bits * 2 ^ low) p)
  bit_of_replaced p h =
      (λ i. bit_at (bit_or (bit_and w (2 ^ 64 - 1 - ones_fit i)) (bits_fit i)) p)
      ∙ bit_at_or (bit_and w (2 ^ 64 - 1 - (2 ^ len - 1) * 2 ^ low)) (bits * 2 ^ low) p
      ∙ ap (λ n. max n (bit_at (bits * 2 ^ low) p)) (bit_at_and w (2 ^ 64 - 1 - (2 ^ len - 1) * 2 ^ low) p
      ∙ ap (min (bit_at w p)) (bit_at_not w64 ((2 ^ len - 1) * 2 ^ low) p mask_below h))

  -- the bits of the field are the new ones
  pub bit_of_replaced-inside : (i : ℕ) → i < len → bit_at (replaced w low (2 ^ len - 1) bits) (low + i) ≡ bit_at bits i
  bit_of_replaced-inside i h =
      let back : low + i - low ≡ i = omega arith in
      let mask : bit_at ((2 ^ len - 1) * 2 ^ low) (low + i) ≡ 1 = moved_high (2 ^ len - 1) low (low + i) (omega arith) ∙ ap (bit_at (2 ^ len - 1)) back ∙ bit_at_ones len i h in
      let new : bit_at (bits * 2 ^ low) (low + i) ≡ bit_at bits i = moved_high bits low (low + i) (omega arith) ∙ ap (bit_at bits) back in
      let is = bit_of_replaced (low + i) (omega arith) in
      omega arith

  -- the bits below it are as they were
  pub bit_of_replaced-below : (p : ℕ) → p < low → bit_at (replaced w low (2 ^ len - 1) bits) p ≡ bit_at w p
  bit_of_replaced-below p h =
      let mask = moved_low (2 ^ len - 1) low p h in
      let new = moved_low bits low p h in
      let is = bit_of_replaced p (omega arith) in
      let old = bit_at-lt w p in
      omega arith

  -- and so are those above it
  pub bit_of_replaced-above : (p : ℕ) → p < 64 → low + len ≤ p → bit_at (replaced w low (2 ^ len - 1) bits) p ≡ bit_at w p
  bit_of_replaced-above p q h =
      let mask : bit_at ((2 ^ len - 1) * 2 ^ low) p ≡ 0 = moved_high (2 ^ len - 1) low p (omega arith) ∙ bit_at_ones_above len (p - low) (omega arith) in
      let new : bit_at (bits * 2 ^ low) p ≡ 0 = moved_high bits low p (omega arith) ∙ bit_at_above bits len (p - low) few (omega arith) in
      let is = bit_of_replaced p q in
      let old = bit_at-lt w p in
      omega arith

  -- the field is the new bits
  pub field_of_replaced : replaced w low (2 ^ len - 1) bits / 2 ^ low % 2 ^ len ≡ bits
  field_of_replaced =
      let x = replaced w low (2 ^ len - 1) bits in
      same_from_bits_below len (x / 2 ^ low % 2 ^ len) bits (mod_below (x / 2 ^ low) (2 ^ len) (pow_pos len)) few
      (λ i h. sym (bit_at_cat_low (x / 2 ^ low / 2 ^ len) len (x / 2 ^ low % 2 ^ len) i h)
      ∙ ap (λ n. bit_at n i) (shr_split (x / 2 ^ low) len)
      ∙ ap (λ n. n % 2) (shr-shr x low i)
      ∙ bit_of_replaced-inside i h)

-- ---- numbers modulo 2 to the length

word_of_number : (len : ℕ) (n : ℤ) → len ≤ 64 → FitsSigned w128 n → Congruent (2 ^ len) (pos (cast_unsigned w128 n)) n
word_of_number len (pos n) h f = Congruent-refl (2 ^ len) (pos n)
word_of_number len (negsuc n) h f =
    let split : 2 ^ (128 - len + len) ≡ 2 ^ (128 - len) * 2 ^ len = pow-add 2 (128 - len) len in
    let all : 128 - len + len ≡ 128 = omega arith in
    let whole : 2 ^ 128 ≡ 2 ^ (128 - len) * 2 ^ len = ap (λ k. 2 ^ k) (sym all) ∙ split in
    record { times = pos (2 ^ (128 - len)); apart = omega (arith, ints, f.sfits) }

-- ---- a payload that was written

module _ (l : Layout) (payload new : List ℕ) (w low ones : ℕ) (n : ℤ) (u : IsUsable l) (f : FitsSigned w128 n) (place : low ≡ lowest_place l) (mask : ones ≡ 2 ^ l.len - 1)
    (written : new ≡ bytes_of l (replaced w low ones (bit_and (cast_unsigned w128 n) ones))) where
  low_bits : bit_and (cast_unsigned w128 n) ones ≡ cast_unsigned w128 n % 2 ^ l.len
  low_bits = ap (bit_and (cast_unsigned w128 n)) mask ∙ and_mask (cast_unsigned w128 n) l.len

  few : cast_unsigned w128 n % 2 ^ l.len < 2 ^ l.len
  few = mod_below (cast_unsigned w128 n) (2 ^ l.len) (pow_pos l.len)

  new_is : new ≡ bytes_of l (replaced w (lowest_place l) (2 ^ l.len - 1) (cast_unsigned w128 n % 2 ^ l.len))
  new_is = written ∙ (λ i. bytes_of l (replaced w (place i) (mask i) (low_bits i)))

  bit_of_new : (b : ℕ) → b < 64 → payload_bit new b ≡ bit_at (replaced w (lowest_place l) (2 ^ l.len - 1) (cast_unsigned w128 n % 2 ^ l.len)) (place_of l b)
  bit_of_new b h = ap (λ p. payload_bit p b) new_is ∙ payload_bit-bytes_of l (replaced w (lowest_place l) (2 ^ l.len - 1) (cast_unsigned w128 n % 2 ^ l.len)) b h

  natural_of_new : natural_of new (bit_numbers l) ≡ cast_unsigned w128 n % 2 ^ l.len
  natural_of_new = natural_of-bit_numbers l new (replaced w (lowest_place l) (2 ^ l.len - 1) (cast_unsigned w128 n % 2 ^ l.len)) u bit_of_new
      ∙ field_of_replaced w (lowest_place l) l.len (cast_unsigned w128 n % 2 ^ l.len) (lowest_place-le l u) few

  -- the signal has a number congruent to the one written
  pub Congruent-written : Congruent (2 ^ l.len) (signal_value l new) n
  Congruent-written =
      let m = 2 ^ l.len in
      Congruent-trans m (signal_value l new) (pos (cast_unsigned w128 n % m)) n
      (subst (λ v. Congruent m (signal_value l new) (pos v)) natural_of_new (Congruent-signal_value l new u.at_least_one))
      (Congruent-trans m (pos (cast_unsigned w128 n % m)) (pos (cast_unsigned w128 n)) n (Congruent-mod m (cast_unsigned w128 n) (pow_pos l.len)) (word_of_number l.len n u.at_most_64 f))

  -- the other bits are as they were
  pub payload_bit-written : length payload ≡ 8 → ((i : ℕ) → get_or payload i 0 < 256) → w ≡ word_of l payload
      → (b : ℕ) → b < 64 → ¬ (Contains (bit_numbers l) b) → payload_bit new b ≡ payload_bit payload b
  payload_bit-written eight bytes word b h other =
      let old : bit_at w (place_of l b) ≡ payload_bit payload b = ap (λ x. bit_at x (place_of l b)) word ∙ sym (payload_bit-is l payload b eight bytes h) in
      bit_of_new b h
      ∙ ⊎_elim
      (λ under. bit_of_replaced-below w (lowest_place l) l.len (cast_unsigned w128 n % 2 ^ l.len) (lowest_place-le l u) few (place_of l b) under)
      (λ above. ⊎_elim
      (λ inside. absurd (other (contains_of_place l b u h above inside)))
      (λ past. bit_of_replaced-above w (lowest_place l) l.len (cast_unsigned w128 n % 2 ^ l.len) (lowest_place-le l u) few (place_of l b) (place_of-lt l b h) past)
      (cases_lt (place_of l b) (lowest_place l + l.len)))
      (cases_lt (place_of l b) (lowest_place l))
      ∙ old

  -- the payload is the one that is promised
  pub payload_with-written : IsPayload payload → w ≡ word_of l payload → new ≡ payload_with l payload n
  unfolding payload_with
  payload_with-written p word =
      let m = 2 ^ l.len in
      let v = unsigned_abs (int_rem_euclid n (pos (2 ^ l.len))) in
      let same : cast_unsigned w128 n % m ≡ v = rem_of_congruent m (cast_unsigned w128 n) n (pow_pos l.len) (word_of_number l.len n u.at_most_64 f) in
      let bytes = bytes_of-payload l (replaced w (lowest_place l) (2 ^ l.len - 1) (cast_unsigned w128 n % 2 ^ l.len)) in
      let valid : IsPayload new = subst IsPayload (sym new_is) (record { eight = bytes.0; bytes = bytes.1 }) in
      same_payload new (payload_with l payload n) valid (IsPayload-with_bits l payload v u p)
      (λ b h.
      let inside : (i : ℕ) → place_of l b ≡ lowest_place l + i → i < l.len → payload_bit new b ≡ payload_bit (payload_with l payload n) b = λ i e k.
      bit_of_new b h ∙ ap (bit_at (replaced w (lowest_place l) (2 ^ l.len - 1) (cast_unsigned w128 n % 2 ^ l.len))) e
      ∙ bit_of_replaced-inside w (lowest_place l) l.len (cast_unsigned w128 n % 2 ^ l.len) (lowest_place-le l u) few i k
      ∙ ap (λ x. bit_at x i) same ∙ sym (payload_bit-with_bits_inside l payload v u p b i h e k) in
      let old : bit_at w (place_of l b) ≡ payload_bit payload b = ap (λ x. bit_at x (place_of l b)) word ∙ sym (payload_bit-is l payload b p.eight p.bytes h) in
      ⊎_elim
      (λ under. bit_of_new b h ∙ bit_of_replaced-below w (lowest_place l) l.len (cast_unsigned w128 n % 2 ^ l.len) (lowest_place-le l u) few (place_of l b) under
      ∙ old ∙ sym (payload_bit-with_bits_outside l payload v u p b h (λ i k e. omega (arith, e))))
      (λ above. ⊎_elim
      (λ below. inside (place_of l b - lowest_place l) (omega arith) (omega arith))
      (λ past. bit_of_new b h ∙ bit_of_replaced-above w (lowest_place l) l.len (cast_unsigned w128 n % 2 ^ l.len) (lowest_place-le l u) few (place_of l b) (place_of-lt l b h) past
      ∙ old ∙ sym (payload_bit-with_bits_outside l payload v u p b h (λ i k e. omega (arith, e))))
      (cases_lt (place_of l b) (lowest_place l + l.len)))
      (cases_lt (place_of l b) (lowest_place l)))
