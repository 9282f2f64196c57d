-- Signals of a CAN frame: which bits of the payload a signal has, and the number that they are.
-- DBC format: signal definition, SG_.
use Rattle.std.specs.Prelude.{ℕ, zero, suc, ◌+◌, ◌-◌, ◌*◌, ◌/◌, ◌%◌, ◌^◌, ◌<◌, ◌≤◌, if◌then◌else◌, ◌==◌, List, [], ◌∷◌, length, slice_index, slice_set, unsigned_abs, All, Contains, ◌≡◌, ℤ, pos, ◌+ℤ◌, neg_ℤ, ◌≤ℤ◌}
use Rattle.std.specs.Int.{bit_at, int_rem_euclid}
use Rattle.signal_codec.specs.declared.layout.Layout.{Layout}

-- the bit with this number: bit b of byte i has the number 8 i + b, where b = 0 is the least significant
abbrev pub payload_bit : List ℕ → ℕ → ℕ
payload_bit payload number = bit_at (slice_index payload (number / 8)) (number % 8)

-- in little-endian order the start is the least significant bit, and each further bit has the next number
abbrev pub little_endian : ℕ → ℕ → List ℕ
little_endian start zero = []
little_endian start (suc len) = (start + len) ∷ little_endian start len

-- in big-endian order the bit that follows is one lower in its byte; after bit 0 it is bit 7 of the next byte
abbrev pub following : ℕ → ℕ
following number = if number % 8 == 0 then number + 15 else number - 1

-- in big-endian order the start is the most significant bit
abbrev pub big_endian : ℕ → ℕ → List ℕ
big_endian start zero = []
big_endian start (suc len) = start ∷ big_endian (following start) len

-- the numbers of a signal's bits, the most significant first
abbrev pub bit_numbers : Layout → List ℕ
bit_numbers l = if l.big then big_endian l.start l.len else little_endian l.start l.len

-- a signal has 1 to 64 bits, and each of them is in a payload of 8 bytes
pub record IsUsable (l : Layout) : Type 0 where
  pub at_least_one : 1 ≤ l.len
  pub at_most_64 : l.len ≤ 64
  pub in_payload : All (λ number. number < 64) (bit_numbers l)

-- what bits are worth, the most significant first: each as much as 2 to the number of bits after it
abbrev pub natural_of : List ℕ → List ℕ → ℕ
natural_of payload [] = 0
natural_of payload (number ∷ rest) = payload_bit payload number * 2 ^ length rest + natural_of payload rest

-- the same in two's complement: the first bit is worth the negative
abbrev pub integer_of : List ℕ → List ℕ → ℤ
integer_of payload [] = pos 0
integer_of payload (number ∷ rest) =
    neg_ℤ (pos (payload_bit payload number * 2 ^ length rest)) +ℤ pos (natural_of payload rest)

-- the number that a signal has in a payload
abbrev pub signal_value : Layout → List ℕ → ℤ
signal_value l payload =
    if l.signed then integer_of payload (bit_numbers l) else pos (natural_of payload (bit_numbers l))

-- the least number that a signal can have
abbrev pub least_value : Layout → ℤ
least_value l = if l.signed then neg_ℤ (pos (2 ^ (l.len - 1))) else pos 0

-- the greatest one
abbrev pub greatest_value : Layout → ℤ
greatest_value l = if l.signed then pos (2 ^ (l.len - 1) - 1) else pos (2 ^ l.len - 1)

-- a signal of this layout can have the number n
pub record CanHave (l : Layout) (n : ℤ) : Type 0 where
  pub at_least : least_value l ≤ℤ n
  pub at_most : n ≤ℤ greatest_value l

-- two payloads differ in no bit but those of the signal
abbrev pub SameOtherBits : Layout → List ℕ → List ℕ → Type 0
SameOtherBits l old new = (number : ℕ) → number < 64 → ¬ (Contains (bit_numbers l) number) →
    payload_bit new number ≡ payload_bit old number

-- a byte with bit i set to 0 or 1: the bits above it, the new one, and the bits below it
abbrev pub byte_with : ℕ → ℕ → ℕ → ℕ
byte_with byte i bit = (byte / 2 ^ (i + 1) * 2 + bit) * 2 ^ i + byte % 2 ^ i

-- a payload with the bit of this number set to 0 or 1
abbrev pub payload_with_bit : List ℕ → ℕ → ℕ → List ℕ
payload_with_bit payload number bit =
    slice_set payload (number / 8) (byte_with (slice_index payload (number / 8)) (number % 8) bit)

-- a payload with these bits, the most significant first, set to the lowest bits of v
abbrev pub payload_with_bits : List ℕ → List ℕ → ℕ → List ℕ
payload_with_bits payload [] v = payload
payload_with_bits payload (number ∷ rest) v =
    payload_with_bit (payload_with_bits payload rest v) number (bit_at v (length rest))

-- a payload once a signal has the number n: the signal's bits are the lowest of n in two's complement
unfoldable pub payload_with : Layout → List ℕ → ℤ → List ℕ
payload_with l payload n =
    payload_with_bits payload (bit_numbers l) (unsigned_abs (int_rem_euclid n (pos (2 ^ l.len))))
