-- The number of a signal, from the word of its order.
use Rattle.std.proofs.Common.{◌≡◌, ℕ, zero, suc, ◌+◌, ◌-◌, ◌*◌, ◌/◌, ◌%◌, ◌^◌, ◌<◌, ◌≤◌, Bool, true, false, cond, List, [], ◌∷◌, length, arith, ap, sym, ◌∙◌, refl, subst, inl, inr, ⊎_elim, ◌⊎◌}
use Rattle.std.specs.Prelude.{ℤ, pos, ◌+ℤ◌, neg_ℤ, ◌≤ℤ◌, slice_index}
use Rattle.std.specs.Int.{bit_at}
use Rattle.std.proofs.lemmas.Int.{ints}
use Rattle.std.proofs.lemmas.Nat.{div-mul-add, mod-pow-add, mod_below, pow_pos, shr-shr, shr_below, shr_split}
use Rattle.std.proofs.lemmas.Nat.Bits.{bit_at-lt}
use Rattle.std.proofs.Math.Nat.{mod-one, pow-suc, pow-le-pow_right}
use borrow.Author.Differences.{neg_is}
use Rattle.int_kinds.specs.Congruent.{Congruent}
use Rattle.signal_codec.specs.Place.{big_endian_place, lowest_place, place_of}
use Rattle.signal_codec.specs.Signal.{big_endian, bit_numbers, following, integer_of, little_endian, natural_of, payload_bit, signal_value, CanHave, IsUsable}
use Rattle.signal_codec.specs.declared.layout.Layout.{Layout}
use Rattle.signal_codec.proofs.Places.{following-lt, place-following, room}

-- as many bits as the length says
pub length-little_endian : (s n : ℕ) → length (little_endian s n) ≡ n
length-little_endian s zero = refl
length-little_endian s (suc n) = ap suc (length-little_endian s n)

-- the same in big-endian order
pub length-big_endian : (s n : ℕ) → length (big_endian s n) ≡ n
length-big_endian s zero = refl
length-big_endian s (suc n) = ap suc (length-big_endian (following s) n)

lengths : (big : Bool) (start len : ℕ) → length (cond big (big_endian start len) (little_endian start len)) ≡ len
lengths true start len = length-big_endian start len
lengths false start len = length-little_endian start len

-- a signal has as many bits as its length says
pub length-bit_numbers : (l : Layout) → length (bit_numbers l) ≡ l.len
length-bit_numbers l = lengths l.big l.start l.len

-- one more bit of a field of a word
more : (w s k : ℕ) → bit_at w (s + k) * 2 ^ k + w / 2 ^ s % 2 ^ k ≡ w / 2 ^ s % 2 ^ suc k
more w s k =
    let one : 1 + k ≡ suc k = omega arith in
    sym (ap (λ n. w / 2 ^ s % 2 ^ n) (sym one) ∙ mod-pow-add (w / 2 ^ s) 1 k ∙ ap (λ n. n % 2 * 2 ^ k + w / 2 ^ s % 2 ^ k) (shr-shr w s k))

natural_little : (payload : List ℕ) (w s n : ℕ) → ((b : ℕ) → b < 64 → payload_bit payload b ≡ bit_at w b) → s + n ≤ 64 → natural_of payload (little_endian s n) ≡ w / 2 ^ s % 2 ^ n
natural_little payload w s zero same h = sym (mod-one (w / 2 ^ s))
natural_little payload w s (suc n) same h =
    (λ i. same (s + n) (omega arith) i * 2 ^ length-little_endian s n i + natural_little payload w s n same (omega arith) i) ∙ more w s n

natural_big : (payload : List ℕ) (w low n k : ℕ) → ((b : ℕ) → b < 64 → payload_bit payload b ≡ bit_at w (big_endian_place b)) → n < 64 → low + k ≡ big_endian_place n
    → natural_of payload (big_endian n (suc k)) ≡ w / 2 ^ low % 2 ^ suc k
natural_big payload w low n zero same p e =
    let here : big_endian_place n ≡ low + 0 = omega arith in
    (λ i. (same n p ∙ ap (bit_at w) here) i * 2 ^ 0 + sym (mod-one (w / 2 ^ low)) i) ∙ more w low 0
natural_big payload w low n (suc k) same p e =
    let next = following-lt n p (omega arith) in
    let place = place-following n p next in
    let rest = natural_big payload w low (following n) k same next (omega arith) in
    (λ i. (same n p ∙ ap (bit_at w) (sym e)) i * 2 ^ length-big_endian (following n) (suc k) i + rest i) ∙ more w low (suc k)

natural : (big : Bool) (start len : ℕ) (payload : List ℕ) (w : ℕ) → 1 ≤ len → start < 64 → len ≤ cond big (big_endian_place start + 1) (64 - start)
    → ((b : ℕ) → b < 64 → payload_bit payload b ≡ bit_at w (cond big (big_endian_place b) b))
    → natural_of payload (cond big (big_endian start len) (little_endian start len)) ≡ w / 2 ^ cond big (big_endian_place start + 1 - len) start % 2 ^ len
natural big start zero payload w h p r same = absurd (omega arith)
natural true start (suc k) payload w h p r same = natural_big payload w (big_endian_place start + 1 - suc k) start k same p (omega arith)
natural false start (suc k) payload w h p r same = natural_little payload w start (suc k) same (omega arith)

-- the bits of a signal are a field of the word
pub natural_of-bit_numbers : (l : Layout) (payload : List ℕ) (w : ℕ) → IsUsable l → ((b : ℕ) → b < 64 → payload_bit payload b ≡ bit_at w (place_of l b))
    → natural_of payload (bit_numbers l) ≡ w / 2 ^ lowest_place l % 2 ^ l.len
natural_of-bit_numbers l payload w u same = let r = room l.big l.start l.len u.at_least_one u.in_payload in natural l.big l.start l.len payload w u.at_least_one r.0 r.1 same

-- ---- signed numbers

one_bit : (b p : ℕ) → b < 2 → ((b ≡ 0) × (b * p ≡ 0)) ⊎ ((b ≡ 1) × (b * p ≡ p))
one_bit zero p h = inl (refl, omega arith)
one_bit (suc zero) p h = inr (refl, omega arith)
one_bit (suc (suc b)) p h = absurd (omega arith)

double : (k : ℕ) → 2 ^ suc k ≡ 2 ^ k + 2 ^ k
double k = omega (arith, pow-suc 2 k)

-- so many bits are worth less than 2 to their number
pub natural_of-lt : (payload numbers : List ℕ) → natural_of payload numbers < 2 ^ length numbers
natural_of-lt payload [] = omega arith
natural_of-lt payload (n ∷ rest) =
    let less = natural_of-lt payload rest in
    let twice = double (length rest) in
    ⊎_elim (λ z. omega (arith, z.1)) (λ s. omega (arith, s.1)) (one_bit (payload_bit payload n) (2 ^ length rest) (bit_at-lt (slice_index payload (n / 8)) (n % 8)))

-- the first bit of a number is its sign
abbrev pub sign_of : Bool → ℕ → ℕ → ℕ
sign_of signed bits len = cond signed (bits / 2 ^ (len - 1)) 0

signed_value : (signed : Bool) (payload numbers : List ℕ) (len : ℕ) → length numbers ≡ len → 1 ≤ len
    → cond signed (integer_of payload numbers) (pos (natural_of payload numbers)) +ℤ pos (sign_of signed (natural_of payload numbers) len * 2 ^ len) ≡ pos (natural_of payload numbers)
signed_value signed payload [] len e h = absurd (omega arith)
signed_value false payload (n ∷ rest) len e h = omega (arith, ints)
signed_value true payload (n ∷ rest) len e h =
    let k = length rest in
    let b = payload_bit payload n in
    let v = natural_of payload (n ∷ rest) in
    let less : len - 1 ≡ k = omega arith in
    let first : v / 2 ^ (len - 1) ≡ b = ap (λ j. v / 2 ^ j) less ∙ div-mul-add b (2 ^ k) (natural_of payload rest) (natural_of-lt payload rest) in
    let twice : 2 ^ len ≡ 2 ^ k + 2 ^ k = ap (λ j. 2 ^ j) (sym e) ∙ double k in
    let worth : v / 2 ^ (len - 1) * 2 ^ len ≡ b * (2 ^ k + 2 ^ k) = λ i. first i * twice i in
    omega (arith, ints, worth)

-- a signal's number and its bits differ by 2 to the length if the first bit is a sign that is set
pub signal_value-sign : (l : Layout) (payload : List ℕ) → 1 ≤ l.len
    → signal_value l payload +ℤ pos (sign_of l.signed (natural_of payload (bit_numbers l)) l.len * 2 ^ l.len) ≡ pos (natural_of payload (bit_numbers l))
signal_value-sign l payload h = signed_value l.signed payload (bit_numbers l) l.len (length-bit_numbers l) h

-- the bits of a signal are worth less than 2 to its length
pub bits-lt : (l : Layout) (payload : List ℕ) → natural_of payload (bit_numbers l) < 2 ^ l.len
bits-lt l payload = subst (λ n. natural_of payload (bit_numbers l) < 2 ^ n) (length-bit_numbers l) (natural_of-lt payload (bit_numbers l))

sign-lt : (signed : Bool) (bits len : ℕ) → bits < 2 ^ len → 1 ≤ len → sign_of signed bits len < 2
sign-lt true bits len h some = let split : 1 + (len - 1) ≡ len = omega arith in shr_below bits 1 (len - 1) (subst (λ n. bits < 2 ^ n) (sym split) h)
sign-lt false bits len h some = omega arith

range : (signed : Bool) (bits len : ℕ) (z : ℤ) → bits < 2 ^ len → 1 ≤ len → z +ℤ pos (sign_of signed bits len * 2 ^ len) ≡ pos bits
    → (cond signed (neg_ℤ (pos (2 ^ (len - 1)))) (pos 0) ≤ℤ z) × (z ≤ℤ cond signed (pos (2 ^ (len - 1) - 1)) (pos (2 ^ len - 1)))
range false bits len z h some e = (omega (arith, ints), omega (arith, ints))
range true bits len z h some e =
    let k = len - 1 in
    let split : suc k ≡ len = omega arith in
    let twice : 2 ^ len ≡ 2 ^ k + 2 ^ k = ap (λ j. 2 ^ j) (sym split) ∙ double k in
    let parts = shr_split bits k in
    let below = mod_below bits (2 ^ k) (pow_pos k) in
    let one = one_bit (bits / 2 ^ k) (2 ^ len) (sign-lt true bits len h some) in
    let half = one_bit (bits / 2 ^ k) (2 ^ k) (sign-lt true bits len h some) in
    ⊎_elim
    (λ z0. ⊎_elim (λ z1. (omega (arith, ints, z0.1, z1.1), omega (arith, ints, z0.1, z1.1))) (λ s1. absurd (omega (arith, z0.0, s1.0))) half)
    (λ s0. ⊎_elim (λ z1. absurd (omega (arith, z1.0, s0.0))) (λ s1. (omega (arith, ints, s0.1, s1.1), omega (arith, ints, s0.1, s1.1))) half)
    one

-- a signal has a number of its range
pub CanHave-signal_value : (l : Layout) (payload : List ℕ) → 1 ≤ l.len → CanHave l (signal_value l payload)
CanHave-signal_value l payload h =
    let r = range l.signed (natural_of payload (bit_numbers l)) l.len (signal_value l payload) (bits-lt l payload) h (signal_value-sign l payload h) in
    record { at_least = r.0; at_most = r.1 }

-- the number of a signal is congruent to what its bits are worth
pub Congruent-signal_value : (l : Layout) (payload : List ℕ) → 1 ≤ l.len → Congruent (2 ^ l.len) (signal_value l payload) (pos (natural_of payload (bit_numbers l)))
Congruent-signal_value l payload h =
    let sign = sign_of l.signed (natural_of payload (bit_numbers l)) l.len in
    let turned = ap (λ n. n * 2 ^ l.len) (neg_is (pos sign)).0 in
    let turned' = ap (λ n. n * 2 ^ l.len) (neg_is (pos sign)).1 in
    record { times = neg_ℤ (pos sign); apart = omega (arith, ints, signal_value-sign l payload h) }

pow-le : (n : ℕ) → n ≤ 64 → 2 ^ n ≤ 2 ^ 64
pow-le n h = pow-le-pow_right {n = 2} (omega arith) {i = n} {j = 64} h

sign-le : (signed : Bool) (bits len : ℕ) → bits < 2 ^ len → 1 ≤ len → len ≤ 64 → sign_of signed bits len * 2 ^ len ≤ 2 ^ 64
sign-le signed bits len h some most =
    let fits = pow-le len most in
    ⊎_elim (λ z. omega (arith, z.1)) (λ s. omega (arith, s.1)) (one_bit (sign_of signed bits len) (2 ^ len) (sign-lt signed bits len h some))

-- the number of a signal is what its bits are worth, less 2 to the length where the sign is set
pub signal_value-bits : (l : Layout) (payload : List ℕ) (bits sign : ℕ) → IsUsable l → natural_of payload (bit_numbers l) ≡ bits → sign ≡ sign_of l.signed bits l.len
    → (bits < 2 ^ 64) × (sign * 2 ^ l.len ≤ 2 ^ 64) × (sign < 2) × (signal_value l payload +ℤ pos (sign * 2 ^ l.len) ≡ pos bits)
signal_value-bits l payload bits sign u same is =
    let v = natural_of payload (bit_numbers l) in
    let here : sign ≡ sign_of l.signed v l.len = is ∙ ap (λ n. sign_of l.signed n l.len) (sym same) in
    let less = bits-lt l payload in
    let fits = pow-le l.len u.at_most_64 in (
      omega arith,
      subst (λ s. s * 2 ^ l.len ≤ 2 ^ 64) (sym here) (sign-le l.signed v l.len less u.at_least_one u.at_most_64),
      subst (λ s. s < 2) (sym here) (sign-lt l.signed v l.len less u.at_least_one),
      ap (λ s. signal_value l payload +ℤ pos (s * 2 ^ l.len)) here ∙ signal_value-sign l payload u.at_least_one ∙ ap pos same,
    )
