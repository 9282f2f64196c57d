-- The laws of congruence of whole numbers.
use Rattle.std.proofs.Common.{◌≡◌, ℕ, ◌+◌, ◌*◌, ◌/◌, ◌%◌, ◌<◌, zero, suc, arith, ap, sym, refl, subst}
use Rattle.std.specs.Prelude.{ℤ, pos, negsuc, ◌+ℤ◌, ◌-ℤ◌, ◌*ℤ◌, neg_ℤ, unsigned_abs}
use Rattle.std.specs.Int.{int_rem_euclid}
use Rattle.std.proofs.lemmas.Int.{ints}
use Rattle.std.proofs.Math.Nat.{div-add-mod', mod-lt}
use lib.IntN.{*ℤ_comm}
use borrow.Author.Differences.{up, down, same_in, same_out, sum_is_lem, neg_is, product_is}
use Rattle.int_kinds.specs.Congruent.{Congruent}

-- each number is congruent to itself
pub Congruent-refl : (m : ℕ) (a : ℤ) → Congruent m a a
Congruent-refl m a = record { times = pos 0; apart = omega (arith, same_in, sum_is_lem, product_is) }

-- equal numbers are congruent
pub Congruent-eq : (m : ℕ) (a b : ℤ) → a ≡ b → Congruent m a b
Congruent-eq m a b e = subst (Congruent m a) e (Congruent-refl m a)

turned : (t : ℤ) (m : ℕ) → (up (neg_ℤ t) * m ≡ down t * m) × (down (neg_ℤ t) * m ≡ up t * m)
turned t m = (ap (λ n. n * m) (neg_is t).0, ap (λ n. n * m) (neg_is t).1)

-- congruence goes both ways
pub Congruent-sym : (m : ℕ) (a b : ℤ) → Congruent m a b → Congruent m b a
Congruent-sym m a b h = record { times = neg_ℤ h.times; apart = omega (arith, same_in, same_out, sum_is_lem, turned h.times m, product_is, h.apart) }

-- numbers congruent to one number are congruent
pub Congruent-trans : (m : ℕ) (a b c : ℤ) → Congruent m a b → Congruent m b c → Congruent m a c
Congruent-trans m a b c h k = record { times = h.times +ℤ k.times; apart = omega (arith, same_in, same_out, sum_is_lem, product_is, ap (λ n. n * m) (sum_is_lem h.times k.times), h.apart, k.apart) }

-- sums of congruent numbers are congruent
pub Congruent-add : (m : ℕ) (a b c d : ℤ) → Congruent m a b → Congruent m c d → Congruent m (a +ℤ c) (b +ℤ d)
Congruent-add m a b c d h k = record { times = h.times +ℤ k.times; apart = omega (arith, same_in, same_out, sum_is_lem, product_is, ap (λ n. n * m) (sum_is_lem h.times k.times), h.apart, k.apart) }

-- negatives of congruent numbers are congruent
pub Congruent-neg : (m : ℕ) (a b : ℤ) → Congruent m a b → Congruent m (neg_ℤ a) (neg_ℤ b)
Congruent-neg m a b h = record { times = neg_ℤ h.times; apart = omega (arith, same_in, same_out, sum_is_lem, neg_is, turned h.times m, product_is, h.apart) }

-- differences of congruent numbers are congruent
pub Congruent-sub : (m : ℕ) (a b c d : ℤ) → Congruent m a b → Congruent m c d → Congruent m (a -ℤ c) (b -ℤ d)
Congruent-sub m a b c d h k = Congruent-add m a b (neg_ℤ c) (neg_ℤ d) h (Congruent-neg m c d k)

scaled : (m : ℕ) (a b c : ℤ) → Congruent m a b → Congruent m (a *ℤ c) (b *ℤ c)
scaled m a b c h =
    let t = h.times in
    let sum : up a + down b + down t * m ≡ up b + down a + up t * m = omega (arith, same_out, sum_is_lem, product_is, h.apart) in
    let above = ap (λ n. n * up c) sum in
    let below = ap (λ n. n * down c) sum in
    let rising = ap (λ n. n * m) (product_is t c).0 in
    let falling = ap (λ n. n * m) (product_is t c).1 in
    record { times = t *ℤ c; apart = omega (arith, same_in, sum_is_lem, product_is) }

-- products of congruent numbers are congruent
pub Congruent-mul : (m : ℕ) (a b c d : ℤ) → Congruent m a b → Congruent m c d → Congruent m (a *ℤ c) (b *ℤ d)
Congruent-mul m a b c d h k =
    Congruent-trans m (a *ℤ c) (b *ℤ c) (b *ℤ d) (scaled m a b c h)
    (Congruent-trans m (b *ℤ c) (c *ℤ b) (b *ℤ d) (Congruent-eq m (b *ℤ c) (c *ℤ b) (*ℤ_comm b c))
    (Congruent-trans m (c *ℤ b) (d *ℤ b) (b *ℤ d) (scaled m c d b k) (Congruent-eq m (d *ℤ b) (b *ℤ d) (*ℤ_comm d b))))

-- what is congruent modulo a multiple of m is congruent modulo m
pub Congruent-divisor : (m q n : ℕ) (a b : ℤ) → n ≡ q * m → Congruent n a b → Congruent m a b
Congruent-divisor m q n a b e h =
    let rising = ap (λ x. up h.times * x) e in
    let falling = ap (λ x. down h.times * x) e in
    let more = ap (λ x. x * m) (product_is h.times (pos q)).0 in
    let less = ap (λ x. x * m) (product_is h.times (pos q)).1 in
    record { times = h.times *ℤ pos q; apart = omega (arith, same_in, same_out, sum_is_lem, product_is, h.apart) }

-- a number and its remainder
pub Congruent-rem : (m : ℕ) (z : ℤ) → 0 < m → Congruent m (int_rem_euclid z (pos m)) z
Congruent-rem m (pos n) h = record { times = neg_ℤ (pos (n / m)); apart = omega (arith, same_in, sum_is_lem, turned (pos (n / m)) m, product_is, div-add-mod' n m) }
Congruent-rem m (negsuc n) h = record { times = pos (n / m + 1); apart = let small = mod-lt n h in omega (arith, same_in, sum_is_lem, product_is, div-add-mod' n m) }

-- a remainder is congruent to the number
pub Congruent-mod : (m n : ℕ) → 0 < m → Congruent m (pos (n % m)) (pos n)
Congruent-mod m n h = Congruent-rem m (pos n) h

apart_below : (m a b : ℕ) (t : ℤ) → a < m → b < m → pos a ≡ pos b +ℤ t *ℤ pos m → a ≡ b
apart_below m a b (pos zero) p q e = omega (arith, ints)
apart_below m a b (pos (suc t)) p q e = absurd (omega (arith, ints))
apart_below m a b (negsuc t) p q e = absurd (omega (arith, ints))

-- two congruent numbers below the modulus are one number
pub same_below : (m a b : ℕ) → a < m → b < m → Congruent m (pos a) (pos b) → a ≡ b
same_below m a b p q h = apart_below m a b h.times p q h.apart

-- a remainder is less than the divisor
pub rem_below : (m : ℕ) (z : ℤ) → 0 < m → unsigned_abs (int_rem_euclid z (pos m)) < m
rem_below m (pos n) h = mod-lt n h
rem_below m (negsuc n) h = omega arith

rem_is_pos : (m : ℕ) (z : ℤ) → pos (unsigned_abs (int_rem_euclid z (pos m))) ≡ int_rem_euclid z (pos m)
rem_is_pos m (pos n) = refl
rem_is_pos m (negsuc n) = refl

-- the remainder as a natural number
pub Congruent-abs_rem : (m : ℕ) (z : ℤ) → 0 < m → Congruent m (pos (unsigned_abs (int_rem_euclid z (pos m)))) z
Congruent-abs_rem m z h = subst (λ r. Congruent m r z) (sym (rem_is_pos m z)) (Congruent-rem m z h)

-- what is congruent to z has z's remainder
pub rem_of_congruent : (m : ℕ) (n : ℕ) (z : ℤ) → 0 < m → Congruent m (pos n) z → n % m ≡ unsigned_abs (int_rem_euclid z (pos m))
rem_of_congruent m n z h c =
    let r = unsigned_abs (int_rem_euclid z (pos m)) in
    same_below m (n % m) r (mod-lt n h) (rem_below m z h)
    (Congruent-trans m (pos (n % m)) (pos n) (pos r) (Congruent-mod m n h)
    (Congruent-trans m (pos n) z (pos r) c (Congruent-sym m (pos r) z (Congruent-abs_rem m z h))))
