-- That operations on numbers and on words of 128 bits, wrapped once, give the values of the operators.
use Rattle.std.proofs.Common.{◌≡◌, ℕ, ◌*◌, ◌/◌, ◌%◌, ◌^◌, ◌<◌, ◌≤◌, zero, suc, arith, ap, sym, ◌∙◌, refl, subst}
use Rattle.std.specs.Prelude.{int_div, int_rem, option_map, ℤ, pos, negsuc, ◌+ℤ◌, ◌-ℤ◌, ◌*ℤ◌, neg_ℤ, unsigned_abs, bit_and, bit_or, bit_xor, FitsSigned, ◌≤ℤ◌, Some}
use Rattle.std.specs.Int.{int_div_euclid, int_shr, cast_unsigned, cast_signed, w128}
use Rattle.std.proofs.lemmas.Int.{ints, to_z-of_z, fits_signed_from_abs}
use Rattle.std.proofs.lemmas.Nat.{pow_pos, and_mod, or_mod, xor_mod}
use Rattle.std.proofs.Common.{lit≤}
use Rattle.std.proofs.Math.Nat.{div-le_self}
use borrow.Author.Differences.{at_most_in}
use lib.Signed.{mag_rem}
use Rattle.int_kinds.specs.Congruent.{Congruent}
use Rattle.int_kinds.specs.Arithmetic.{residue, quotient, remainder}
use Rattle.int_kinds.specs.Kind.{Holds, width, low, high, wrap}
use Rattle.int_kinds.specs.declared.kinds.Kind.{Kind}
use Rattle.int_kinds.specs.declared.kinds.Kind.TheVariants.{Byte, Word, Dword, Qword, Int, Long, Int64, Char}
use Rattle.int_kinds.proofs.Congruence.{Congruent-refl, Congruent-sym, Congruent-trans, Congruent-add, Congruent-sub, Congruent-neg, Congruent-mul, Congruent-divisor, Congruent-mod, rem_of_congruent}
use Rattle.int_kinds.proofs.Wrapping.{Congruent-wrap, Holds-wrap, wrap_same, wrap_held}

-- what is read back from the bits of an outcome
pub read_back : (z r : ℤ) → FitsSigned w128 z → z ≡ r → Some (cast_signed w128 (cast_unsigned w128 z)) ≡ Some r
read_back z r f e = ap Some (to_z-of_z w128 z f ∙ e)

-- 2 ^ 128 is a multiple of the modulus of each kind
narrow : (k : Kind) (a b : ℤ) → Congruent (2 ^ 128) a b → Congruent (2 ^ width k) a b
narrow Byte a b h = Congruent-divisor (2 ^ 8) (2 ^ 120) (2 ^ 128) a b refl h
narrow Word a b h = Congruent-divisor (2 ^ 16) (2 ^ 112) (2 ^ 128) a b refl h
narrow Dword a b h = Congruent-divisor (2 ^ 32) (2 ^ 96) (2 ^ 128) a b refl h
narrow Qword a b h = Congruent-divisor (2 ^ 64) (2 ^ 64) (2 ^ 128) a b refl h
narrow Int a b h = Congruent-divisor (2 ^ 16) (2 ^ 112) (2 ^ 128) a b refl h
narrow Long a b h = Congruent-divisor (2 ^ 32) (2 ^ 96) (2 ^ 128) a b refl h
narrow Int64 a b h = Congruent-divisor (2 ^ 64) (2 ^ 64) (2 ^ 128) a b refl h
narrow Char a b h = Congruent-divisor (2 ^ 8) (2 ^ 120) (2 ^ 128) a b refl h

-- a number and its word of 128 bits
Congruent-word : (k : Kind) (z : ℤ) → FitsSigned w128 z → Congruent (2 ^ width k) (pos (cast_unsigned w128 z)) z
Congruent-word k (pos n) f = Congruent-refl (2 ^ width k) (pos n)
Congruent-word k (negsuc n) f = narrow k _ _ (record { times = pos 1; apart = omega (arith, ints, f.sfits) })

Congruent-low : (k : Kind) (n : ℕ) → Congruent (2 ^ width k) (pos (n % 2 ^ 128)) (pos n)
Congruent-low k n = narrow k _ _ (Congruent-mod (2 ^ 128) n (pow_pos 128))

unwrap : (k : Kind) (z : ℤ) → Congruent (2 ^ width k) z (wrap k z)
unwrap k z = Congruent-sym (2 ^ width k) (wrap k z) z (Congruent-wrap k z)

-- a sum wrapped once is the sum of wrapped numbers, wrapped
pub wrap-add : (k : Kind) (a b : ℤ) → wrap k (a +ℤ b) ≡ wrap k (wrap k a +ℤ wrap k b)
wrap-add k a b = wrap_same k (a +ℤ b) (wrap k a +ℤ wrap k b) (Congruent-add (2 ^ width k) a (wrap k a) b (wrap k b) (unwrap k a) (unwrap k b))

-- the same for a difference
pub wrap-sub : (k : Kind) (a b : ℤ) → wrap k (a -ℤ b) ≡ wrap k (wrap k a -ℤ wrap k b)
wrap-sub k a b = wrap_same k (a -ℤ b) (wrap k a -ℤ wrap k b) (Congruent-sub (2 ^ width k) a (wrap k a) b (wrap k b) (unwrap k a) (unwrap k b))

-- the same for a negative
pub wrap-neg : (k : Kind) (a : ℤ) → wrap k (neg_ℤ a) ≡ wrap k (neg_ℤ (wrap k a))
wrap-neg k a = wrap_same k (neg_ℤ a) (neg_ℤ (wrap k a)) (Congruent-neg (2 ^ width k) a (wrap k a) (unwrap k a))

-- the same for a product
pub wrap-mul : (k : Kind) (a b : ℤ) → wrap k (a *ℤ b) ≡ wrap k (wrap k a *ℤ wrap k b)
wrap-mul k a b = wrap_same k (a *ℤ b) (wrap k a *ℤ wrap k b) (Congruent-mul (2 ^ width k) a (wrap k a) b (wrap k b) (unwrap k a) (unwrap k b))

-- the product of two words
pub wrap-mul_words : (k : Kind) (a b : ℤ) → FitsSigned w128 a → FitsSigned w128 b → wrap k (pos (cast_unsigned w128 a * cast_unsigned w128 b % 2 ^ 128)) ≡ wrap k (wrap k a *ℤ wrap k b)
wrap-mul_words k a b f g =
    let m = 2 ^ width k in
    let x = cast_unsigned w128 a in
    let y = cast_unsigned w128 b in
    wrap_same k (pos (x * y % 2 ^ 128)) (a *ℤ b)
    (Congruent-trans m (pos (x * y % 2 ^ 128)) (pos (x * y)) (a *ℤ b) (Congruent-low k (x * y))
    (Congruent-mul m (pos x) a (pos y) b (Congruent-word k a f) (Congruent-word k b g)))
    ∙ wrap-mul k a b

residue_of_word : (k : Kind) (z : ℤ) → FitsSigned w128 z → cast_unsigned w128 z % 2 ^ width k ≡ residue k z
residue_of_word k z f = rem_of_congruent (2 ^ width k) (cast_unsigned w128 z) z (pow_pos (width k)) (Congruent-word k z f)

-- only the lowest bits of a word make a difference
low_bits : (k : Kind) (word bits : ℕ) → word % 2 ^ width k ≡ bits → wrap k (pos word) ≡ wrap k (pos bits)
low_bits k word bits e =
    let m = 2 ^ width k in
    wrap_same k (pos word) (pos bits)
    (Congruent-sym m (pos bits) (pos word) (subst (λ n. Congruent m (pos n) (pos word)) e (Congruent-mod m word (pow_pos (width k)))))

-- operations on the bits of two words
module _ (k : Kind) (a b : ℤ) (f : FitsSigned w128 a) (g : FitsSigned w128 b) where
  -- the `&` of two words is that of their lowest bits
  pub wrap-and_words : wrap k (pos (bit_and (cast_unsigned w128 a) (cast_unsigned w128 b))) ≡ wrap k (pos (bit_and (residue k a) (residue k b)))
  wrap-and_words = low_bits k _ _ (and_mod (cast_unsigned w128 a) (cast_unsigned w128 b) (width k) ∙ (λ i. bit_and (residue_of_word k a f i) (residue_of_word k b g i)))

  -- the same for `|`
  pub wrap-or_words : wrap k (pos (bit_or (cast_unsigned w128 a) (cast_unsigned w128 b))) ≡ wrap k (pos (bit_or (residue k a) (residue k b)))
  wrap-or_words = low_bits k _ _ (or_mod (cast_unsigned w128 a) (cast_unsigned w128 b) (width k) ∙ (λ i. bit_or (residue_of_word k a f i) (residue_of_word k b g i)))

  -- the same for `^`
  pub wrap-xor_words : wrap k (pos (bit_xor (cast_unsigned w128 a) (cast_unsigned w128 b))) ≡ wrap k (pos (bit_xor (residue k a) (residue k b)))
  wrap-xor_words = low_bits k _ _ (xor_mod (cast_unsigned w128 a) (cast_unsigned w128 b) (width k) ∙ (λ i. bit_xor (residue_of_word k a f i) (residue_of_word k b g i)))

-- a word moved up
pub wrap-shl_word : (k : Kind) (a : ℤ) (n : ℕ) → FitsSigned w128 a → wrap k (pos (cast_unsigned w128 a * 2 ^ n % 2 ^ 128)) ≡ wrap k (wrap k a *ℤ pos (2 ^ n))
wrap-shl_word k a n f =
    let m = 2 ^ width k in
    let x = cast_unsigned w128 a in
    wrap_same k (pos (x * 2 ^ n % 2 ^ 128)) (wrap k a *ℤ pos (2 ^ n))
    (Congruent-trans m _ (pos (x * 2 ^ n)) _ (Congruent-low k (x * 2 ^ n))
    (Congruent-mul m (pos x) (wrap k a) (pos (2 ^ n)) (pos (2 ^ n)) (Congruent-trans m (pos x) a (wrap k a) (Congruent-word k a f) (unwrap k a)) (Congruent-refl m (pos (2 ^ n)))))

-- a number of the kind moved down
between : (l h z : ℤ) (d : ℕ) → 0 < d → l ≤ℤ pos 0 → pos 0 ≤ℤ h → l ≤ℤ z → z ≤ℤ h → (l ≤ℤ int_div_euclid z (pos d)) × (int_div_euclid z (pos d) ≤ℤ h)
between l h (pos n) d p lz zh a b = let e = div-le_self n d in (omega (arith, ints), omega (arith, ints))
between l h (negsuc n) d p lz zh a b = let e = div-le_self n d in (omega (arith, ints), omega (arith, ints))

has_zero : (k : Kind) → (low k ≤ℤ pos 0) × (pos 0 ≤ℤ high k)
has_zero Byte = (at_most_in _ _ (lit≤ tt), at_most_in _ _ (lit≤ tt))
has_zero Word = (at_most_in _ _ (lit≤ tt), at_most_in _ _ (lit≤ tt))
has_zero Dword = (at_most_in _ _ (lit≤ tt), at_most_in _ _ (lit≤ tt))
has_zero Qword = (at_most_in _ _ (lit≤ tt), at_most_in _ _ (lit≤ tt))
has_zero Int = (at_most_in _ _ (lit≤ tt), at_most_in _ _ (lit≤ tt))
has_zero Long = (at_most_in _ _ (lit≤ tt), at_most_in _ _ (lit≤ tt))
has_zero Int64 = (at_most_in _ _ (lit≤ tt), at_most_in _ _ (lit≤ tt))
has_zero Char = (at_most_in _ _ (lit≤ tt), at_most_in _ _ (lit≤ tt))

shr_is : (z : ℤ) (d : ℕ) → int_shr z d ≡ int_div_euclid z (pos (2 ^ d))
shr_is (pos n) d = refl
shr_is (negsuc n) d = refl

-- a number of the kind shifted right is still one
pub wrap-shr : (k : Kind) (a : ℤ) (n : ℕ) → int_shr (wrap k a) n ≡ wrap k (int_div_euclid (wrap k a) (pos (2 ^ n)))
wrap-shr k a n =
    let z = wrap k a in
    let h = Holds-wrap k a in
    let r = between (low k) (high k) z (2 ^ n) (pow_pos n) (has_zero k).0 (has_zero k).1 h.at_least h.at_most in
    shr_is z n ∙ sym (wrap_held k (int_div_euclid z (pos (2 ^ n))) (record { at_least = r.0; at_most = r.1 }))

-- ---- division

abs_neg : (n : ℕ) → unsigned_abs (neg_ℤ (pos n)) ≡ n
abs_neg zero = refl
abs_neg (suc n) = refl

abs_div : (a d : ℤ) → unsigned_abs (int_div a d) ≤ unsigned_abs a
abs_div (pos a) (pos b) = div-le_self a b
abs_div (pos a) (negsuc b) = omega (arith, abs_neg (a / suc b), div-le_self a (suc b))
abs_div (negsuc a) (pos b) = omega (arith, abs_neg (suc a / b), div-le_self (suc a) b)
abs_div (negsuc a) (negsuc b) = div-le_self (suc a) (suc b)

small : (k : Kind) (z : ℤ) → Holds k z → unsigned_abs z < 2 ^ 64
small Byte z h = omega (arith, ints, h.at_least, h.at_most)
small Word z h = omega (arith, ints, h.at_least, h.at_most)
small Dword z h = omega (arith, ints, h.at_least, h.at_most)
small Qword z h = omega (arith, ints, h.at_least, h.at_most)
small Int z h = omega (arith, ints, h.at_least, h.at_most)
small Long z h = omega (arith, ints, h.at_least, h.at_most)
small Int64 z h = omega (arith, ints, h.at_least, h.at_most)
small Char z h = omega (arith, ints, h.at_least, h.at_most)

-- the quotient of a number of the kind fits a word of 128 bits
pub quotient_fits : (k : Kind) (n x y : ℤ) → x ≡ wrap k n → FitsSigned w128 (int_div x y)
quotient_fits k n x y e =
    let held : Holds k x = subst (Holds k) (sym e) (Holds-wrap k n) in
    fits_signed_from_abs w128 (int_div x y) (omega (arith, abs_div x y, small k x held))

-- a remainder fits a word of 128 bits
pub remainder_fits : (x y : ℤ) → FitsSigned w128 x → FitsSigned w128 (int_rem x y)
remainder_fits x y f = record { sfits = omega (arith, mag_rem x y, f.sfits) }

quotient_is : (a d : ℤ) → (cast_unsigned w128 d ≡ 0 → ⊥) → quotient a d ≡ Some (int_div a d)
quotient_is a (pos zero) h = absurd (h refl)
quotient_is a (pos (suc n)) h = refl
quotient_is a (negsuc n) h = refl

remainder_is : (a d : ℤ) → (cast_unsigned w128 d ≡ 0 → ⊥) → remainder a d ≡ Some (int_rem a d)
remainder_is a (pos zero) h = absurd (h refl)
remainder_is a (pos (suc n)) h = refl
remainder_is a (negsuc n) h = refl

module _ (k : Kind) (a b x y : ℤ) (p : x ≡ wrap k a) (q : y ≡ wrap k b) (h : cast_unsigned w128 y ≡ 0 → ⊥) where
  -- where the divisor is not 0, the quotient is there
  pub option_map-quotient : option_map (wrap k) (quotient (wrap k a) (wrap k b)) ≡ Some (wrap k (int_div x y))
  option_map-quotient = ap (option_map (wrap k)) ((λ i. quotient (sym p i) (sym q i)) ∙ quotient_is x y h)

  -- and so is the remainder
  pub option_map-remainder : option_map (wrap k) (remainder (wrap k a) (wrap k b)) ≡ Some (wrap k (int_rem x y))
  option_map-remainder = ap (option_map (wrap k)) ((λ i. remainder (sym p i) (sym q i)) ∙ remainder_is x y h)

-- what operations on words wrap to
pub ruleset operations_on_words = (to_z-of_z, wrap-mul_words, wrap-and_words, wrap-or_words, wrap-xor_words, wrap-shl_word)
