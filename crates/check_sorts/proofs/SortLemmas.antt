-- Kinds that have all numbers of a signal.
use Rattle.std.proofs.Common.{◌≡◌, ◌≤◌, ◌<◌, ◌-◌, ◌^◌, ◌∙◌, ℕ, zero, suc, Bool, true, false, refl, ap, sym, arith}
use Rattle.std.specs.Prelude.{ℤ, pos, negsuc, neg_ℤ, nat_le, if◌then◌else◌}
use Rattle.std.proofs.Math.Nat.{pow-le-pow_right}
use Rattle.std.proofs.lemmas.Nat.{pow_pos}
use Rattle.std.proofs.lemmas.Bool.Decides.{nat_tests}
use Rattle.int_kinds.specs.declared.kinds.Kind.{Kind}
use Rattle.int_kinds.specs.declared.kinds.Kind.TheVariants.{Dword, Int64, Long, Qword}
use Rattle.signal_codec.specs.declared.layout.Layout.{Layout}
use Rattle.capl_meaning.specs.Message.{first_kind, kind_of_signal}

-- a greater power of two
raised : (i j : ℕ) → i ≤ j → 2 ^ i ≤ 2 ^ j
raised i j most = pow-le-pow_right {n = 2} (omega arith) {i = i} {j = j} most

-- a test of three limits
choice : Bool → Bool → Bool → Kind
choice a b d = if a then Long else if b then Dword else if d then Int64 else Qword

-- the same of signed kinds alone
signed_choice : Bool → Bool → Kind
signed_choice a d = if a then Long else if d then Int64 else Qword

-- the kind of the numbers from 0 on, by tests of the greatest
natural : (m : ℕ) (a b d : Bool) → nat_le m 2147483647 ≡ a → nat_le m 4294967295 ≡ b → nat_le m 9223372036854775807 ≡ d
    → first_kind (pos 0) (pos m) ≡ choice a b d
unfolding choice
natural m a b d is_a is_b is_d =
    ap (λ (x : Bool). choice x (nat_le m 4294967295) (nat_le m 9223372036854775807)) is_a
    ∙ ap (λ (x : Bool). choice a x (nat_le m 9223372036854775807)) is_b ∙ ap (choice a b) is_d

-- the kind of the numbers of a signed kind, by tests of the greatest
signed : (m : ℕ) (a d : Bool) → nat_le m 2147483647 ≡ a → nat_le m 9223372036854775807 ≡ d
    → first_kind (negsuc m) (pos m) ≡ signed_choice a d
unfolding signed_choice
signed m a d is_a is_d = by a d is_a is_d
  where
    by : (a d : Bool) → nat_le m 2147483647 ≡ a → nat_le m 9223372036854775807 ≡ d
        → first_kind (negsuc m) (pos m) ≡ (if a then Long else if d then Int64 else Qword)
    by true d is_a is_d = grind (arith, is_a, is_d)
    by false true is_a is_d = grind (arith, is_a, is_d)
    by false false is_a is_d = grind (arith, is_a, is_d)

-- up to 31 bits
pub long_natural : (n : ℕ) → n < 32 → Long ≡ first_kind (pos 0) (pos (2 ^ n - 1))
unfolding choice
long_natural n most =
    let high : 2 ^ n ≤ 2 ^ 31 = raised n 31 (omega arith) in
    sym (natural (2 ^ n - 1) true _ _ (grind (arith, nat_tests, high)) refl refl)

-- 32 bits
pub dword_natural : (n : ℕ) → n ≡ 32 → Dword ≡ first_kind (pos 0) (pos (2 ^ n - 1))
dword_natural n is = ap (λ (n : ℕ). first_kind (pos 0) (pos (2 ^ n - 1))) (sym is)

-- 33 to 63 bits
pub wide_natural : (n : ℕ) → 33 ≤ n → n < 64 → Int64 ≡ first_kind (pos 0) (pos (2 ^ n - 1))
unfolding choice
wide_natural n least most =
    let low : 2 ^ 33 ≤ 2 ^ n = raised 33 n (omega arith) in
    let high : 2 ^ n ≤ 2 ^ 63 = raised n 63 (omega arith) in
    sym (natural (2 ^ n - 1) false false true (grind (arith, nat_tests, low)) (grind (arith, nat_tests, low))
    (grind (arith, nat_tests, high)))

-- 64 bits and more
pub widest_natural : (n : ℕ) → 64 ≤ n → Qword ≡ first_kind (pos 0) (pos (2 ^ n - 1))
unfolding choice
widest_natural n least =
    let low : 2 ^ 64 ≤ 2 ^ n = raised 64 n (omega arith) in
    sym (natural (2 ^ n - 1) false false false (grind (arith, nat_tests, low)) (grind (arith, nat_tests, low))
    (grind (arith, nat_tests, low)))

-- a power of two and one less
power : (p : ℕ) (k : Kind) → 0 < p → k ≡ first_kind (negsuc (p - 1)) (pos (p - 1))
    → k ≡ first_kind (neg_ℤ (pos p)) (pos (p - 1))
power zero k some is = absurd (omega arith)
power (suc q) k some is =
    let same : suc q - 1 ≡ q = omega arith in
    is ∙ ap (λ (m : ℕ). first_kind (negsuc m) (pos (suc q - 1))) same

-- up to 32 bits in two's complement
pub long_integer : (n : ℕ) → n < 33 → Long ≡ first_kind (neg_ℤ (pos (2 ^ (n - 1)))) (pos (2 ^ (n - 1) - 1))
unfolding signed_choice
long_integer n most =
    let high : 2 ^ (n - 1) ≤ 2 ^ 31 = raised (n - 1) 31 (omega arith) in
    power (2 ^ (n - 1)) Long (pow_pos (n - 1)) (sym (signed (2 ^ (n - 1) - 1) true _ (grind (arith, nat_tests, high)) refl))

-- 33 to 64 bits
pub wide_integer : (n : ℕ) → 33 ≤ n → n < 65 → Int64 ≡ first_kind (neg_ℤ (pos (2 ^ (n - 1)))) (pos (2 ^ (n - 1) - 1))
unfolding signed_choice
wide_integer n least most =
    let low : 2 ^ 32 ≤ 2 ^ (n - 1) = raised 32 (n - 1) (omega arith) in
    let high : 2 ^ (n - 1) ≤ 2 ^ 63 = raised (n - 1) 63 (omega arith) in
    power (2 ^ (n - 1)) Int64 (pow_pos (n - 1))
    (sym (signed (2 ^ (n - 1) - 1) false true (grind (arith, nat_tests, low)) (grind (arith, nat_tests, high))))

-- 65 bits and more
pub widest_integer : (n : ℕ) → 65 ≤ n → Qword ≡ first_kind (neg_ℤ (pos (2 ^ (n - 1)))) (pos (2 ^ (n - 1) - 1))
unfolding signed_choice
widest_integer n least =
    let low : 2 ^ 64 ≤ 2 ^ (n - 1) = raised 64 (n - 1) (omega arith) in
    power (2 ^ (n - 1)) Qword (pow_pos (n - 1))
    (sym (signed (2 ^ (n - 1) - 1) false false (grind (arith, nat_tests, low)) (grind (arith, nat_tests, low))))
