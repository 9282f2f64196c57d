-- The laws of `wrap`.
use Rattle.std.proofs.Common.{◌≡◌, ℕ, ◌^◌, ◌<◌, zero, suc, arith, sym, refl}
use Rattle.std.specs.Prelude.{ℤ, pos, negsuc, ◌+ℤ◌, ◌-ℤ◌, ◌*ℤ◌, ◌≤ℤ◌}
use Rattle.std.specs.Int.{int_rem_euclid}
use Rattle.std.proofs.lemmas.Int.{ints}
use Rattle.std.proofs.lemmas.Nat.{pow_pos}
use Rattle.std.proofs.Math.Nat.{mod-lt}
use borrow.Author.Differences.{up, down}
use Rattle.int_kinds.specs.Congruent.{Congruent}
use Rattle.int_kinds.specs.Arithmetic.{residue}
use Rattle.int_kinds.specs.Kind.{Holds, width, low, high, wrap}
use Rattle.int_kinds.specs.declared.kinds.Kind.{Kind}
use Rattle.int_kinds.specs.declared.kinds.Kind.TheVariants.{Byte, Word, Dword, Qword, Int, Long, Int64, Char}
use Rattle.int_kinds.proofs.Congruence.{Congruent-refl, Congruent-eq, Congruent-sym, Congruent-trans, Congruent-add, Congruent-rem, Congruent-abs_rem}

-- a range has as many numbers as two numbers of it are congruent modulo
range_is : (k : Kind) → high k +ℤ pos 1 ≡ low k +ℤ pos (2 ^ width k)
range_is Byte = refl
range_is Word = refl
range_is Dword = refl
range_is Qword = refl
range_is Int = refl
range_is Long = refl
range_is Int64 = refl
range_is Char = refl

rem_range : (m : ℕ) (z : ℤ) → 0 < m → (up (int_rem_euclid z (pos m)) < m) × (down (int_rem_euclid z (pos m)) ≡ 0)
rem_range m (pos n) h = (mod-lt n h, refl)
rem_range m (negsuc n) h = (omega arith, refl)

held : (m : ℕ) (l h z : ℤ) → 0 < m → h +ℤ pos 1 ≡ l +ℤ pos m → (l ≤ℤ (l +ℤ int_rem_euclid z (pos m))) × ((l +ℤ int_rem_euclid z (pos m)) ≤ℤ h)
held m l h z p e = let r = rem_range m z p in (omega (arith, ints, r), omega (arith, ints, r, e))

-- a wrapped number is one of the kind
pub Holds-wrap : (k : Kind) (n : ℤ) → Holds k (wrap k n)
Holds-wrap k n = let h = held (2 ^ width k) (low k) (high k) (n -ℤ low k) (pow_pos (width k)) (range_is k) in record { at_least = h.0; at_most = h.1 }

back : (l n : ℤ) → l +ℤ (n -ℤ l) ≡ n
back l n = omega (arith, ints)

-- and it is congruent to the number
pub Congruent-wrap : (k : Kind) (n : ℤ) → Congruent (2 ^ width k) (wrap k n) n
Congruent-wrap k n =
    let m = 2 ^ width k in
    Congruent-trans m (wrap k n) (low k +ℤ (n -ℤ low k)) n
    (Congruent-add m (low k) (low k) _ _ (Congruent-refl m (low k)) (Congruent-rem m (n -ℤ low k) (pow_pos (width k))))
    (Congruent-eq m _ _ (back (low k) n))

-- two congruent numbers of one range are one number
near : (m : ℕ) (l h a b t : ℤ) → h +ℤ pos 1 ≡ l +ℤ pos m → l ≤ℤ a → a ≤ℤ h → l ≤ℤ b → b ≤ℤ h → a ≡ b +ℤ t *ℤ pos m → a ≡ b
near m l h a b (pos zero) e al ah bl bh same = omega (arith, ints)
near m l h a b (pos (suc t)) e al ah bl bh same = absurd (omega (arith, ints))
near m l h a b (negsuc t) e al ah bl bh same = absurd (omega (arith, ints))

-- two congruent numbers of a kind are one number
pub same_of_congruent : (k : Kind) (a b : ℤ) → Holds k a → Holds k b → Congruent (2 ^ width k) a b → a ≡ b
same_of_congruent k a b p q c = near (2 ^ width k) (low k) (high k) a b c.times (range_is k) p.at_least p.at_most q.at_least q.at_most c.apart

-- a number of the kind that is congruent to another is the wrapped one
pub only : (k : Kind) (n m : ℤ) → Holds k m → Congruent (2 ^ width k) m n → m ≡ wrap k n
only k n m h c = same_of_congruent k m (wrap k n) h (Holds-wrap k n) (Congruent-trans (2 ^ width k) m n (wrap k n) c (Congruent-sym (2 ^ width k) (wrap k n) n (Congruent-wrap k n)))

-- congruent numbers are wrapped to the same
pub wrap_same : (k : Kind) (a b : ℤ) → Congruent (2 ^ width k) a b → wrap k a ≡ wrap k b
wrap_same k a b c = only k b (wrap k a) (Holds-wrap k a) (Congruent-trans (2 ^ width k) (wrap k a) a b (Congruent-wrap k a) c)

-- a number of the kind stays as it is
pub wrap_held : (k : Kind) (n : ℤ) → Holds k n → wrap k n ≡ n
wrap_held k n h = sym (only k n n h (Congruent-refl (2 ^ width k) n))

-- to wrap twice is to wrap once
pub wrap-wrap : (k : Kind) (n : ℤ) → wrap k (wrap k n) ≡ wrap k n
wrap-wrap k n = wrap_held k (wrap k n) (Holds-wrap k n)

-- a residue is congruent to the number
pub Congruent-residue : (k : Kind) (n : ℤ) → Congruent (2 ^ width k) (pos (residue k n)) n
Congruent-residue k n = Congruent-abs_rem (2 ^ width k) n (pow_pos (width k))
