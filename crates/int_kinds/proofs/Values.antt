-- What crates above need to know of the operators' values.
use Rattle.std.proofs.Common.{◌≡◌, ◌+◌, ◌-◌, ◌^◌, ◌≤◌, Bool, true, false, Option, Some, None, arith, ap, sym, ◌∙◌, refl, subst}
use Rattle.std.specs.Prelude.{ℤ, pos, ◌+ℤ◌, ◌-ℤ◌, ◌*ℤ◌, not, bit_and, bit_or, bit_xor, unsigned_abs, int_lt, int_le, option_map}
use Rattle.std.specs.Int.{int_div_euclid, int_rem_euclid}
use Rattle.std.specs.Ordering.{int_eq}
use Rattle.std.proofs.lemmas.Int.{ints}
use Rattle.std.proofs.lemmas.Nat.{pow_pos, pow-add}
use Rattle.int_kinds.specs.Arithmetic.{residue, truth, value, quotient, remainder}
use Rattle.int_kinds.specs.Kind.{Holds, IsNumber, width, wrap}
use Rattle.int_kinds.specs.declared.kinds.Kind.{Kind}
use Rattle.int_kinds.specs.declared.kinds.Kind.TheVariants.{Byte, Word, Dword, Qword, Int, Long, Int64, Char}
use Rattle.int_kinds.specs.declared.operators.BinOp.{BinOp}
use Rattle.int_kinds.specs.declared.operators.BinOp.TheVariants.{OrElse, AndAlso, Or, Xor, And, Equal, NotEqual, Less, LessEqual, Greater, GreaterEqual, Shl, Shr, Add, Sub, Mul, Div, Rem}
use Rattle.int_kinds.proofs.Congruence.{Congruent-divisor, Congruent-sym, Congruent-trans, same_below, rem_below}
use Rattle.int_kinds.proofs.Wrapping.{Congruent-residue, Congruent-wrap, Holds-wrap, wrap-wrap, wrap_same}

-- a kind's numbers may be passed to every call
pub IsNumber-held : (k : Kind) (n : ℤ) → Holds k n → IsNumber n
IsNumber-held Byte n h = record { at_least = omega (arith, ints, h.at_least, h.at_most); below = omega (arith, ints, h.at_least, h.at_most) }
IsNumber-held Word n h = record { at_least = omega (arith, ints, h.at_least, h.at_most); below = omega (arith, ints, h.at_least, h.at_most) }
IsNumber-held Dword n h = record { at_least = omega (arith, ints, h.at_least, h.at_most); below = omega (arith, ints, h.at_least, h.at_most) }
IsNumber-held Qword n h = record { at_least = omega (arith, ints, h.at_least, h.at_most); below = omega (arith, ints, h.at_least, h.at_most) }
IsNumber-held Int n h = record { at_least = omega (arith, ints, h.at_least, h.at_most); below = omega (arith, ints, h.at_least, h.at_most) }
IsNumber-held Long n h = record { at_least = omega (arith, ints, h.at_least, h.at_most); below = omega (arith, ints, h.at_least, h.at_most) }
IsNumber-held Int64 n h = record { at_least = omega (arith, ints, h.at_least, h.at_most); below = omega (arith, ints, h.at_least, h.at_most) }
IsNumber-held Char n h = record { at_least = omega (arith, ints, h.at_least, h.at_most); below = omega (arith, ints, h.at_least, h.at_most) }

-- a wrapped number lies in the range of all kinds
pub IsNumber-wrap : (k : Kind) (n : ℤ) → IsNumber (wrap k n)
IsNumber-wrap k n = IsNumber-held k (wrap k n) (Holds-wrap k n)

bit_held : (k : Kind) → Holds k (pos 0) × Holds k (pos 1)
bit_held Byte = (record { at_least = omega (arith, ints); at_most = omega (arith, ints) }, record { at_least = omega (arith, ints); at_most = omega (arith, ints) })
bit_held Word = (record { at_least = omega (arith, ints); at_most = omega (arith, ints) }, record { at_least = omega (arith, ints); at_most = omega (arith, ints) })
bit_held Dword = (record { at_least = omega (arith, ints); at_most = omega (arith, ints) }, record { at_least = omega (arith, ints); at_most = omega (arith, ints) })
bit_held Qword = (record { at_least = omega (arith, ints); at_most = omega (arith, ints) }, record { at_least = omega (arith, ints); at_most = omega (arith, ints) })
bit_held Int = (record { at_least = omega (arith, ints); at_most = omega (arith, ints) }, record { at_least = omega (arith, ints); at_most = omega (arith, ints) })
bit_held Long = (record { at_least = omega (arith, ints); at_most = omega (arith, ints) }, record { at_least = omega (arith, ints); at_most = omega (arith, ints) })
bit_held Int64 = (record { at_least = omega (arith, ints); at_most = omega (arith, ints) }, record { at_least = omega (arith, ints); at_most = omega (arith, ints) })
bit_held Char = (record { at_least = omega (arith, ints); at_most = omega (arith, ints) }, record { at_least = omega (arith, ints); at_most = omega (arith, ints) })

-- each kind has the numbers of a test
pub Holds-truth : (k : Kind) (b : Bool) → Holds k (truth b)
Holds-truth k true = (bit_held k).1
Holds-truth k false = (bit_held k).0

-- a wrapped number has the same residue
pub residue-wrap : (k : Kind) (n : ℤ) → residue k (wrap k n) ≡ residue k n
residue-wrap k n =
    let m = 2 ^ width k in
    same_below m (residue k (wrap k n)) (residue k n) (rem_below m (wrap k n) (pow_pos (width k))) (rem_below m n (pow_pos (width k)))
    (Congruent-trans m _ (wrap k n) _ (Congruent-residue k (wrap k n))
    (Congruent-trans m (wrap k n) n _ (Congruent-wrap k n) (Congruent-sym m (pos (residue k n)) n (Congruent-residue k n))))

-- to wrap to a kind that is no narrower first makes no difference
pub wrap-wrap_wider : (j k : Kind) (n : ℤ) → width k ≤ width j → wrap k (wrap j n) ≡ wrap k n
wrap-wrap_wider j k n h =
    let more = width j - width k in
    let split : more + width k ≡ width j = omega arith in
    wrap_same k (wrap j n) n (Congruent-divisor (2 ^ width k) (2 ^ more) (2 ^ width j) (wrap j n) n (ap (λ w. 2 ^ w) (sym split) ∙ pow-add 2 more (width k)) (Congruent-wrap j n))

wrapped : (k : Kind) (n r : ℤ) → Some (wrap k n) ≡ Some r → Holds k r
wrapped k n r e = let same : wrap k n ≡ r = cc in subst (Holds k) same (Holds-wrap k n)

tested : (k : Kind) (b : Bool) (r : ℤ) → Some (truth b) ≡ Some r → Holds k r
tested k b r e = let same : truth b ≡ r = cc in subst (Holds k) same (Holds-truth k b)

mapped : (k : Kind) (o : Option ℤ) (r : ℤ) → option_map (wrap k) o ≡ Some r → Holds k r
mapped k None r e = cc
mapped k (Some n) r e = wrapped k n r e

-- each value is a number of the kind
pub Holds-value : (op : BinOp) (k : Kind) (a b r : ℤ) → value op k a b ≡ Some r → Holds k r
Holds-value OrElse k a b r e = cc
Holds-value AndAlso k a b r e = cc
Holds-value Or k a b r e = wrapped k (pos (bit_or (residue k a) (residue k b))) r e
Holds-value Xor k a b r e = wrapped k (pos (bit_xor (residue k a) (residue k b))) r e
Holds-value And k a b r e = wrapped k (pos (bit_and (residue k a) (residue k b))) r e
Holds-value Equal k a b r e = tested k _ r e
Holds-value NotEqual k a b r e = tested k _ r e
Holds-value Less k a b r e = tested k _ r e
Holds-value LessEqual k a b r e = tested k _ r e
Holds-value Greater k a b r e = tested k _ r e
Holds-value GreaterEqual k a b r e = tested k _ r e
Holds-value Shl k a b r e = wrapped k _ r e
Holds-value Shr k a b r e = wrapped k _ r e
Holds-value Add k a b r e = wrapped k _ r e
Holds-value Sub k a b r e = wrapped k _ r e
Holds-value Mul k a b r e = wrapped k _ r e
Holds-value Div k a b r e = mapped k (quotient (wrap k a) (wrap k b)) r e
Holds-value Rem k a b r e = mapped k (remainder (wrap k a) (wrap k b)) r e

-- to wrap the operands first makes no difference
pub value-wrap : (op : BinOp) (k : Kind) (a b : ℤ) → value op k (wrap k a) (wrap k b) ≡ value op k a b
value-wrap OrElse k a b = refl
value-wrap AndAlso k a b = refl
value-wrap Or k a b = λ i. Some (wrap k (pos (bit_or (residue-wrap k a i) (residue-wrap k b i))))
value-wrap Xor k a b = λ i. Some (wrap k (pos (bit_xor (residue-wrap k a i) (residue-wrap k b i))))
value-wrap And k a b = λ i. Some (wrap k (pos (bit_and (residue-wrap k a i) (residue-wrap k b i))))
value-wrap Equal k a b = λ i. Some (truth (int_eq (wrap-wrap k a i) (wrap-wrap k b i)))
value-wrap NotEqual k a b = λ i. Some (truth (not (int_eq (wrap-wrap k a i) (wrap-wrap k b i))))
value-wrap Less k a b = λ i. Some (truth (int_lt (wrap-wrap k a i) (wrap-wrap k b i)))
value-wrap LessEqual k a b = λ i. Some (truth (int_le (wrap-wrap k a i) (wrap-wrap k b i)))
value-wrap Greater k a b = λ i. Some (truth (int_lt (wrap-wrap k b i) (wrap-wrap k a i)))
value-wrap GreaterEqual k a b = λ i. Some (truth (int_le (wrap-wrap k b i) (wrap-wrap k a i)))
value-wrap Shl k a b = λ i. Some (wrap k (wrap-wrap k a i *ℤ pos (2 ^ unsigned_abs (int_rem_euclid (wrap-wrap k b i) (pos (width k))))))
value-wrap Shr k a b = λ i. Some (wrap k (int_div_euclid (wrap-wrap k a i) (pos (2 ^ unsigned_abs (int_rem_euclid (wrap-wrap k b i) (pos (width k)))))))
value-wrap Add k a b = λ i. Some (wrap k (wrap-wrap k a i +ℤ wrap-wrap k b i))
value-wrap Sub k a b = λ i. Some (wrap k (wrap-wrap k a i -ℤ wrap-wrap k b i))
value-wrap Mul k a b = λ i. Some (wrap k (wrap-wrap k a i *ℤ wrap-wrap k b i))
value-wrap Div k a b = λ i. option_map (wrap k) (quotient (wrap-wrap k a i) (wrap-wrap k b i))
value-wrap Rem k a b = λ i. option_map (wrap k) (remainder (wrap-wrap k a i) (wrap-wrap k b i))
