-- What CAPL's operators give on integers of one kind (CAPL manual, operators).
use Rattle.std.specs.Prelude.{ℕ, zero, ◌-◌, ◌^◌, Bool, not, if◌then◌else◌, option_map, Option, Some, None, ℤ, pos, ◌+ℤ◌, ◌-ℤ◌, ◌*ℤ◌, neg_ℤ, bit_and, bit_or, bit_xor, unsigned_abs, int_lt, int_le, int_div, int_rem}
use Rattle.std.specs.Int.{int_div_euclid, int_rem_euclid}
use Rattle.std.specs.Ordering.{int_eq}
use Rattle.int_kinds.specs.declared.kinds.Kind.{Kind}
use Rattle.int_kinds.specs.declared.operators.BinOp.{BinOp}
use Rattle.int_kinds.specs.declared.operators.BinOp.TheVariants.{OrElse, AndAlso, Or, Xor, And, Equal, NotEqual, Less, LessEqual, Greater, GreaterEqual, Shl, Shr, Add, Sub, Mul, Div, Rem}
use Rattle.int_kinds.specs.Kind.{width, wrap}

-- the bits of n in two's complement at the kind's width, read as one number: n modulo 2 to the width
abbrev pub residue : Kind → ℤ → ℕ
residue k n = unsigned_abs (int_rem_euclid n (pos (2 ^ width k)))

-- how many places a shift by b moves: b modulo the width, so never a negative number
abbrev pub shift_count : Kind → ℤ → ℕ
shift_count k b = unsigned_abs (int_rem_euclid (wrap k b) (pos (width k)))

-- 1 for a test that holds, and 0 for one that does not
abbrev pub truth : Bool → ℤ
truth holds = if holds then pos 1 else pos 0

-- the quotient rounded towards zero, if the divisor is not 0
abbrev pub quotient : ℤ → ℤ → Option ℤ
quotient a (pos zero) = None
quotient a b = Some (int_div a b)

-- what the quotient leaves of a, with a's sign, if the divisor is not 0
abbrev pub remainder : ℤ → ℤ → Option ℤ
remainder a (pos zero) = None
remainder a b = Some (int_rem a b)

-- the value of a binary operator on a and b, each wrapped to the kind: the whole number it gives, wrapped too
-- `||` and `&&` do not always take both operands, so they are no operation on two numbers.
abbrev pub value : BinOp → Kind → ℤ → ℤ → Option ℤ
value OrElse k a b = None
value AndAlso k a b = None
value Or k a b = Some (wrap k (pos (bit_or (residue k a) (residue k b))))
value Xor k a b = Some (wrap k (pos (bit_xor (residue k a) (residue k b))))
value And k a b = Some (wrap k (pos (bit_and (residue k a) (residue k b))))
value Equal k a b = Some (truth (int_eq (wrap k a) (wrap k b)))
value NotEqual k a b = Some (truth (not (int_eq (wrap k a) (wrap k b))))
value Less k a b = Some (truth (int_lt (wrap k a) (wrap k b)))
value LessEqual k a b = Some (truth (int_le (wrap k a) (wrap k b)))
value Greater k a b = Some (truth (int_lt (wrap k b) (wrap k a)))
value GreaterEqual k a b = Some (truth (int_le (wrap k b) (wrap k a)))
value Shl k a b = Some (wrap k (wrap k a *ℤ pos (2 ^ shift_count k b)))
value Shr k a b = Some (wrap k (int_div_euclid (wrap k a) (pos (2 ^ shift_count k b))))
value Add k a b = Some (wrap k (wrap k a +ℤ wrap k b))
value Sub k a b = Some (wrap k (wrap k a -ℤ wrap k b))
value Mul k a b = Some (wrap k (wrap k a *ℤ wrap k b))
value Div k a b = option_map (wrap k) (quotient (wrap k a) (wrap k b))
value Rem k a b = option_map (wrap k) (remainder (wrap k a) (wrap k b))

-- `-a`
abbrev pub negated : Kind → ℤ → ℤ
negated k a = wrap k (neg_ℤ (wrap k a))

-- `~a`: each bit turned
abbrev pub inverted : Kind → ℤ → ℤ
inverted k a = wrap k (pos (2 ^ width k - 1 - residue k a))
