-- The numbers that instructions give lie from -2^63 to 2^64 - 1.
use Rattle.std.proofs.Common.{◌≤◌, ◌<◌, ◌+◌, ◌-◌, ◌^◌, ◌%◌, ℕ, Bool, true, false, cond, List, take, drop, arith, lit<}
use Rattle.std.specs.Prelude.{ℤ, pos, ◌≤ℤ◌, neg_ℤ, nat_le}
use Rattle.std.proofs.lemmas.Int.{ints}
use Rattle.std.proofs.Math.Pow.{pow_mono}
use Rattle.int_kinds.specs.declared.kinds.Kind.{Kind}
use Rattle.int_kinds.specs.declared.kinds.Kind.TheVariants.{Byte, Word, Dword, Long}
use Rattle.int_kinds.specs.Kind.{Holds, IsNumber, width, wrap}
use Rattle.int_kinds.specs.Arithmetic.{inverted, negated, residue, truth}
use Rattle.int_kinds.proofs.Values.{Holds-truth, IsNumber-held, IsNumber-wrap}
use Rattle.signal_codec.specs.declared.layout.Layout.{Layout}
use Rattle.signal_codec.specs.Signal.{CanHave, IsUsable, signal_value}
use Rattle.signal_codec.proofs.Values.{CanHave-signal_value}
use Rattle.message_cells.specs.Message.{number_at, number_of_bytes, size, written_can, written_dlc, written_id, written_rtr}
use Rattle.bytecode.proofs.MessageCells.{residue-lt}

-- a truth value is a number
pub IsNumber-truth : (b : Bool) → IsNumber (truth b)
IsNumber-truth b = IsNumber-held Long (truth b) (Holds-truth Long b)

-- a negative in a kind is a number
pub IsNumber-negated : (k : Kind) (n : ℤ) → IsNumber (negated k n)
IsNumber-negated k n = IsNumber-wrap k (neg_ℤ (wrap k n))

-- turned bits are a number
pub IsNumber-inverted : (k : Kind) (n : ℤ) → IsNumber (inverted k n)
IsNumber-inverted k n = IsNumber-wrap k (pos (2 ^ width k - 1 - residue k n))

-- what stands in a payload is a number
pub IsNumber-number_at : (k : Kind) (i : ℕ) (payload : List ℕ) → IsNumber (number_at k i payload)
unfolding number_at
IsNumber-number_at k i payload = IsNumber-wrap k (pos (number_of_bytes (take (size k) (drop i payload))))

-- the number that a signal of at most 64 bits can have
can_be_number : (signed : Bool) (start len : ℕ) (big : Bool) (n : ℤ) → 1 ≤ len → len ≤ 64 →
    CanHave (record { start = start; len = len; big = big; signed = signed }) n → IsNumber n
can_be_number true start len big n least most c =
    let h : len - 1 ≤ 63 = omega arith in
    let p : 2 ^ (len - 1) ≤ 2 ^ 63 = pow_mono h in
    let low : neg_ℤ (pos (2 ^ (len - 1))) ≤ℤ n = c.at_least in
    let high : n ≤ℤ pos (2 ^ (len - 1) - 1) = c.at_most in
    record { at_least = omega (arith, ints, p, low); below = omega (arith, ints, p, high) }
can_be_number false start len big n least most c =
    let p : 2 ^ len ≤ 2 ^ 64 = pow_mono most in
    let low : pos 0 ≤ℤ n = c.at_least in
    let high : n ≤ℤ pos (2 ^ len - 1) = c.at_most in
    record { at_least = omega (arith, ints, low); below = omega (arith, ints, p, high) }

-- the value of a signal is a number
pub IsNumber-signal_value : (l : Layout) (payload : List ℕ) → IsUsable l → IsNumber (signal_value l payload)
IsNumber-signal_value l payload u = can_be_number l.signed l.start l.len l.big (signal_value l payload) u.at_least_one u.at_most_64 (CanHave-signal_value l payload u.at_least_one)

-- the bits of an identifier that are kept
kept-lt : (extended : Bool) (r : ℕ) → cond extended (2 ^ 31 + r % 2 ^ 29) (r % 2 ^ 11) < 2 ^ 32
kept-lt true r = omega arith
kept-lt false r = omega arith

-- a written identifier is held by its cell
pub Holds-written_id : (n : ℤ) → Holds Dword (pos (written_id n))
Holds-written_id n =
    let w = kept-lt (nat_le (2 ^ 31) (residue Dword n)) (residue Dword n) in
    record { at_least = omega (arith, ints); at_most = omega (arith, ints, w) }

-- a written length is held by its cell
pub Holds-written_dlc : (n : ℤ) → Holds Byte (pos (written_dlc n))
Holds-written_dlc n = record { at_least = omega (arith, ints); at_most = omega (arith, ints) }

-- a written remote bit is held by its cell
pub Holds-written_rtr : (n : ℤ) → Holds Byte (pos (written_rtr n))
Holds-written_rtr n = record { at_least = omega (arith, ints); at_most = omega (arith, ints) }

-- a written channel is held by its cell
pub Holds-written_can : (n : ℤ) → Holds Word (pos (written_can n))
Holds-written_can n =
    let r : residue Word n < 2 ^ 16 = residue-lt Word n (lit< tt) in
    record { at_least = omega (arith, ints); at_most = omega (arith, ints, r) }
