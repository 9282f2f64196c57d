-- CAPL's kinds of integers: which numbers each has, how a number is wrapped to one, and the kind of a join.
-- CAPL manual: data types.
use Rattle.std.specs.Prelude.{ℕ, ◌-◌, ◌^◌, Bool, true, false, if◌then◌else◌, ℤ, pos, ◌+ℤ◌, ◌-ℤ◌, neg_ℤ, ◌≤ℤ◌, ◌<ℤ◌}
use Rattle.std.specs.Int.{int_rem_euclid}
use Rattle.int_kinds.specs.declared.kinds.Kind.{Kind}
use Rattle.int_kinds.specs.declared.kinds.Kind.TheVariants.{Byte, Word, Dword, Qword, Int, Long, Int64, Char}

-- how many bits a kind has
abbrev pub width : Kind → ℕ
width Byte = 8
width Word = 16
width Dword = 32
width Qword = 64
width Int = 16
width Long = 32
width Int64 = 64
width Char = 8

-- the kind has negative numbers too
abbrev pub is_signed : Kind → Bool
is_signed Int = true
is_signed Long = true
is_signed Int64 = true
is_signed _ = false

-- the least number of a kind
abbrev pub low : Kind → ℤ
low k = if is_signed k then neg_ℤ (pos (2 ^ (width k - 1))) else pos 0

-- the greatest number of a kind
abbrev pub high : Kind → ℤ
high k = if is_signed k then pos (2 ^ (width k - 1) - 1) else pos (2 ^ width k - 1)

-- n is a number of the kind
pub record Holds (k : Kind) (n : ℤ) : Type 0 where
  pub at_least : low k ≤ℤ n
  pub at_most : n ≤ℤ high k

-- n lies from -2^63 to 2^64 - 1, as the numbers of every kind do
pub record IsNumber (n : ℤ) : Type 0 where
  pub at_least : neg_ℤ (pos (2 ^ 63)) ≤ℤ n
  pub below : n <ℤ pos (2 ^ 64)

-- the number of the kind that is congruent to n modulo 2 to the width: the least, and a remainder above it
abbrev pub wrap : Kind → ℤ → ℤ
wrap k n = low k +ℤ int_rem_euclid (n -ℤ low k) (pos (2 ^ width k))

-- qword if one is qword, else int64 if one is int64, else dword if one is dword, else long
abbrev pub join : Kind → Kind → Kind
join Qword _ = Qword
join _ Qword = Qword
join Int64 _ = Int64
join _ Int64 = Int64
join Dword _ = Dword
join _ Dword = Dword
join _ _ = Long
