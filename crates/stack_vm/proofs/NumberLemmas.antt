-- Numbers as the program holds them.
use Rattle.std.proofs.Common.{◌≡◌, ◌<◌, ◌^◌, ℕ, ap, ◌∙◌, arith}
use Rattle.std.specs.Prelude.{ℤ, pos, negsuc, FitsSigned}
use Rattle.std.specs.Int.{cast_signed, cast_unsigned, w128}
use Rattle.std.proofs.lemmas.Int.{ints, to_z-of_z}
use Rattle.int_kinds.specs.Kind.{Holds, IsNumber}
use Rattle.int_kinds.specs.declared.kinds.Kind.{Kind}
use Rattle.int_kinds.specs.declared.kinds.Kind.TheVariants.{Byte}
use Rattle.int_kinds.proofs.Values.{IsNumber-held}

-- a number fits a word of 128 bits
pub fits_number : (n : ℤ) → IsNumber n → FitsSigned w128 n
fits_number (pos n) h = record { sfits = omega (arith, ints, h.below) }
fits_number (negsuc n) h = record { sfits = omega (arith, ints, h.at_least) }

-- a number is read as it was written
pub read_back : (n : ℤ) → IsNumber n → cast_signed w128 (cast_unsigned w128 n) ≡ n
read_back n h = to_z-of_z w128 n (fits_number n h)

-- and so is a number of a kind
pub read_back_held : (k : Kind) (n : ℤ) → Holds k n → cast_signed w128 (cast_unsigned w128 n) ≡ n
read_back_held k n h = read_back n (IsNumber-held k n h)

-- a byte is a number of the kind byte
pub Holds-byte : (n : ℕ) → n < 256 → Holds Byte (pos n)
Holds-byte n h = record { at_least = omega (arith, ints); at_most = omega (arith, ints, h) }

-- a byte is read as it was written
pub read_back_byte : (n : ℕ) → n < 256 → cast_signed w128 (cast_unsigned w128 (pos n)) ≡ pos n
read_back_byte n h = read_back_held Byte (pos n) (Holds-byte n h)

-- a word of 32 bits as a number
pub read_back_word : (n : ℕ) → n < 2 ^ 32 → cast_signed w128 (cast_unsigned w128 (pos n)) ≡ pos n
read_back_word n h = read_back (pos n) (record { at_least = omega (arith, ints); below = omega (arith, ints, h) })

-- a result that is a number, as it is passed on
pub passed : (r n : ℤ) → r ≡ n → IsNumber n → cast_signed w128 (cast_unsigned w128 r) ≡ n
passed r n e h = ap (λ (z : ℤ). cast_signed w128 (cast_unsigned w128 z)) e ∙ read_back n h

-- a result that fits
pub got : (r n : ℤ) → FitsSigned w128 r → r ≡ n → cast_signed w128 (cast_unsigned w128 r) ≡ n
got r n f e = to_z-of_z w128 r f ∙ e
