-- Numbers, truth values, texts and lists as bytes. Of a number the least significant byte comes first.
use Rattle.std.specs.Prelude.{ℕ, ◌%◌, ◌/◌, ◌^◌, Bool, true, false, List, [], ◌∷◌, ◌++◌, length, ℤ}
use Rattle.std.specs.List.{flat_map}
use Rattle.std.specs.Int.{w128, cast_unsigned}

-- a number of one byte
abbrev pub byte : ℕ → List ℕ
byte n = n ∷ []

-- a number in two halves, the lower one first, which has so many values; of a number that is too great the
-- last byte is none
unfoldable pub halves : ℕ → (ℕ → List ℕ) → ℕ → List ℕ
halves values half n = half (n % values) ++ half (n / values)

-- a number of two bytes
abbrev pub word : ℕ → List ℕ
word = halves (2 ^ 8) byte

-- a number of four bytes
abbrev pub dword : ℕ → List ℕ
dword = halves (2 ^ 16) word

-- a number of eight bytes
abbrev pub qword : ℕ → List ℕ
qword = halves (2 ^ 32) dword

-- a number of 128 bits in two's complement
abbrev pub integer : ℤ → List ℕ
integer n = halves (2 ^ 64) qword (cast_unsigned w128 n)

-- a truth value
abbrev pub truth : Bool → List ℕ
truth false = byte 0
truth true = byte 1

-- a text: its length and its bytes
abbrev pub text : List ℕ → List ℕ
text bytes = dword (length bytes) ++ bytes

-- a list: the number of its records, and the records
abbrev pub list : {A : Type 0} → (A → List ℕ) → List A → List ℕ
list record_text records = dword (length records) ++ flat_map record_text records
