-- What stands at the front of bytes, and what stands behind it.
use Rattle.std.specs.Prelude.{ℕ, zero, suc, ◌+◌, ◌*◌, ◌^◌, ◌≤◌, ◌==◌, Bool, true, false, nat_le, List, [], ◌∷◌, length, take, drop, ℤ, ⊤, Option, Some, None, if◌then◌else◌}
use Rattle.std.specs.Option.{option_and_then, option_map}
use Rattle.std.specs.Int.{w128, cast_signed}

-- what a reader of items finds in bytes: the item at their front, if there is one, and the bytes behind it
abbrev pub Reader : Type 0 → Type 0
Reader A = List ℕ → Option (A × List ℕ)

-- one item, and behind it another
abbrev pub pair_at : {A B : Type 0} → Reader A → Reader B → Reader (A × B)
pair_at first second bytes =
    option_and_then (λ found. option_map (λ next. ((found.0, next.0), next.1)) (second found.1)) (first bytes)

-- what is made of an item
abbrev pub made_at : {A B : Type 0} → (A → B) → Reader A → Reader B
made_at make item bytes = option_map (λ found. (make found.0, found.1)) (item bytes)

-- what is made of an item, if it can be made
abbrev pub tried_at : {A B : Type 0} → (A → Option B) → Reader A → Reader B
tried_at make item bytes =
    option_and_then (λ found. option_map (λ made. (made, found.1)) (make found.0)) (item bytes)

-- a byte
abbrev pub byte_at : Reader ℕ
byte_at [] = None
byte_at (byte ∷ bytes) = Some (byte, bytes)

-- what stands behind a byte that says what it is
abbrev pub tagged_at : {A : Type 0} → (ℕ → Reader A) → Reader A
tagged_at behind bytes = option_and_then (λ tag. behind tag.0 tag.1) (byte_at bytes)

-- a number in two halves, the lower one first, which has so many values
abbrev pub halves_at : ℕ → Reader ℕ → Reader ℕ
halves_at values half = made_at (λ halves. halves.0 + values * halves.1) (pair_at half half)

-- a number of two bytes
abbrev pub word_at : Reader ℕ
word_at = halves_at (2 ^ 8) byte_at

-- a number of four bytes
abbrev pub dword_at : Reader ℕ
dword_at = halves_at (2 ^ 16) word_at

-- a number of eight bytes
abbrev pub qword_at : Reader ℕ
qword_at = halves_at (2 ^ 32) dword_at

-- a number of 128 bits in two's complement
abbrev pub integer_at : Reader ℤ
integer_at = made_at (cast_signed w128) (halves_at (2 ^ 64) qword_at)

-- a truth value
abbrev pub truth_of : ℕ → Option Bool
truth_of n = if n == 0 then Some false else (if n == 1 then Some true else None)

-- a truth value at the front
abbrev pub truth_at : Reader Bool
truth_at = tried_at truth_of byte_at

-- so many bytes
abbrev pub bytes_of : ℕ → Reader (List ℕ)
bytes_of count bytes = if nat_le count (length bytes) then Some (take count bytes, drop count bytes) else None

-- a text
abbrev pub text_at : Reader (List ℕ)
text_at bytes = option_and_then (λ count. bytes_of count.0 count.1) (dword_at bytes)

-- so many items
abbrev pub items_at : {A : Type 0} → Reader A → ℕ → Reader (List A)
items_at item zero bytes = Some ([], bytes)
items_at item (suc count) bytes = made_at (λ all. all.0 ∷ all.1) (pair_at item (items_at item count)) bytes

-- a list
abbrev pub list_at : {A : Type 0} → Reader A → Reader (List A)
list_at item bytes = option_and_then (λ count. items_at item count.0 count.1) (dword_at bytes)

-- what is found at the front of bytes takes so many of them at least
abbrev pub Takes : {A : Type 0} → ℕ → List ℕ → Option (A × List ℕ) → Type 0
Takes least bytes None = ⊤
Takes least bytes (Some found) = least + length found.1 ≤ length bytes

-- each item takes so many bytes at least
abbrev pub IsLong : {A : Type 0} → ℕ → Reader A → Type 0
IsLong least item = (bytes : List ℕ) → Takes least bytes (item bytes)
