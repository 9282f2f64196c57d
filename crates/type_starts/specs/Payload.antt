-- Bytes that are put in a payload.
use Rattle.std.specs.Prelude.{ℕ, ◌+◌, ◌-◌, ◌&&◌, if◌then◌else◌, nat_le, nat_lt, List, length, slice_index}

-- the byte of a number, once bytes are put in a payload from one of its bytes on
abbrev pub byte_put : ℕ → List ℕ → List ℕ → ℕ → ℕ
byte_put from bytes old k =
    if nat_le from k && nat_lt k (from + length bytes) then slice_index bytes (k - from)
    else slice_index old k
