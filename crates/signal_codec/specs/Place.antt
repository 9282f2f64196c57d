-- Where the bits of a payload stand in a word of 64 bits.
use Rattle.std.specs.Prelude.{ℕ, ◌+◌, ◌-◌, ◌*◌, ◌/◌, ◌%◌, if◌then◌else◌, List}
use Rattle.std.specs.Int.{from_be_bytes, from_le_bytes, to_be_bytes, to_le_bytes, w64}
use Rattle.signal_codec.specs.declared.layout.Layout.{Layout}

-- the place of a bit, by its number, in the word that has the last byte lowest
abbrev pub big_endian_place : ℕ → ℕ
big_endian_place number = 8 * (7 - number / 8) + number % 8

-- the same in the word of a signal's order
abbrev pub place_of : Layout → ℕ → ℕ
place_of l number = if l.big then big_endian_place number else number

-- the place of a signal's least significant bit in the word of its order
abbrev pub lowest_place : Layout → ℕ
lowest_place l = if l.big then (big_endian_place l.start + 1 - l.len) else l.start

-- the word of a signal's order
abbrev pub word_of : Layout → List ℕ → ℕ
word_of l payload = if l.big then from_be_bytes w64 payload else from_le_bytes w64 payload

-- the bytes of a word of that order
abbrev pub bytes_of : Layout → ℕ → List ℕ
bytes_of l word = if l.big then to_be_bytes w64 word else to_le_bytes w64 word
