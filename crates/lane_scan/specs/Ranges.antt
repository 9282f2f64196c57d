-- Ranges of numbers, each with its least and its greatest number.
use Rattle.std.specs.Prelude.{ℕ, nat_le, Bool, ◌&&◌}

-- whether the key is in the range
abbrev pub holds : ℕ → ℕ × ℕ → Bool
holds key range = nat_le range.0 key && nat_le key range.1
