-- Congruence of whole numbers.
use Rattle.std.specs.Prelude.{◌≡◌, ℕ, ℤ, pos, ◌+ℤ◌, ◌*ℤ◌}

-- a and b are congruent modulo m: some whole number of times m lies between them
pub record Congruent (m : ℕ) (a b : ℤ) : Type 0 where
  pub times : ℤ
  pub apart : a ≡ b +ℤ times *ℤ pos m
