-- How large numbers of few digits are.
use Rattle.std.proofs.Common.{ℕ, ◌^◌, ◌<◌, ◌≤◌, List, length, arith}
use Rattle.std.specs.Prelude.{All}
use Rattle.std.proofs.Math.Nat.{pow-le-pow_right}
use Rattle.text_parts.specs.Number.{IsHexDigit, number_in}
use Rattle.text_parts.proofs.NumberLemmas.{number_in-lt, hexadecimal_below}

-- so many hexadecimal digits stand for less than that power of sixteen
pub hexadecimal_lt : (digits : List ℕ) (count : ℕ) → All IsHexDigit digits → length digits ≤ count → number_in 16 digits < 16 ^ count
hexadecimal_lt digits count all short =
    let below = number_in-lt 16 digits (hexadecimal_below digits all) in
    let power : 16 ^ length digits ≤ 16 ^ count = pow-le-pow_right {n = 16} (omega arith) short in
    omega (arith, below, power)
