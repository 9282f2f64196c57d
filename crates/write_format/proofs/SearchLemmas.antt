-- The first place of a byte.
use Rattle.std.proofs.Common.{◌≡◌, ◌≤◌, ℕ, Bool, true, false, not, List, length, refl, sym, arith, Option, Some, None}
use Rattle.std.specs.Prelude.{◌==◌}
use Rattle.std.specs.List.{position_or_len}
use Rattle.std.specs.Option.{unwrap_or}
use Rattle.std.proofs.lemmas.List.Sums.{position_or_len_is, prefix_len-le-length}
use Rattle.memchr.specs.Find.{IsFirstByte, is_byte}

-- what is not true is false
is_false : (b : Bool) → (b ≡ true → ⊥) → b ≡ false
is_false true other = absurd (other refl)
is_false false other = refl

-- the place that a search finds
pub place_found : (byte : ℕ) (bytes : List ℕ) (found : Option ℕ) → IsFirstByte (is_byte byte) bytes found
    → unwrap_or found (length bytes) ≡ position_or_len (λ other. other == byte) bytes
place_found byte bytes None nowhere =
    sym (position_or_len_is (λ other. other == byte) bytes (length bytes) 0 (omega arith) (λ k low. is_false _ (nowhere k (omega arith) low))
    (λ more. absurd (omega (arith, more))))
place_found byte bytes (Some k) first =
    let high = (first.0).high in
    sym (position_or_len_is (λ other. other == byte) bytes k 0 (omega (arith, high)) (λ n low. is_false _ ((first.0).before n (omega arith) low)) (λ more. first.1))

-- it is within the bytes, or right behind them
pub place_inside : (byte : ℕ) (bytes : List ℕ) (found : Option ℕ) (place : ℕ) → IsFirstByte (is_byte byte) bytes found
    → place ≡ unwrap_or found (length bytes) → place ≤ length bytes
place_inside byte bytes found place first is =
    let at = place_found byte bytes found first in
    let le = prefix_len-le-length (λ other. not (other == byte)) bytes in
    omega (arith, is, at, le)
