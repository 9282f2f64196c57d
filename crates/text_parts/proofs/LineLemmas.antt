-- The first line of a text, up to its first line feed.
use Rattle.std.proofs.Common.{◌≡◌, ℕ, Bool, zero, suc, ◌<◌, true, false, List, [], ◌∷◌, take, drop, length, get_or, refl, arith, ◌==◌}
use Rattle.text_parts.specs.Line.{text_lines}

-- a text with a line feed: what stands before the first one, and the lines behind it
pub lines_of-at : (text : List ℕ) (k : ℕ) → k < length text → ((j : ℕ) → j < k → (get_or text j 0 == 10) ≡ false)
    → (get_or text k 0 == 10) ≡ true → text_lines text ≡ take k text ∷ text_lines (drop (suc k) text)
lines_of-at [] k within before at = absurd (omega (arith, within))
lines_of-at (byte ∷ bytes) zero within before at = rw at refl
lines_of-at (byte ∷ bytes) (suc k) within before at =
    let other : (byte == 10) ≡ false = before 0 (omega arith) in
    let rest = lines_of-at bytes k (omega (arith, within)) (λ j below. before (suc j) (omega (arith, below))) at in
    rw (other, rest) refl

-- a text without one is its only line
pub lines_of-one : (text : List ℕ) → 0 < length text → ((j : ℕ) → j < length text → (get_or text j 0 == 10) ≡ false)
    → text_lines text ≡ text ∷ []
lines_of-one [] some before = absurd (omega (arith, some))
lines_of-one (byte ∷ []) some before = let other : (byte == 10) ≡ false = before 0 (omega arith) in rw other refl
lines_of-one (byte ∷ next ∷ bytes) some before =
    let other : (byte == 10) ≡ false = before 0 (omega arith) in
    let rest = lines_of-one (next ∷ bytes) (omega arith) (λ j below. before (suc j) (omega (arith, below))) in
    rw (other, rest) refl

-- a test that does not hold
pub not_true : (b : Bool) → (b ≡ true → ⊥) → b ≡ false
not_true true h = absurd (h refl)
not_true false h = refl
