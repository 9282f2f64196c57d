-- Formats among others.
use Rattle.std.proofs.Common.{◌≡◌, ℕ, suc, ◌+◌, List, [], ◌∷◌, ◌++◌, length, ap, ◌∙◌, arith}
use Rattle.std.specs.Prelude.{slice_get}
use Rattle.write_format.specs.Line.{FormatText}
use Rattle.typed_laws.proofs.Statements.{stand_before}
use Rattle.typed_source.specs.Statement.{StandFrom}

-- the first of two parts
pub first_part : (before : ℕ) (xs ys many : List FormatText) → StandFrom before (xs ++ ys) many → StandFrom before xs many
first_part before xs ys many there i format e = there i format (stand_before xs ys i format e)

behind : {A : Type 0} (xs ys : List A) (i : ℕ) → slice_get (xs ++ ys) (length xs + i) ≡ slice_get ys i
behind [] ys i = let e : 0 + i ≡ i = omega arith in ap (slice_get ys) e
behind (x ∷ xs) ys i =
    let e : suc (length xs) + i ≡ suc (length xs + i) = omega arith in ap (slice_get (x ∷ (xs ++ ys))) e ∙ behind xs ys i

-- the second of two parts
pub second_part : (before : ℕ) (xs ys many : List FormatText) → StandFrom before (xs ++ ys) many → StandFrom (before + length xs) ys many
second_part before xs ys many there i format e =
    let at : before + length xs + i ≡ before + (length xs + i) = omega arith in
    ap (slice_get many) at ∙ there (length xs + i) format (behind xs ys i ∙ e)
