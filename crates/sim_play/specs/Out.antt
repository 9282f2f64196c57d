-- The only way to a sink.
use Rattle.std.specs.Prelude.{◌≡◌, ◌⊎◌, ℕ, Bool, false, List, [], ◌∷◌}

-- a sink, whether an answer was written, and whether a run was played
pub record OutState (S : Type 0) : Type 0 where
  pub sink : S
  pub answered : Bool
  pub played : Bool

-- a piece begins as an answer does, and as no line of a run: with `r`, `o`, `b` or `C`
abbrev pub BeginsAnswer : List ℕ → Type 0
BeginsAnswer [] = ⊥
BeginsAnswer (first ∷ piece) = (first ≡ 114) ⊎ (first ≡ 111) ⊎ (first ≡ 98) ⊎ (first ≡ 67)

-- nothing was written
pub record IsUnused {S : Type 0} (out : OutState S) : Type 0 where
  pub not_answered : out.answered ≡ false
  pub not_played : out.played ≡ false
