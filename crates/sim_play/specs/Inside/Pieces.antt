-- What was written after an entry.
use Rattle.std.specs.Prelude.{◌≡◌, ◌⊎◌, ℕ, List, Option, None, Some}
use Rattle.sim_outside.specs.Sink.{GrowsBy, GrowsByPrefix}

-- what was written after an entry that was taken: its piece more, or the same where nothing is shown of it
abbrev pub WritesPiece : Option (List ℕ) → Option (List ℕ) → Option (List ℕ) → Type 0
WritesPiece old new None = new ≡ old
WritesPiece old new (Some piece) = GrowsBy old new piece

-- what was written after an entry that was refused: the same, or the beginning of its piece more
abbrev pub RefusesPiece : Option (List ℕ) → Option (List ℕ) → Option (List ℕ) → Type 0
RefusesPiece old new None = new ≡ old
RefusesPiece old new (Some piece) = (new ≡ old) ⊎ GrowsByPrefix old new piece
