-- What writing a piece does to the bytes that a writer holds.
use Rattle.std.specs.Prelude.{ℕ, List, take, Option}
use Rattle.std.specs.Io.KnownBytes.{Appends}

-- the bytes have grown by some of the piece, from its beginning on, where they are told
abbrev pub AppendsBeginning : Option (List ℕ) → Option (List ℕ) → List ℕ → Type 0
AppendsBeginning old new piece = (count : ℕ) × Appends old new (take count piece)
