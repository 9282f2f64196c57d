-- How what was written grows.
use Rattle.std.specs.Prelude.{◌≡◌, ℕ, List, ◌++◌, take, Option, Result, MatchResult}
use Rattle.std.specs.Option.{option_map}

-- what was written has grown by this piece, where it is told
abbrev pub GrowsBy : Option (List ℕ) → Option (List ℕ) → List ℕ → Type 0
GrowsBy old new piece = new ≡ option_map (λ bytes. bytes ++ piece) old

-- it has grown by some of the piece, from its beginning on
abbrev pub GrowsByPrefix : Option (List ℕ) → Option (List ℕ) → List ℕ → Type 0
GrowsByPrefix old new piece = (count : ℕ) × GrowsBy old new (take count piece)

-- it has grown by this piece, or after a refusal by some of it, from its beginning on
abbrev pub Writes : {A E : Type 0} → Option (List ℕ) → Option (List ℕ) → List ℕ → Result A E → Type 0
Writes old new piece result =
    MatchResult result (λ done. GrowsBy old new piece) (λ refusal. GrowsByPrefix old new piece)
