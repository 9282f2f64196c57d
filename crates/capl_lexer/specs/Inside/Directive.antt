-- What begins with `#`.
use Rattle.std.specs.Prelude.{◌≡◌, ℕ, List, [], ◌∷◌, ◌++◌}
use Rattle.capl_lexer.specs.Spelling.{IsInclude}

-- the text begins with `#`
abbrev pub IsHash : List ℕ → Type 0
IsHash [] = ⊥
IsHash (byte ∷ bytes) = byte ≡ 35

-- no name of an included file stands at the front
abbrev pub HasNoInclude : List ℕ → Type 0
HasNoInclude text = (bytes after name : List ℕ) → text ≡ bytes ++ after → IsInclude bytes name → ⊥
