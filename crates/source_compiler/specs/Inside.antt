-- What the code goes by on its way.
use Rattle.std.specs.Prelude.{◌≡◌, ℕ, List, map}
use Rattle.capl_include.specs.declared.expanded.SourceFile.{SourceFile}
use Rattle.source_compiler.specs.Source.{lines_of}

-- the columns of the tokens of each file
abbrev pub columns_of : List SourceFile → List (List ℕ)
columns_of files = map (λ file. map (λ token. token.column) file.tokens) files

-- these are the names of files, and the lines and columns of their tokens
abbrev pub ArePlacesOf : List SourceFile → List (List ℕ) → List (List ℕ) → List (List ℕ) → Type 0
ArePlacesOf files names lines columns =
    (names ≡ map (λ file. file.name) files) × (lines ≡ lines_of files) × (columns ≡ columns_of files)
