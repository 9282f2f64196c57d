-- The lines of the tokens of a program's files.
use Rattle.std.specs.Prelude.{ℕ, List, slice_get, unwrap_or}
use Rattle.std.specs.Option.{option_and_then}

-- the line of a token of a file, by the lines of the tokens of each file; 0 where there is no such token
abbrev pub line_in : List (List ℕ) → ℕ → ℕ → ℕ
line_in lines file token = unwrap_or (option_and_then (λ row. slice_get row token) (slice_get lines file)) 0
