-- The lines of a text: a line feed (byte 10) ends each, and the last may go without, as POSIX has
-- text files but for their last line.
use Rattle.std.specs.Prelude.{ℕ, Bool, true, false, List, [], ◌∷◌, ◌==◌, if◌then◌else◌}
use Rattle.std.specs.List.{onto_first}

-- the pieces of a text up to each line feed, and what stands behind the last, where that is not empty
abbrev pub text_lines : List ℕ → List (List ℕ)
text_lines [] = []
text_lines (byte ∷ bytes) = if byte == 10 then [] ∷ text_lines bytes else onto_first byte (text_lines bytes)

-- what ends a line: a line feed, or nothing
abbrev pub line_end : Bool → List ℕ
line_end true = 10 ∷ []
line_end false = []
