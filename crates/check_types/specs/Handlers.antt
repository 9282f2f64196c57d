-- What event procedures are made by.
use Rattle.std.specs.Prelude.{ℕ, List, map}
use Rattle.check_types.specs.declared.handlers.Source.{Source}

-- the lines of the tokens of each file
abbrev pub lines_of : Source → List (List ℕ)
lines_of source = map (λ row. row.items) source.lines.now
