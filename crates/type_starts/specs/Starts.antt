-- Cells with their first numbers, as they are listed.
use Rattle.std.specs.Prelude.{◌≡◌, ◌+◌, List, ◌++◌, length, ℤ}
use Rattle.typed_source.specs.Program.{starts_from}
use Rattle.type_starts.specs.declared.starts.Starts.{Starts}

-- these numbers were put in the next cells
pub record Goes (before after : Starts) (numbers : List ℤ) : Type 0 where
  pub all : after.all.items ≡ before.all.items ++ starts_from before.cell numbers
  pub cell : after.cell ≡ before.cell + length numbers
