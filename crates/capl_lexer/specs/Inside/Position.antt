-- A place with its line and its column.
use Rattle.std.specs.Prelude.{◌≡◌, ◌≢◌, ◌≤◌, ℕ, List, All, length}
use Rattle.capl_lexer.specs.Reading.{line_at, column_at}
use Rattle.capl_lexer.specs.declared.position.Position.{Position}

-- the position is of a place in the text
pub record IsPositionIn (text : List ℕ) (position : Position) : Type 0 where
  pub within : position.place ≤ length text
  pub line : position.line ≡ line_at text position.place
  pub column : position.column ≡ column_at text position.place

-- the byte ends no line
abbrev pub IsOfLine : ℕ → Type 0
IsOfLine byte = byte ≢ 10

-- none of the bytes ends a line
abbrev pub IsInLine : List ℕ → Type 0
IsInLine bytes = All IsOfLine bytes
