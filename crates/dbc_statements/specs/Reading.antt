-- What a function that reads a part of a statement gives.
use Rattle.std.specs.Prelude.{◌≡◌, List, Some, None, Result, Ok, Err}
use Rattle.dbc_statements.specs.Token.{Placed}
use Rattle.dbc_statements.specs.Statement.{Read}
use Rattle.dbc_statements.specs.declared.unread.Unread.{Unread}
use Rattle.dbc_statements.specs.declared.unread.Unread.TheVariants as unread

-- the reading's outcome, unless memory fails; a value is seen by the view
abbrev pub Gives : {X Y : Type 0} → (X → Y) → Read Y → Result X Unread → List Placed → Type 0
Gives view read (Ok value) behind = read ≡ Some (view value, behind)
Gives view read (Err unread.NotSpelled) behind = read ≡ None
Gives view read (Err unread.NoMemory) behind = Unit {0}
