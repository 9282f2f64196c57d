-- The database of a program.
use Rattle.std.specs.Prelude.{List, [], Option, Some, None}
use Rattle.std.specs.Borrow.{Bor}
use Rattle.dbc_reader.specs.declared.message.DbcMessage.{DbcMessage}

-- the messages of a database, if there is one
abbrev pub messages_of : Option (Bor (List DbcMessage)) → List DbcMessage
messages_of None = []
messages_of (Some database) = database.now
