-- The messages that a scenario's node sees.
use Rattle.std.specs.Prelude.{List, [], Option, Some, None}
use Rattle.dbc_reader.specs.declared.message.DbcMessage.{DbcMessage}

-- the messages of a database, if there is one
abbrev pub messages_in : Option (List DbcMessage) → List DbcMessage
messages_in None = []
messages_in (Some base) = base
