-- The identifiers by which messages are declared.
use Rattle.std.specs.Prelude.{◌<◌, ◌^◌, ⊤}
use Rattle.capl_meaning.specs.Variable.{Form, Message, MessageType, ByIdentifier, ByName}

-- a message that is declared by an identifier has one below 2^64
abbrev pub HasShortIdentifier : MessageType → Type 0
HasShortIdentifier (ByIdentifier id) = id < 2 ^ 64
HasShortIdentifier (ByName m) = ⊤

-- what is declared has a short identifier, if it is a message
abbrev pub IsDeclaredShort : Form → Type 0
IsDeclaredShort (Message type_) = HasShortIdentifier type_
IsDeclaredShort _ = ⊤
