-- What statements said so far, as the code keeps it.
use Rattle.std.specs.Prelude.{◌≡◌, Some, None, map, Result, Ok, Err}
use Rattle.dbc_reader.specs.Database.{Said, after_statement, repeated_line}
use Rattle.dbc_statements.specs.declared.statement.Statement.{Statement}
use Rattle.dbc_reader.specs.declared.builder.Builder.{Builder}
use Rattle.dbc_reader.specs.declared.refusal.NotAdded.{NotAdded}
use Rattle.dbc_reader.specs.declared.refusal.NotAdded.TheVariants as not_added

-- what a builder keeps of statements
abbrev pub said_of : Builder → Said
said_of builder =
    record { messages = builder.messages.items; owner = builder.owner; marks = builder.marks.items }

-- its tables have the name and the identifier of each message, in order
pub record Agree (builder : Builder) : Type 0 where
  pub names : map (λ key. key.items) builder.names.keys ≡ map (λ m. m.name) builder.messages.items
  pub ids : builder.ids.keys ≡ map (λ m. m.id) builder.messages.items

-- a statement was added, or repeats what was said
abbrev pub Adds : Said → Statement → Builder → Result (Unit {0}) NotAdded → Type 0
Adds before st after (Ok _) =
    (repeated_line before st ≡ None) × (said_of after ≡ after_statement before st) × Agree after
Adds before st after (Err (not_added.Twice line)) = repeated_line before st ≡ Some line
Adds before st after (Err not_added.NoMemory) = Unit {0}
