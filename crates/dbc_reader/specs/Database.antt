-- The database of a text: its messages with their signals (the DBC file format's BO_, SG_ and
-- SIG_VALTYPE_), and why a text has none. This project's own: that a name or an identifier for the
-- second time is refused, and that the message which holds signals of no message is dropped.
use Rattle.std.specs.Prelude.{◌≡◌, ◌≢◌, ℕ, Bool, true, false, ◌&&◌, ◌==◌, nat_eq, if◌then◌else◌, List, [], ◌∷◌, ◌++◌, map, fold, Option, Some, None, AllPairs, All, codes}
use Rattle.std.specs.List.{list_any}
use Rattle.std.specs.Str.{bytes_eq}
use Rattle.signal_codec.specs.declared.layout.Layout.{Layout}
use Rattle.dbc_statements.specs.Token.{Placed, tokens_of, first_line}
use Rattle.dbc_statements.specs.Statement.{statement_at}
use Rattle.dbc_statements.specs.declared.statement.Statement.{Statement}
use Rattle.dbc_statements.specs.declared.statement.Statement.TheVariants as statement
use Rattle.dbc_statements.specs.declared.statement.FloatMark.{FloatMark}
use Rattle.dbc_reader.specs.declared.owner.Owner.{Owner}
use Rattle.dbc_reader.specs.declared.owner.Owner.TheVariants as owner
use Rattle.dbc_reader.specs.declared.signals.DbcSignal.{DbcSignal}
use Rattle.dbc_reader.specs.declared.message.DbcMessage.{DbcMessage}
use Rattle.dbc_reader.specs.declared.refusal.DbcRefusal.{DbcRefusal}
use Rattle.dbc_reader.specs.declared.refusal.DbcRefusal.TheVariants as refusal

-- what statements said so far: the messages, whom a signal belongs to, and the marks of floats
pub record Said : Type 0 where
  pub messages : List DbcMessage
  pub owner : Owner
  pub marks : List FloatMark

-- nothing
abbrev pub nothing_said : Said
nothing_said = record { messages = []; owner = owner.Nobody; marks = [] }

-- whether a message stood before
abbrev pub has_owner : Owner → Bool
has_owner owner.Nobody = false
has_owner _ = true

-- whether it is the message that tools write to hold the signals of no message
abbrev pub is_independent : ℕ → List ℕ → Bool
is_independent id name = id == 3221225472 && bytes_eq name (codes "VECTOR__INDEPENDENT_SIG_MSG")

-- the names of signals
abbrev pub signal_names : List DbcSignal → List (List ℕ)
signal_names signals = map (λ s. s.name) signals

-- the signals of the last message
abbrev pub last_signals : List DbcMessage → List DbcSignal
last_signals [] = []
last_signals (m ∷ []) = m.signals
last_signals (m ∷ n ∷ ms) = last_signals (n ∷ ms)

-- the messages, the last with one more signal
abbrev pub with_further_signal : List DbcMessage → DbcSignal → List DbcMessage
with_further_signal [] signal = []
with_further_signal (m ∷ []) signal = record m { signals = m.signals ++ signal ∷ [] } ∷ []
with_further_signal (m ∷ n ∷ ms) signal = m ∷ with_further_signal (n ∷ ms) signal

-- a message without signals
abbrev pub bare : ℕ → List ℕ → ℕ → DbcMessage
bare id name len = record { id = id; name = name; len = len; signals = [] }

-- a signal that no mark makes a float
abbrev pub unmarked : List ℕ → Layout → DbcSignal
unmarked name layout = record { name = name; layout = layout; float = false }

-- with one more signal, where it belongs to the last message
abbrev pub after_signal : Said → Owner → DbcSignal → Said
after_signal said owner.LastMessage signal =
    record said { messages = with_further_signal said.messages signal }
after_signal said _ signal = said

-- what is said, and then a statement
abbrev pub after_statement : Said → Statement → Said
after_statement said (statement.Message id id_line name name_line len) =
    if is_independent id name then record said { owner = owner.Dropped }
    else record said { messages = said.messages ++ bare id name len ∷ []; owner = owner.LastMessage }
after_statement said (statement.Signal name layout line) = after_signal said said.owner (unmarked name layout)
after_statement said (statement.Float mark) = record said { marks = said.marks ++ mark ∷ [] }
after_statement said statement.Other = said

-- the line of a signal's name that the last message has, if the signal belongs to it
abbrev pub repeated_signal : Said → Owner → DbcSignal → ℕ → Option ℕ
repeated_signal said owner.LastMessage signal line =
    if list_any (bytes_eq signal.name) (signal_names (last_signals said.messages)) then Some line else None
repeated_signal said _ signal line = None

-- the line of the identifier or name that a statement gives for the second time, if it does
abbrev pub repeated_line : Said → Statement → Option ℕ
repeated_line said (statement.Message id id_line name name_line len) =
    if is_independent id name then None
    else if list_any (nat_eq id) (map (λ m. m.id) said.messages) then Some id_line
    else if list_any (bytes_eq name) (map (λ m. m.name) said.messages) then Some name_line
    else None
repeated_line said (statement.Signal name layout line) =
    repeated_signal said said.owner (unmarked name layout) line
repeated_line said _ = None

-- the tokens begin with these statements, none of which repeats what those before it gave; they lead to
-- what is said after them, and leave the rest
abbrev pub Lead : Said → List Placed → List Statement → Said → List Placed → Type 0
Lead before tokens [] after rest = (after ≡ before) × (rest ≡ tokens)
Lead before tokens (st ∷ sts) after rest =
    (behind : List Placed) × (statement_at (has_owner before.owner) tokens ≡ Some (st, behind))
    × (repeated_line before st ≡ None) × Lead (after_statement before st) behind sts after rest

-- the first that passes is changed
abbrev pub change_first : {X : Type 0} → (X → Bool) → (X → X) → List X → List X
change_first passes change [] = []
change_first passes change (x ∷ xs) = if passes x then change x ∷ xs else x ∷ change_first passes change xs

-- the signals, of which the one with this name is a float
abbrev pub with_float : List ℕ → List DbcSignal → List DbcSignal
with_float name signals = change_first (λ s. bytes_eq name s.name) (λ s. record s { float = true }) signals

-- the messages, in which the marked signal is a float, if there is one
abbrev pub with_mark : List DbcMessage → FloatMark → List DbcMessage
with_mark messages mark =
    change_first (λ m. nat_eq mark.id m.id)
    (λ m. record m { signals = with_float mark.name m.signals }) messages

-- the messages of what is said in all
abbrev pub messages_of : Said → List DbcMessage
messages_of said = fold with_mark said.messages said.marks

-- the text is a sequence of statements, which say these messages
abbrev pub IsDatabase : List ℕ → List DbcMessage → Type 0
IsDatabase text messages =
    (statements : List Statement) × (said : Said) × Lead nothing_said (tokens_of text) statements said []
    × (messages ≡ messages_of said)

-- behind statements that are well the rest of the text is wrong in this way
abbrev pub IsWrong : List ℕ → (Said → List Placed → Type 0) → Type 0
IsWrong text Wrong =
    (statements : List Statement) × (said : Said) × (rest : List Placed)
    × Lead nothing_said (tokens_of text) statements said rest × Wrong said rest

-- no statement is spelled here, and the next token begins in this line
abbrev pub IsUnspelled : ℕ → Said → List Placed → Type 0
IsUnspelled line said rest = (statement_at (has_owner said.owner) rest ≡ None) × (first_line rest ≡ Some line)

-- the statement here gives an identifier or a name for the second time, which stands in this line
abbrev pub IsRepeated : ℕ → Said → List Placed → Type 0
IsRepeated line said rest =
    (st : Statement) × (behind : List Placed)
    × (statement_at (has_owner said.owner) rest ≡ Some (st, behind)) × (repeated_line said st ≡ Some line)

-- the refusal says what is wrong with the text, if it says anything
abbrev pub IsDatabaseRefusal : List ℕ → DbcRefusal → Type 0
IsDatabaseRefusal text (refusal.Text line) = IsWrong text (IsUnspelled line)
IsDatabaseRefusal text (refusal.Twice line) = IsWrong text (IsRepeated line)
IsDatabaseRefusal text refusal.NoMemory = Unit {0}

-- no two messages have one name or one identifier, and no two signals of a message one name
pub record AreDistinct (messages : List DbcMessage) : Type 0 where
  pub names : AllPairs ◌≢◌ (map (λ m. m.name) messages)
  pub ids : AllPairs ◌≢◌ (map (λ m. m.id) messages)
  pub signals : All (λ m. AllPairs ◌≢◌ (signal_names m.signals)) messages
