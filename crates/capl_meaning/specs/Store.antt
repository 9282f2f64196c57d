-- What the variables of a program hold, how that stands in cells, and how many cells they need (CAPL manual,
-- variables, message).
use Rattle.std.specs.Prelude.{ℕ, List, sum_by, zero, suc, ◌+◌, ◌-◌, ◌==◌, Bool, ◌&&◌, if◌then◌else◌, nat_le, nat_lt, [], ◌∷◌, ◌++◌, filter, filter_map, flat_map, length, map, not, position, replicate, slice_index_or, Option, Some, None, unwrap_or, ℤ, pos}
use Rattle.dbc_reader.specs.declared.message.DbcMessage.{DbcMessage}
use Rattle.capl_tree.specs.declared.file.Program.{Program}
use Rattle.capl_meaning.specs.Variable.{Form, Number, Array, Message, Timer, Misfit, Variable, is_timer}
use Rattle.capl_meaning.specs.Names.{Names, names_of}
use Rattle.capl_meaning.specs.Constant.{elements_of}
use Rattle.std.specs.Str.{bytes_eq}
use Rattle.int_kinds.specs.declared.kinds.Kind.{Kind}
use Rattle.int_kinds.specs.declared.kinds.Kind.TheVariants.{Byte, Char}
use Rattle.int_kinds.specs.Arithmetic.{residue}
use Rattle.can_frame.specs.Frame.{FrameFields, data_len_of, padded}
use Rattle.signal_codec.specs.declared.layout.Layout.{Layout}
use Rattle.signal_codec.specs.Signal.{payload_with, signal_value}
use Rattle.message_cells.specs.Message.{bytes_of, message_kinds, number_at, written_can, written_dlc, written_id, written_rtr, ident_of}
use Rattle.capl_meaning.specs.declared.field.MessageField.{MessageField}
use Rattle.capl_meaning.specs.declared.field.MessageField.TheVariants.{Id, Dlc, Rtr, Can, Dir, Time}

-- ---- How many cells the variables of a program need, as they count towards its limit, which is this
-- project's own: 1 for each number variable, parameter and timer, as many as it has elements for an array,
-- and 14 for a message. The cells of the event do not count.

-- the cells of a variable with so many elements
abbrev pub size_of_form : ℕ → Form → ℕ
size_of_form elements (Number k fixed) = 1
size_of_form elements (Array k fixed size) = elements
size_of_form elements (Message type_) = 14
size_of_form elements (Timer unit) = 1
size_of_form elements Misfit = 0

-- the cells of a program
abbrev pub cells_of_program : List DbcMessage → Program → ℕ
cells_of_program base program =
    let names : Names = names_of base program in
    sum_by (λ v. size_of_form (elements_of names v) v.form) names.variables

-- ---- What the variables of a program hold, and how that stands in cells (CAPL manual, variables, message).

-- ---- messages

-- a message: identifier, length, remote bit, channel, direction, time, and 8 bytes by their numbers
pub record MessageRecord : Type 0 where
  pub id : ℤ
  pub dlc : ℤ
  pub rtr : ℤ
  pub can : ℤ
  pub dir : ℤ
  pub time : ℤ
  pub byte : ℕ → ℤ

-- so many things by their numbers, from a number on
abbrev pub row : {A : Type 0} → (ℕ → A) → ℕ → ℕ → List A
row thing from zero = []
row thing from (suc count) = thing from ∷ row thing (suc from) count

-- the cells of a message
abbrev pub message_cells : MessageRecord → List ℤ
message_cells m = m.id ∷ m.dlc ∷ m.rtr ∷ m.can ∷ m.dir ∷ m.time ∷ row m.byte 0 8

-- the payload of a message
abbrev pub payload : MessageRecord → List ℕ
payload m = map (residue Byte) (row m.byte 0 8)

-- the frame of a message, with each field brought to its range by its write rule, on channel 1
abbrev pub frame_sent : MessageRecord → FrameFields
frame_sent m =
    let remote : Bool = not (written_rtr m.rtr == 0) in
    record {
      ident = ident_of (written_id m.id);
      remote = remote;
      dlc = written_dlc m.dlc;
      payload = padded (data_len_of remote (written_dlc m.dlc)) (payload m);
      can = 1;
    }

-- the byte of a number, once bytes are put from one number on
abbrev pub byte_after : ℕ → List ℕ → (ℕ → ℤ) → ℕ → ℤ
byte_after from bytes byte j =
    if nat_le from j && nat_lt j (from + length bytes)
    then pos (slice_index_or bytes (j - from) 0) else byte j

-- a message once bytes are put in its payload, from one of them on
abbrev pub with_payload : ℕ → List ℕ → MessageRecord → MessageRecord
with_payload from bytes m = record m { byte = byte_after from bytes m.byte }

-- the number of a field
abbrev pub read_field : MessageField → MessageRecord → ℤ
read_field Id m = m.id
read_field Dlc m = m.dlc
read_field Rtr m = m.rtr
read_field Can m = m.can
read_field Dir m = m.dir
read_field Time m = m.time

-- a message once a number is stored in a field, by its write rule; direction and time are not assignable
abbrev pub with_field : MessageField → ℤ → MessageRecord → MessageRecord
with_field Id n m = record m { id = pos (written_id n) }
with_field Dlc n m = record m { dlc = pos (written_dlc n) }
with_field Rtr n m = record m { rtr = pos (written_rtr n) }
with_field Can n m = record m { can = pos (written_can n) }
with_field _ n m = m

-- payload bytes as a number of a kind, the least significant first
abbrev pub read_bytes : Kind → ℕ → MessageRecord → ℤ
read_bytes k from m = number_at k from (payload m)

-- a message once a number is stored in payload bytes, wrapped to its kind
abbrev pub with_bytes : Kind → ℕ → ℤ → MessageRecord → MessageRecord
with_bytes k from n m = with_payload from (bytes_of k n) m

-- the number of a signal
abbrev pub read_signal : Layout → MessageRecord → ℤ
read_signal l m = signal_value l (payload m)

-- a message once a number is stored in a signal: its low bits
abbrev pub with_signal : Layout → ℤ → MessageRecord → MessageRecord
with_signal l n m = with_payload 0 (payload_with l (payload m) n) m

-- ---- variables

-- which variable: its procedure, 0 for a global, and its name
pub record Key : Type 0 where
  pub owner : ℕ
  pub name : List ℕ

-- the key of a variable
abbrev pub variable_key : Variable → Key
variable_key v = record { owner = v.owner; name = v.name }

-- two keys are of one variable
abbrev pub same_key : Key → Key → Bool
same_key k j = k.owner == j.owner && bytes_eq k.name j.name

-- what each variable holds: a number, the elements of an array by their numbers, or a message; what is
-- asked of a key that is no such variable is of no use
pub record Store : Type 0 where
  pub number : Key → ℤ
  pub element : Key → ℕ → ℤ
  pub message : Key → MessageRecord

-- once a number variable holds a number
abbrev pub with_number : Key → ℤ → Store → Store
with_number k n s = record s { number = λ j. if same_key j k then n else s.number j }

-- once an element of an array holds a number
abbrev pub with_element : Key → ℕ → ℤ → Store → Store
with_element k i n s =
    record s { element = λ j at. if same_key j k && at == i then n else s.element j at }

-- once a message variable holds a message
abbrev pub with_message : Key → MessageRecord → Store → Store
with_message k m s = record s { message = λ j. if same_key j k then m else s.message j }

-- ---- cells

-- the cells of a variable of a form, with so many elements
abbrev pub cells_by : Store → Key → ℕ → Form → List ℤ
cells_by s k elements (Number kind fixed) = s.number k ∷ []
cells_by s k elements (Array kind fixed size) = row (s.element k) 0 elements
cells_by s k elements (Message type_) = message_cells (s.message k)
cells_by s k elements (Timer unit) = []
cells_by s k elements Misfit = []

-- the cells of a variable
abbrev pub cells_of : Names → Store → Variable → List ℤ
cells_of names s v = cells_by s (variable_key v) (elements_of names v) v.form

-- the cells of all variables, in program order of their declarations: 1 for a number, as many as it has
-- elements for an array, 14 for a message
abbrev pub lay : Names → Store → List ℤ
lay names s = flat_map (cells_of names s) names.variables

-- the kinds of a variable's cells
abbrev pub kinds_by : ℕ → Form → List Kind
kinds_by elements (Number kind fixed) = kind ∷ []
kinds_by elements (Array kind fixed size) = replicate elements kind
kinds_by elements (Message type_) = message_kinds
kinds_by elements (Timer unit) = []
kinds_by elements Misfit = []

-- the kinds of the cells of all variables
abbrev pub laid_kinds : Names → List Kind
laid_kinds names = flat_map (λ v. kinds_by (elements_of names v) v.form) names.variables

-- what `this` is: the frame of a message procedure, or the key of a key procedure; the other is of no use
-- there
pub record This : Type 0 where
  pub frame : MessageRecord
  pub key : ℤ

-- the cells of the event, which stand before those of the variables: the frame, and then the key
abbrev pub event_cells : This → List ℤ
event_cells this = message_cells this.frame ++ this.key ∷ []

-- the kinds of the event's cells
abbrev pub event_kinds : List Kind
event_kinds = message_kinds ++ Char ∷ []

-- ---- timers, which are numbered apart

-- the unit of a timer in microseconds
abbrev pub unit_of : Form → Option ℕ
unit_of (Timer unit) = Some unit
unit_of _ = None

-- the units of all timers, in program order of their declarations
abbrev pub timer_units : Names → List ℕ
timer_units names = filter_map (λ v. unit_of v.form) names.variables

-- the number of a timer among all timers
abbrev pub timer_number : Names → Variable → ℕ
timer_number names v =
    unwrap_or
    (position (λ u. same_key (variable_key v) (variable_key u))
    (filter (λ u. is_timer u.form) names.variables)) 0
