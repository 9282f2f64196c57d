-- Messages in expressions (CAPL manual, message; DBC format, SG_): fields, payload bytes and signals, and
-- which of them can be assigned to.
use Rattle.std.specs.Prelude.{ℕ, Bool, true, false, not, ◌&&◌, ◌||◌, if◌then◌else◌, nat_le, List, find, Option, Some, None, codes, ℤ, int_le}
use Rattle.std.specs.List.{list_any}
use Rattle.std.specs.Option.{option_and_then, option_map_or}
use Rattle.std.specs.Str.{bytes_eq}
use Rattle.int_kinds.specs.declared.kinds.Kind.{Kind}
use Rattle.int_kinds.specs.declared.kinds.Kind.TheVariants.{Byte, Word, Dword, Qword, Long, Int64}
use Rattle.int_kinds.specs.Kind.{low, high}
use Rattle.signal_codec.specs.declared.layout.Layout.{Layout}
use Rattle.signal_codec.specs.Signal.{bit_numbers, greatest_value, least_value}
use Rattle.dbc_reader.specs.declared.signals.DbcSignal.{DbcSignal}
use Rattle.capl_tree.specs.declared.expr.Expr.{Expr}
use Rattle.capl_tree.specs.declared.expr.Expr.TheVariants as expr
use Rattle.capl_tree.specs.declared.expr.Field.{Field}
use Rattle.capl_tree.specs.declared.expr.Field.TheVariants.{Named}
use Rattle.capl_tree.specs.Forms as tree
use Rattle.capl_meaning.specs.declared.field.MessageField.{MessageField}
use Rattle.capl_meaning.specs.declared.field.MessageField.TheVariants.{Id, Dlc, Rtr, Can, Dir, Time}
use Rattle.capl_meaning.specs.Variable.{Form, Number, Array, Message, MessageType, ByIdentifier, ByName, Variable}
use Rattle.capl_meaning.specs.Names.{Scope, ThisForm, ThisFrame, means, signals_by}

-- a name is this one, in lower or in upper case letters throughout
abbrev pub is_either : List ℕ → List ℕ → List ℕ → Bool
is_either lower upper name = bytes_eq name lower || bytes_eq name upper

-- the fields by their names
abbrev pub field_named : List ℕ → Option MessageField
field_named name =
    if is_either (codes "id") (codes "ID") name then Some Id
    else if is_either (codes "dlc") (codes "DLC") name then Some Dlc
    else if is_either (codes "rtr") (codes "RTR") name then Some Rtr
    else if is_either (codes "can") (codes "CAN") name then Some Can
    else if is_either (codes "dir") (codes "DIR") name then Some Dir
    else if is_either (codes "time") (codes "TIME") name then Some Time
    else None

-- the kind of a field
abbrev pub kind_of_field : MessageField → Kind
kind_of_field Id = Dword
kind_of_field Dlc = Byte
kind_of_field Rtr = Byte
kind_of_field Can = Word
kind_of_field Dir = Byte
kind_of_field Time = Dword

-- direction and time are not assignable
abbrev pub is_assignable_field : MessageField → Bool
is_assignable_field Dir = false
is_assignable_field Time = false
is_assignable_field _ = true

-- whether a kind has all numbers from the least to the greatest
abbrev pub has_all : Kind → ℤ → ℤ → Bool
has_all k least greatest = int_le (low k) least && int_le greatest (high k)

-- the first of long, dword, int64, qword that has all numbers from the least to the greatest
abbrev pub first_kind : ℤ → ℤ → Kind
first_kind least greatest =
    if has_all Long least greatest then Long
    else if has_all Dword least greatest then Dword
    else if has_all Int64 least greatest then Int64
    else Qword

-- the kind of a signal: the first of long, dword, int64, qword that holds all its values
abbrev pub kind_of_signal : Layout → Kind
kind_of_signal l = first_kind (least_value l) (greatest_value l)

-- a signal has 1 to 64 bits, and each of them is in a payload of 8 bytes
abbrev pub is_usable : Layout → Bool
is_usable l =
    nat_le 1 l.len && (nat_le l.len 64 && not (list_any (λ number. nat_le 64 number) (bit_numbers l)))

-- a signal can be used: it is usable and no float
abbrev pub can_be_used : DbcSignal → Bool
can_be_used signal = is_usable signal.layout && not signal.float

-- the signal of a name
abbrev pub signal_named : List DbcSignal → List ℕ → Option DbcSignal
signal_named signals name = find (λ signal. bytes_eq name signal.name) signals

-- a message that an expression names: the frame of a message procedure, or a message variable; each with the
-- signals of its message where it is declared by name
pub data Held : Type 0 where
  HeldFrame : Option (List DbcSignal) → Held
  HeldVariable : Variable → Option (List DbcSignal) → Held

-- the signals of a message variable, by its type
abbrev pub signals_of_type : MessageType → Option (List DbcSignal)
signals_of_type (ByIdentifier id) = None
signals_of_type (ByName m) = Some (signals_by m)

-- the message of a variable, if it is one
abbrev pub held_by : Variable → Form → Option Held
held_by v (Message type_) = Some (HeldVariable v (signals_of_type type_))
held_by v _ = None

-- the message that `this` is, if it is one
abbrev pub held_this : ThisForm → Option Held
held_this (ThisFrame signals) = Some (HeldFrame signals)
held_this _ = None

-- the message that an expression names, if it names one
abbrev pub message_in : Scope → Expr → Option Held
message_in s (tree.Paren inner at) = message_in s inner
message_in s (expr.This at) = held_this s.this
message_in s (expr.Name name at) = option_and_then (λ v. held_by v v.form) (means s name at)
message_in s _ = None

-- the signals of a message that is declared by name
abbrev pub signals_of : Held → Option (List DbcSignal)
signals_of (HeldFrame signals) = signals
signals_of (HeldVariable v signals) = signals

-- whether it is a message variable
abbrev pub is_variable : Held → Bool
is_variable (HeldFrame signals) = false
is_variable (HeldVariable v signals) = true

-- what a name behind the point of a message is: a field, a signal that can be used or one that cannot, or
-- unknown, with whether the message is declared by name; fields go before signals
pub data NamedMember : Type 0 where
  IsField : MessageField → NamedMember
  IsSignal : Layout → NamedMember
  IsUnusable : NamedMember
  IsUnknown : Bool → NamedMember

-- the member of a signal
abbrev pub member_of_signal : Option DbcSignal → NamedMember
member_of_signal None = IsUnknown true
member_of_signal (Some signal) = if can_be_used signal then IsSignal signal.layout else IsUnusable

-- the member of a name that is no field
abbrev pub member_of_signals : Option (List DbcSignal) → List ℕ → NamedMember
member_of_signals None name = IsUnknown false
member_of_signals (Some signals) name = member_of_signal (signal_named signals name)

-- the member of a name
abbrev pub member_named : Option (List DbcSignal) → List ℕ → NamedMember
member_named signals name = option_map_or IsField (field_named name) (member_of_signals signals name)

-- the array variable that an expression names, if it names one
abbrev pub array_by : Form → Variable → Option Variable
array_by (Array kind fixed size) v = Some v
array_by _ v = None

-- the same, of an expression
abbrev pub array_in : Scope → Expr → Option Variable
array_in s (tree.Paren inner at) = array_in s inner
array_in s (expr.Name name at) = option_and_then (λ v. array_by v.form v) (means s name at)
array_in s _ = None

-- a variable is a number that is not `const`
abbrev pub is_open_number : Form → Bool
is_open_number (Number kind fixed) = not fixed
is_open_number _ = false

-- a variable is an array that is not `const`
abbrev pub is_open_array : Form → Bool
is_open_array (Array kind fixed size) = not fixed
is_open_array _ = false

-- a member is an assignable field or a signal
abbrev pub is_open_member : NamedMember → Bool
is_open_member (IsField f) = is_assignable_field f
is_open_member (IsSignal layout) = true
is_open_member _ = false

-- a part of a message is an assignable field, payload bytes or a signal
abbrev pub is_open_field : Option (List DbcSignal) → Field → Bool
is_open_field signals (Named name at) = is_open_member (member_named signals name)
is_open_field signals (tree.Bytes kind index at) = true

-- a part of a message variable is assignable, and none of a frame
abbrev pub is_open_part : Field → Held → Bool
is_open_part field (HeldFrame signals) = false
is_open_part field (HeldVariable v signals) = is_open_field signals field

-- an expression is an assignable place of a number: a number variable or parameter that is not `const`, an
-- element of an array that is not `const`, or an assignable field, payload bytes or a signal of a message
-- variable
abbrev pub is_number_place : Scope → Expr → Bool
is_number_place s (tree.Paren inner at) = is_number_place s inner
is_number_place s (expr.Name name at) = option_map_or (λ v. is_open_number v.form) (means s name at) false
is_number_place s (tree.Index base index at) =
    option_map_or (λ v. is_open_array v.form) (array_in s base) false
is_number_place s (tree.Member base field at) = option_map_or (is_open_part field) (message_in s base) false
is_number_place s _ = false

-- an expression is a message variable
abbrev pub is_message_place : Scope → Expr → Bool
is_message_place s e = option_map_or is_variable (message_in s e) false
