-- What the variables hold before the measurement (CAPL manual, variables, arrays, message): 0 unless given.
use Rattle.std.specs.Prelude.{ℕ, List, [], find, fold, slice_get, slice_index_or, Option, Some, None, ℤ, pos, negsuc, unwrap_or}
use Rattle.std.specs.Option.{option_map_or}
use Rattle.int_kinds.specs.declared.kinds.Kind.{Kind}
use Rattle.int_kinds.specs.Kind.{wrap}
use Rattle.dbc_reader.specs.declared.signals.DbcSignal.{DbcSignal}
use Rattle.capl_tree.specs.declared.declaration.Init.{Init}
use Rattle.capl_tree.specs.declared.declaration.Init.TheVariants.{One, Many}
use Rattle.capl_tree.specs.declared.declaration.Item.{Item}
use Rattle.capl_tree.specs.declared.declaration.Item.TheVariants.{Plain, Set}
use Rattle.capl_tree.specs.declared.expr.Expr.{Expr}
use Rattle.capl_tree.specs.declared.expr.Field.{Field}
use Rattle.capl_tree.specs.declared.expr.Field.TheVariants.{Named}
use Rattle.capl_tree.specs.Forms as tree
use Rattle.capl_meaning.specs.Variable.{Form, Number, Array, Message, MessageType, ByIdentifier, ByName, Variable}
use Rattle.capl_meaning.specs.Names.{Names, Scope}
use Rattle.capl_meaning.specs.Format.{quoted_text}
use Rattle.capl_meaning.specs.Message.{NamedMember, IsField, IsSignal, member_named, signals_of_type}
use Rattle.capl_meaning.specs.Constant.{constant_at, first_number, known_before, scope_of}
use Rattle.capl_meaning.specs.Store.{Key, MessageRecord, Store, variable_key, same_key, with_bytes, with_field, with_signal}

-- the number of a constant; 0 where it is none, which no accepted program has
abbrev pub constant_number : Scope → ℕ → Expr → ℤ
constant_number s token e = unwrap_or (constant_at s token e) (pos 0)

-- the number of an element, by its item
abbrev pub number_of_item : Scope → ℕ → Kind → Option Item → ℤ
number_of_item s token k (Some (Plain value)) = wrap k (constant_number s token value)
number_of_item s token k _ = pos 0

-- the byte of a text, by its number; behind its end 0
abbrev pub number_of_text : ℕ → Option (List ℕ) → ℤ
number_of_text i None = pos 0
number_of_text i (Some text) = pos (slice_index_or text i 0)

-- the first value of an element of an array: its item, wrapped to its kind, or a byte of a text; what is left
-- is 0
abbrev pub first_element : Scope → ℕ → Kind → Option Init → ℕ → ℤ
first_element s token k (Some (Many items at)) i = number_of_item s token k (slice_get items i)
first_element s token k (Some (One e)) i = number_of_text i (quoted_text e)
first_element s token k None i = pos 0

-- a message with this identifier and length: can is 1, the rest 0
abbrev pub plain_message : ℕ → ℕ → MessageRecord
plain_message id dlc = record {
  id = pos id;
  dlc = pos dlc;
  rtr = pos 0;
  can = pos 1;
  dir = pos 0;
  time = pos 0;
  byte = λ j. pos 0;
}

-- a message as it is declared: by number or `*` it has length 8, by name the database's identifier and length
abbrev pub declared_message : MessageType → MessageRecord
declared_message (ByIdentifier id) = plain_message id 8
declared_message (ByName None) = plain_message 0 8
declared_message (ByName (Some m)) = plain_message m.id m.len

-- a message once a number is stored in a member
abbrev pub with_member : NamedMember → ℤ → MessageRecord → MessageRecord
with_member (IsField f) n m = with_field f n m
with_member (IsSignal layout) n m = with_signal layout n m
with_member _ n m = m

-- a message once a number is stored in payload bytes, where there is such an index
abbrev pub with_bytes_at : Kind → ℤ → ℤ → MessageRecord → MessageRecord
with_bytes_at k (pos i) n m = with_bytes k i n m
with_bytes_at k (negsuc i) n m = m

-- a message once a number is stored in a field, payload bytes or a signal
abbrev pub with_field_item : Scope → ℕ → Option (List DbcSignal) → Field → ℤ → MessageRecord → MessageRecord
with_field_item s token signals (Named name at) n m = with_member (member_named signals name) n m
with_field_item s token signals (tree.Bytes k index at) n m =
    with_bytes_at k (constant_number s token index) n m

-- a message once an item is written
abbrev pub with_item : Scope → ℕ → Option (List DbcSignal) → MessageRecord → Item → MessageRecord
with_item s token signals m (Plain value) = m
with_item s token signals m (Set field value) =
    with_field_item s token signals field (constant_number s token value) m

-- the items of an initialiser
abbrev pub initial_items : Option Init → List Item
initial_items (Some (Many items at)) = items
initial_items _ = []

-- the first value of a message: as it is declared, and then its items in order, each by the write rule of its
-- field, payload or signal
abbrev pub first_message : Scope → ℕ → MessageType → Option Init → MessageRecord
first_message s token type_ init =
    fold (with_item s token (signals_of_type type_)) (declared_message type_) (initial_items init)

-- the first number of a variable
abbrev pub number_of_form : Names → Variable → Form → ℤ
number_of_form names v (Number k fixed) =
    first_number (known_before (scope_of names v) v.token) (scope_of names v) k v.init
number_of_form names v _ = pos 0

-- the first elements of a variable
abbrev pub element_of_form : Names → Variable → ℕ → Form → ℤ
element_of_form names v i (Array k fixed size) = first_element (scope_of names v) v.token k v.init i
element_of_form names v i _ = pos 0

-- the first message of a variable
abbrev pub message_of_form : Names → Variable → Form → MessageRecord
message_of_form names v (Message type_) = first_message (scope_of names v) v.token type_ v.init
message_of_form names v _ = plain_message 0 8

-- the variable of a key
abbrev pub variable_of : Names → Key → Option Variable
variable_of names key = find (λ v. same_key key (variable_key v)) names.variables

-- what the variables hold at first
abbrev pub first_store : Names → Store
first_store names = record {
  number = λ key. option_map_or (λ v. number_of_form names v v.form) (variable_of names key) (pos 0);
  element = λ key i. option_map_or (λ v. element_of_form names v i v.form) (variable_of names key) (pos 0);
  message =
      λ key. option_map_or (λ v. message_of_form names v v.form) (variable_of names key) (plain_message 0 8);
}
