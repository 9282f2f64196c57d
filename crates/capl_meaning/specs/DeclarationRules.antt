-- The rules that declarations and their initialisers break (CAPL manual, variables, arrays, message, timers;
-- DBC format, BO_).
use Rattle.std.specs.Prelude.{ℕ, ◌-◌, Bool, true, false, not, ◌&&◌, nat_le, nat_lt, List, [], ◌∷◌, ◌++◌, flat_map, length, is_some, Option, Some, None, ℤ, pos, negsuc, ◌^◌, ◌||◌, if◌then◌else◌}
use Rattle.std.specs.Option.{option_map_or}
use Rattle.int_kinds.specs.declared.kinds.Kind.{Kind}
use Rattle.message_cells.specs.Message.{size}
use Rattle.dbc_reader.specs.declared.signals.DbcSignal.{DbcSignal}
use Rattle.capl_tree.specs.declared.declaration.Init.{Init}
use Rattle.capl_tree.specs.declared.declaration.Init.TheVariants.{One, Many}
use Rattle.capl_tree.specs.declared.declaration.Item.{Item}
use Rattle.capl_tree.specs.declared.declaration.Item.TheVariants.{Plain, Set}
use Rattle.capl_tree.specs.declared.expr.Expr.{Expr}
use Rattle.capl_tree.specs.declared.expr.Field.{Field}
use Rattle.capl_tree.specs.declared.expr.Field.TheVariants.{Named}
use Rattle.capl_tree.specs.Place.{expression_place}
use Rattle.capl_meaning.specs.declared.offence.Offence.{Offence}
use Rattle.capl_meaning.specs.Variable.{Form, Number, Array, Message, Misfit, Timer, form_of, message_named}
use Rattle.capl_meaning.specs.Names.{Scope}
use Rattle.capl_meaning.specs.Format.{quoted_text}
use Rattle.capl_meaning.specs.Message.{NamedMember, IsField, IsSignal, IsUnusable, IsUnknown, is_assignable_field, member_named, signals_of_type}
use Rattle.capl_meaning.specs.Sort.{is_bad, sort_of}
use Rattle.capl_meaning.specs.Constant.{constant_at, length_at, array_length}
use Rattle.capl_meaning.specs.ExpressionRules.{broken_where, offence, offences, offences_of_field}
use Rattle.dbc_reader.specs.declared.message.DbcMessage.{DbcMessage}
use Rattle.capl_tree.specs.declared.declaration.Decl.{Decl}
use Rattle.capl_tree.specs.declared.declaration.DeclType.{DeclType}
use Rattle.capl_tree.specs.declared.declaration.Declr.{Declr}
use Rattle.int_kinds.specs.declared.kinds.Kind.TheVariants as kind
use Rattle.capl_tree.specs.Forms as tree
use Rattle.capl_tree.specs.declared.declaration.DeclType.TheVariants as decl_type

-- ---- The rules that initialisers break (CAPL manual, variables, arrays, message). A number takes a
-- constant; an array takes elements, or one of char a text; a message takes fields, payload bytes and
-- signals.

-- E19: a constant is needed and the expression is none, or divides by zero; the constants are those declared
-- before a token
abbrev pub constant_needed : Scope → ℕ → Expr → List Offence
constant_needed s token e =
    broken_where (not (is_bad (sort_of s e)) && not (is_some (constant_at s token e)))
    s (expression_place e) 19

-- an expression of which a constant is needed
abbrev pub constant_offences : Scope → ℕ → Expr → List Offence
constant_offences s token e = offences s e ++ constant_needed s token e

-- more than there may be, where it is known how many may
abbrev pub is_above : Option ℕ → ℕ → Bool
is_above None n = false
is_above (Some most) n = nat_lt most n

-- E27: one value for an array, which is not a text for characters with enough elements
abbrev pub one_for_array : Scope → ℕ → Kind → Option ℕ → Option (List ℕ) → List Offence
one_for_array s at kind.Char elements (Some text) = broken_where (is_above elements (length text)) s at 27
one_for_array s at _ elements _ = offence s at 27 ∷ []

-- E27: one value for a number is a text; else E19
abbrev pub one_for_number : Scope → ℕ → Expr → Option (List ℕ) → List Offence
one_for_number s token e (Some text) = offence s (expression_place e) 27 ∷ []
one_for_number s token e None = constant_needed s token e

-- the rules of one value for a variable that is declared at a token
abbrev pub one_rules : Scope → ℕ → Form → Expr → List Offence
one_rules s token (Number k fixed) e = one_for_number s token e (quoted_text e)
one_rules s token (Array k fixed size) e =
    one_for_array s (expression_place e) k (length_at s token size) (quoted_text e)
one_rules s token Misfit e = []
one_rules s token _ e = offence s (expression_place e) 27 ∷ []

-- an item of an initialiser of an array: E19, or E27 where it is a field item
abbrev pub array_item_rules : Scope → ℕ → ℕ → Item → List Offence
array_item_rules s token at (Plain value) = constant_offences s token value
array_item_rules s token at (Set field value) =
    offence s at 27 ∷ (offences_of_field s field ++ offences s value)

-- a payload index is in range: from 0 to 8 less the size of the kind
abbrev pub is_payload_index : Kind → ℤ → Bool
is_payload_index k (pos i) = nat_le i (8 - size k)
is_payload_index k (negsuc i) = false

-- the rules of a name in an initialiser of a message
abbrev pub name_item_rules : Scope → ℕ → ℕ → NamedMember → List Offence
name_item_rules s at name_at (IsField f) = broken_where (not (is_assignable_field f)) s at 27
name_item_rules s at name_at (IsSignal layout) = []
name_item_rules s at name_at IsUnusable = offence s name_at 23 ∷ []
name_item_rules s at name_at (IsUnknown true) = offence s name_at 11 ∷ []
name_item_rules s at name_at (IsUnknown false) = offence s name_at 28 ∷ []

-- the rules of a field in an initialiser of a message with these signals
abbrev pub field_item_rules : Scope → ℕ → ℕ → Option (List DbcSignal) → Field → List Offence
field_item_rules s token at signals (Named name name_at) =
    name_item_rules s at name_at (member_named signals name)
field_item_rules s token at signals (tree.Bytes k index kind_at) =
    constant_offences s token index
    ++ broken_where (option_map_or (λ i. not (is_payload_index k i)) (constant_at s token index) false)
    s at 27

-- an item of an initialiser of a message: E27 where it is plain
abbrev pub message_item_rules : Scope → ℕ → ℕ → Option (List DbcSignal) → Item → List Offence
message_item_rules s token at signals (Plain value) = offence s at 27 ∷ offences s value
message_item_rules s token at signals (Set field value) =
    field_item_rules s token at signals field ++ constant_offences s token value

-- the expressions of an item by themselves
abbrev pub item_offences : Scope → Item → List Offence
item_offences s (Plain value) = offences s value
item_offences s (Set field value) = offences_of_field s field ++ offences s value

-- the rules of items between braces at a token: E27 for a number or a timer, and where there are too many
abbrev pub many_rules : Scope → ℕ → ℕ → Form → List Item → List Offence
many_rules s token at (Array k fixed size) items =
    broken_where (is_above (length_at s token size) (length items)) s at 27
    ++ flat_map (array_item_rules s token at) items
many_rules s token at (Message type_) items =
    flat_map (message_item_rules s token at (signals_of_type type_)) items
many_rules s token at Misfit items = flat_map (item_offences s) items
many_rules s token at _ items = offence s at 27 ∷ flat_map (item_offences s) items

-- what the initialiser of a variable that is declared at a token breaks
abbrev pub initialiser_offences : Scope → ℕ → Form → Init → List Offence
initialiser_offences s token form (One e) = offences s e ++ one_rules s token form e
initialiser_offences s token form (Many items at) = many_rules s token at form items

-- ---- The rules that declarations break (CAPL manual, variables, arrays, message, timers; DBC format, BO_).

-- a number of the source is an identifier: up to 0x7FF, and with `x` up to 0x1FFFFFFF
abbrev pub is_identifier : Option ℕ → Bool → Bool
is_identifier None extended = false
is_identifier (Some n) extended = if extended then nat_le n 0x1FFFFFFF else nat_le n 0x7FF

-- the identifier of a message of the database, in which bit 31 marks an extended one, is in range
abbrev pub is_in_range : ℕ → Bool
is_in_range id = if nat_le (2 ^ 31) id then nat_le (id - 2 ^ 31) 0x1FFFFFFF else nat_le id 0x7FF

-- E23: a message of the database is longer than 8 bytes or its identifier is out of range
abbrev pub database_rule : Scope → ℕ → DbcMessage → List Offence
database_rule s at m = broken_where (nat_lt 8 m.len || not (is_in_range m.id)) s at 23

-- E11: a message name is not in the database; else E23
abbrev pub message_name_rule : Scope → ℕ → List ℕ → List Offence
message_name_rule s at name =
    option_map_or (database_rule s at) (message_named s.names.base name) (offence s at 11 ∷ [])

-- the rules of the type of a declaration: E21, an identifier; E11 and E23, a message name
abbrev pub type_rules : Scope → DeclType → List Offence
type_rules s (decl_type.ById value extended at) = broken_where (not (is_identifier value extended)) s at 21
type_rules s (decl_type.ByName name at) = message_name_rule s at name
type_rules s _ = []

-- E12: an array of messages or timers; a timer in a procedure
abbrev pub form_rule : Scope → ℕ → Form → List Offence
form_rule s at Misfit = offence s at 12 ∷ []
form_rule s at (Timer unit) = broken_where (nat_lt 0 s.owner) s at 12
form_rule s at _ = []

-- E12: a `const` without initialiser
abbrev pub const_rule : Scope → ℕ → DeclType → Option Init → List Offence
const_rule s at (decl_type.Number k true) None = offence s at 12 ∷ []
const_rule s at _ _ = []

-- E12: an array size is not 1 to 1,000,000
abbrev pub size_rule : Scope → ℕ → Expr → List Offence
size_rule s at size =
    broken_where (option_map_or (λ n. not (is_some (array_length n))) (constant_at s at size) false) s at 12

-- what the size of a variable that is declared at a token breaks, if it has one
abbrev pub size_offences : Scope → ℕ → Option Expr → List Offence
size_offences s at None = []
size_offences s at (Some size) = constant_offences s at size ++ size_rule s at size

-- what a declared variable breaks
abbrev pub declarator_offences : Scope → DeclType → Declr → List Offence
declarator_offences s what d =
    form_rule s d.at (form_of s.names.base what d.size)
    ++ (const_rule s d.at what d.init ++ (size_offences s d.at d.size
    ++ option_map_or (initialiser_offences s d.at (form_of s.names.base what d.size)) d.init []))

-- what a declaration breaks
abbrev pub declaration_offences : Scope → Decl → List Offence
declaration_offences s d = type_rules s d.what ++ flat_map (declarator_offences s d.what) d.items
