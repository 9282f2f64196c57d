-- The items of a scenario, line by line, and their values. The form of scenario files is this project's own.
use Rattle.std.specs.Prelude.{ℕ, ◌*◌, ◌/◌, Bool, not, List, [], ◌∷◌, ◌==◌, ◌&&◌, ◌||◌, if◌then◌else◌, codes, length, nat_le, Option, Some, None, ◌-◌, true, filter, slice_index}
use Rattle.std.specs.Option.{option_map, option_and_then}
use Rattle.std.specs.List.{list_all, list_any, flat_map, slice_split}
use Rattle.std.specs.Str.{bytes_eq}
use Rattle.text_parts.specs.Number.{is_digit, number_up_to}
use Rattle.capl_lexer.specs.Name.{is_name}
use Rattle.scenario.specs.declared.scenario.Epoch.{Epoch}
use Rattle.scenario.specs.declared.scenario.Epoch.TheVariants.{At, First}
use Rattle.scenario.specs.declared.scenario.KeyItem.{KeyItem}
use Rattle.scenario.specs.declared.item.Item.{Item}
use Rattle.scenario.specs.declared.item.Item.TheVariants as item

-- ---- The values of items. The form of scenario files is this project's own.

-- the number of 1 to 20 decimal digits, where it is at most the limit
abbrev pub number_of : ℕ → List ℕ → Option ℕ
number_of limit value = if nat_le (length value) 20 then number_up_to limit value else None

-- the bit rates, in bits a second
abbrev pub bit_rates : List ℕ
bit_rates =
    10000 ∷ 12500 ∷ 15625 ∷ 20000 ∷ 25000 ∷ 31250 ∷ 40000 ∷ 50000 ∷ 62500 ∷ 100000 ∷ 125000 ∷ 200000 ∷ 250000
    ∷ 500000 ∷ 1000000 ∷ []

-- how long a bit is at a bit rate, in microseconds
abbrev pub bit_of : List ℕ → Option ℕ
bit_of value =
    option_and_then (λ rate. if list_any (λ one. one == rate) bit_rates then Some (1000000 / rate) else None)
    (number_of 1000000 value)

-- a moment of at most a day in milliseconds, as microseconds
abbrev pub moment_of : List ℕ → Option ℕ
moment_of value = option_map (λ millis. millis * 1000) (number_of 86400000 value)

-- a turn limit: 1 to 10000000
abbrev pub turns_of : List ℕ → Option ℕ
turns_of value = option_and_then (λ turns. if turns == 0 then None else Some turns) (number_of 10000000 value)

-- the word `first`, or seconds up to 4294967295
abbrev pub epoch_of : List ℕ → Option Epoch
epoch_of value =
    if bytes_eq value (codes "first") then Some First
    else option_map (λ seconds. At seconds) (number_of 4294967295 value)

-- picks up to 4294967295
abbrev pub picks_of : List (List ℕ) → Option (List ℕ)
picks_of [] = Some []
picks_of (value ∷ values) =
    option_and_then (λ pick. option_map (λ picks. pick ∷ picks) (picks_of values))
    (number_of 4294967295 value)

-- one byte from 33 to 126
abbrev pub key_byte_of : List ℕ → Option ℕ
key_byte_of (byte ∷ []) = if nat_le 33 byte && nat_le byte 126 then Some byte else None
key_byte_of _ = None

-- a key and the moment at which it is pressed
abbrev pub key_of : List ℕ → List ℕ → Option KeyItem
key_of moment key =
    option_and_then (λ at. option_map (λ byte. record { at = at; key = byte }) (key_byte_of key))
    (moment_of moment)

-- whether the byte is a letter, a digit, `_`, `-` or `.`
abbrev pub is_interface_byte : ℕ → Bool
is_interface_byte byte =
    nat_le 65 byte && nat_le byte 90 || nat_le 97 byte && nat_le byte 122 || is_digit byte
    || byte == 95 || byte == 45 || byte == 46

-- whether the bytes are an interface: 1 to 15 letters, digits, `_`, `-` or `.`
abbrev pub is_interface : List ℕ → Bool
is_interface name = not (length name == 0) && nat_le (length name) 15 && list_all is_interface_byte name

-- whether the byte is one of 33 to 126
abbrev pub is_printable : ℕ → Bool
is_printable byte = nat_le 33 byte && nat_le byte 126

-- whether the bytes may name a file: at most 255 of them, each from 33 to 126
abbrev pub is_file_name : List ℕ → Bool
is_file_name name = nat_le (length name) 255 && list_all is_printable name

-- whether the bytes may name a node: a CAPL name of at most 32 bytes, other than `replay`
abbrev pub is_node_name : List ℕ → Bool
is_node_name name = nat_le (length name) 32 && not (bytes_eq name (codes "replay")) && is_name name

-- ---- The items of a scenario, line by line. The form of scenario files is this project's own.

-- whether the line is passed over: it is empty, or begins with `#`
abbrev pub is_passed_over : List ℕ → Bool
is_passed_over [] = true
is_passed_over (byte ∷ bytes) = byte == 35

-- whether the byte is a space or a tab
abbrev pub is_gap : ℕ → Bool
is_gap byte = byte == 32 || byte == 9

-- the fields of a line, between its blanks; a line that begins or ends with a blank has none
abbrev pub fields_of : List ℕ → List (List ℕ)
fields_of line =
    if is_gap (slice_index line 0) || is_gap (slice_index line (length line - 1)) then []
    else filter (λ field. not (length field == 0)) (slice_split is_gap line)

-- the item of a word and one value
abbrev pub item_of_one : List ℕ → List ℕ → Item
item_of_one word value =
    if bytes_eq word (codes "scenario") then item.Scenario (bytes_eq value (codes "1"))
    else (if bytes_eq word (codes "database") then item.Database value
    else (if bytes_eq word (codes "bitrate") then item.Bitrate (bit_of value)
    else (if bytes_eq word (codes "until") then item.Until (moment_of value)
    else (if bytes_eq word (codes "turns") then item.Turns (turns_of value)
    else (if bytes_eq word (codes "epoch") then item.Epoch (epoch_of value)
    else (if bytes_eq word (codes "interface") then item.Interface value
    else (if bytes_eq word (codes "replay") then item.Replay value
    else item.Unknown)))))))

-- the item of a word and two values
abbrev pub item_of_two : List ℕ → List ℕ → List ℕ → Item
item_of_two word first second =
    if bytes_eq word (codes "node") then item.Node record { name = first; file = second }
    else (if bytes_eq word (codes "key") then item.Key (key_of first second)
    else item.Unknown)

-- the item of picks, of which there is one at least
abbrev pub item_of_picks : List (List ℕ) → Item
item_of_picks [] = item.Unknown
item_of_picks (value ∷ values) = item.Picks (picks_of (value ∷ values))

-- the item of a word and its values
abbrev pub item_of_values : List ℕ → List (List ℕ) → Item
item_of_values word (value ∷ []) = item_of_one word value
item_of_values word (first ∷ second ∷ []) = item_of_two word first second
item_of_values word values = item.Unknown

-- the item of these fields
abbrev pub item_of : List (List ℕ) → Item
item_of [] = item.Unknown
item_of (word ∷ values) =
    if bytes_eq word (codes "picks") then item_of_picks values else item_of_values word values

-- the item of a line that is not passed over
abbrev pub items_in : List ℕ → List Item
items_in line = if is_passed_over line then [] else item_of (fields_of line) ∷ []

-- the items of some lines
abbrev pub items_of : List (List ℕ) → List Item
items_of lines = flat_map items_in lines
