-- A message variable (CAPL manual, message): 14 cells, and the rules by which its fields are written.
use Rattle.std.specs.Prelude.{◌≡◌, ℕ, Bool, zero, suc, ◌+◌, ◌-◌, ◌*◌, ◌/◌, ◌%◌, ◌^◌, if◌then◌else◌, nat_le, ◌==◌, not, List, [], ◌∷◌, map, length, take, drop, replicate, min, ℤ, pos, Option, Some, None, slice_index_or}
use Rattle.std.specs.List.{splice}
use Rattle.int_kinds.specs.declared.kinds.Kind.{Kind}
use Rattle.int_kinds.specs.declared.kinds.Kind.TheVariants.{Byte, Word, Dword}
use Rattle.int_kinds.specs.Kind.{width, wrap}
use Rattle.int_kinds.specs.Arithmetic.{residue}
use Rattle.can_frame.specs.declared.Ident.{Ident}
use Rattle.can_frame.specs.declared.Ident.TheVariants.{Std, Ext}
use Rattle.can_frame.specs.Frame.{FrameFields, data_len_of, padded}

-- the kinds of a message's cells: identifier, length, remote bit, channel, direction, time, and 8 bytes
abbrev pub message_kinds : List Kind
message_kinds = Dword ∷ Byte ∷ Byte ∷ Word ∷ Byte ∷ Dword ∷ replicate 8 Byte

-- a message begins at a cell: the cells from there on have a message's kinds
abbrev pub IsMessage : List Kind → ℕ → Type 0
IsMessage kinds at = take 14 (drop at kinds) ≡ message_kinds

-- the message that begins at a cell: the 14 cells from there on
abbrev pub message_of : ℕ → List ℤ → List ℤ
message_of at cells = take 14 (drop at cells)

-- the message that begins at a cell, if its 14 cells are there
abbrev pub message_at : ℕ → List ℤ → Option (List ℤ)
message_at at cells = if nat_le (at + 14) (length cells) then Some (message_of at cells) else None

-- the payload of a message's cells
abbrev pub payload_of : List ℤ → List ℕ
payload_of message = map (residue Byte) (drop 6 message)

-- identifier: with bit 31, which marks an extended one, the low 29 bits are kept, else the low 11
abbrev pub written_id : ℤ → ℕ
written_id n =
    if nat_le (2 ^ 31) (residue Dword n) then (2 ^ 31 + residue Dword n % 2 ^ 29)
    else residue Dword n % 2 ^ 11

-- length: wrapped to byte, and above 8 it becomes 8
abbrev pub written_dlc : ℤ → ℕ
written_dlc n = min (residue Byte n) 8

-- remote bit: wrapped to byte, and what is not 0 becomes 1
abbrev pub written_rtr : ℤ → ℕ
written_rtr n = min (residue Byte n) 1

-- channel: wrapped to word
abbrev pub written_can : ℤ → ℕ
written_can n = residue Word n

-- the rules by which the fields of the first four cells are written
abbrev pub write_rules : List (ℤ → ℕ)
write_rules = written_id ∷ written_dlc ∷ written_rtr ∷ written_can ∷ []

-- the identifier that a written identifier cell names
abbrev pub ident_of : ℕ → Ident
ident_of id = if nat_le (2 ^ 31) id then Ext (id - 2 ^ 31) else Std id

-- the number of an identifier in its cell, which `ident_of` undoes
abbrev pub id_of : Ident → ℕ
id_of (Std id) = id
id_of (Ext id) = 2 ^ 31 + id

-- the number in a message's cell
abbrev pub field_number : List ℤ → ℕ → ℤ
field_number message cell = slice_index_or message cell (pos 0)

-- whether a message is remote, by its remote bit
abbrev pub is_remote : List ℤ → Bool
is_remote message = not (written_rtr (field_number message 2) == 0)

-- the frame of a message, with each field brought to its range by its write rule, on channel 1
abbrev pub frame_of : List ℤ → FrameFields
frame_of message = record {
  ident = ident_of (written_id (field_number message 0));
  remote = is_remote message;
  dlc = written_dlc (field_number message 1);
  payload =
      padded (data_len_of (is_remote message) (written_dlc (field_number message 1))) (payload_of message);
  can = 1;
}

-- how many bytes a kind has
abbrev pub size : Kind → ℕ
size k = width k / 8

-- the number that bytes spell, the least significant byte first
abbrev pub number_of_bytes : List ℕ → ℕ
number_of_bytes [] = 0
number_of_bytes (byte ∷ bytes) = byte + 256 * number_of_bytes bytes

-- so many bytes of a number, the least significant first
abbrev pub bytes_of_number : ℕ → ℕ → List ℕ
bytes_of_number zero n = []
bytes_of_number (suc count) n = n % 256 ∷ bytes_of_number count (n / 256)

-- the number of a kind that begins at a byte of a payload
unfoldable pub number_at : Kind → ℕ → List ℕ → ℤ
number_at k i payload = wrap k (pos (number_of_bytes (take (size k) (drop i payload))))

-- the bytes of a number of a kind
unfoldable pub bytes_of : Kind → ℤ → List ℕ
bytes_of k n = bytes_of_number (size k) (residue k n)

-- cells once bytes are put in the payload of the message that begins at a cell, from one of its bytes on
abbrev pub with_bytes : ℕ → ℕ → List ℕ → List ℤ → List ℤ
with_bytes at i bytes cells = splice cells (at + 6 + i) (at + 6 + i + length bytes) (map pos bytes)

-- cells once a message is copied to the 14 cells from a cell on
abbrev pub with_message : ℕ → List ℤ → List ℤ → List ℤ
with_message at message cells = splice cells at (at + 14) message
