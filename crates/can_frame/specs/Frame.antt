-- Classic CAN frames: their fields, their identifiers and arbitration (ISO 11898-1, data frame, remote frame
-- and arbitration field).
use Rattle.std.specs.Prelude.{ℕ, ◌+◌, ◌/◌, ◌%◌, ◌^◌, ◌==◌, Bool, if◌then◌else◌, List, [], ◌∷◌, length, ◌≡◌, ◌-◌, ◌<◌, ◌≤◌, ◌++◌, take, replicate, slice_index, ◌↔◌, true, false, ⊤}
use Rattle.std.proofs.Common.{zero, suc}
use Rattle.can_frame.specs.declared.Ident.{Ident}
use Rattle.can_frame.specs.declared.Ident.TheVariants.{Std, Ext}

-- ---- Fields of bits, and the numbers that they hold.

-- a field of so many bits that holds the number, the most significant bit first; `true` is a 1
unfoldable pub field_bits : ℕ → ℕ → List Bool
field_bits zero n = []
field_bits (suc k) n = (n / 2 ^ k % 2 == 1) ∷ field_bits k n

-- the number that a list of bits spells, the most significant bit first
unfoldable pub number_of : List Bool → ℕ
number_of [] = 0
number_of (b ∷ bits) = (if b then 2 ^ length bits else 0) + number_of bits

-- ---- Classic CAN frames (ISO 11898-1, data frame and remote frame).

-- an identifier as a number
abbrev pub ident_number : Ident → ℕ
ident_number (Std n) = n
ident_number (Ext n) = n

-- the greatest number of 11 bits for a standard identifier, of 29 bits for an extended one
abbrev pub greatest_number : Ident → ℕ
greatest_number (Std n) = 0x7FF
greatest_number (Ext n) = 0x1FFFFFFF

-- an identifier that its format can carry
abbrev pub IsIdent : Ident → Type 0
IsIdent ident = ident_number ident ≤ greatest_number ident

-- a frame as contracts see it
pub record FrameFields : Type 0 where
  pub ident : Ident
  pub remote : Bool
  pub dlc : ℕ
  pub payload : List ℕ
  pub can : ℕ

-- how many data bytes go over the bus: as many as the code says of a data frame, none of a remote one
abbrev pub data_len_of : Bool → ℕ → ℕ
data_len_of remote dlc = if remote then 0 else dlc

-- how many data bytes of the frame go over the bus
abbrev pub data_len : FrameFields → ℕ
data_len f = data_len_of f.remote f.dlc

-- the first n bytes, and zeros up to eight
abbrev pub padded : ℕ → List ℕ → List ℕ
padded n bytes = take n bytes ++ replicate (8 - n) 0

-- a classic CAN frame: each field in its range, and 0 in each byte past the payload
pub record IsFrame (f : FrameFields) : Type 0 where
  pub ident_in_range : IsIdent f.ident
  pub dlc_in_range : f.dlc ≤ 8
  pub can_from_one : 1 ≤ f.can
  pub can_to_two : f.can ≤ 2
  pub eight_bytes : length f.payload ≡ 8
  pub bytes : (k : ℕ) → slice_index f.payload k < 256
  pub zeros_past : (k : ℕ) → data_len f ≤ k → slice_index f.payload k ≡ 0

-- ---- The arbitration field of a frame (ISO 11898-1, arbitration field), and the keys that order frames and
-- name identifiers.

-- the bits from the first identifier bit to RTR and IDE: `true` is recessive, `false` dominant
abbrev pub arbitration_bits : Ident → Bool → List Bool
arbitration_bits (Std n) remote = field_bits 11 n ++ remote ∷ false ∷ []
arbitration_bits (Ext n) remote = field_bits 11 (n / 2 ^ 18) ++ true ∷ true ∷ field_bits 18 n ++ remote ∷ []

-- the arbitration field of a frame, with the IDE bit also where the format is standard
abbrev pub arbitration_field : FrameFields → List Bool
arbitration_field f = arbitration_bits f.ident f.remote

-- at the first place where the two fields differ, the first one has the dominant bit
abbrev pub Wins : List Bool → List Bool → Type 0
Wins [] b = ⊥
Wins (x ∷ a) [] = ⊥
Wins (false ∷ a) (true ∷ b) = ⊤
Wins (true ∷ a) (false ∷ b) = ⊥
Wins (false ∷ a) (false ∷ b) = Wins a b
Wins (true ∷ a) (true ∷ b) = Wins a b

-- a field of bits with zeros on its right up to 32 bits
abbrev pub filled : List Bool → List Bool
filled bits = bits ++ replicate (32 - length bits) false

-- the arbitration key: the number that the filled arbitration field spells
unfoldable pub arbitration_key : FrameFields → ℕ
arbitration_key f = number_of (filled (arbitration_field f))

-- the number by which handlers and logs name an identifier: an extended one has bit 31 set
abbrev pub selection_key : Ident → ℕ
selection_key (Std n) = n
selection_key (Ext n) = n + 0x80000000

-- the lesser key belongs to the field that wins, and equal keys to equal fields
pub record KeysOrderFields (f g : FrameFields) : Type 0 where
  pub lesser : (arbitration_key f < arbitration_key g) ↔ Wins (arbitration_field f) (arbitration_field g)
  pub equal : (arbitration_key f ≡ arbitration_key g) ↔ (arbitration_field f ≡ arbitration_field g)

-- two identifiers with one selection key are one identifier
abbrev pub NamesIdents : Ident → Ident → Type 0
NamesIdents a b = IsIdent a → IsIdent b → selection_key a ≡ selection_key b → a ≡ b
