-- What the parts of a frame are.
use Rattle.std.specs.Prelude.{◌≡◌, ◌≢◌, ◌<◌, ◌≤◌, ℕ, Bool, true, false, List, [], ◌∷◌, ◌++◌, ◌⊎◌, length, take, All, codes}
use Rattle.text_parts.specs.Number.{IsHexDigit, number_in}
use Rattle.can_frame.specs.Frame.{FrameFields, IsIdent, ident_number}
use Rattle.can_frame.specs.declared.Ident.{Ident}
use Rattle.log_line.specs.Reading.{digit_count, SpellsBytes, SpellsCode, SpellsData, SpellsFrame, IsFlexible, IsAbove, IsLongCode}
use Rattle.log_line.specs.declared.frame_text.Bytes.{Bytes}
use Rattle.log_line.specs.declared.frame_text.Data.{Data}
use Rattle.log_line.specs.declared.frame_text.FrameField.{FrameField}
use Rattle.log_line.specs.declared.frame_text.FrameField.TheVariants.{Read, Unread, LongCode}

-- the field is of this kind
abbrev pub IsFrameField : List ℕ → FrameField → Type 0
IsFrameField field (Read frame) = SpellsFrame field frame
IsFrameField field Unread = IsFlexible field ⊎ IsAbove field
IsFrameField field LongCode = IsLongCode field

-- three or eight hexadecimal digits of this number, `#`, and what stands behind
pub record HasParts (field : List ℕ) (count number : ℕ) (behind : List ℕ) : Type 0 where
  pub digits : List ℕ
  pub spelled : field ≡ digits ++ codes "#" ++ behind
  pub hexadecimal : All IsHexDigit digits
  pub count_is : length digits ≡ count
  pub three_or_eight : (count ≡ 3) ⊎ (count ≡ 8)
  pub is : number ≡ number_in 16 digits

-- the field has no such parts
abbrev pub HasNoParts : List ℕ → Type 0
HasNoParts field = (count number : ℕ) (behind : List ℕ) → HasParts field count number behind → ⊥

-- the first byte is `#`
abbrev pub IsSignFirst : List ℕ → Type 0
IsSignFirst [] = ⊥
IsSignFirst (byte ∷ bytes) = byte ≡ 35

-- a number above the greatest identifier, or a second `#`
abbrev pub IsUnread : ℕ → List ℕ → Type 0
IsUnread number behind = (0x1FFFFFFF < number) ⊎ IsSignFirst behind

-- this front, `_` and a hexadecimal digit
pub record HasCode (behind front : List ℕ) : Type 0 where
  pub digit : ℕ
  pub spelled : behind ≡ front ++ codes "_" ++ digit ∷ []
  pub hexadecimal : IsHexDigit digit

-- no front has them behind it
abbrev pub HasNoCode : List ℕ → Type 0
HasNoCode behind = (front : List ℕ) → HasCode behind front → ⊥

-- the identifier has so many digits, and this number
pub record IsIdentOf (count number : ℕ) (ident : Ident) : Type 0 where
  pub digits : count ≡ digit_count ident
  pub is : ident_number ident ≡ number
  pub in_range : IsIdent ident

-- the frame has this identifier, and what stands behind `#` is its data
pub record IsFrameWith (ident : Ident) (behind : List ℕ) (frame : FrameFields) : Type 0 where
  pub ident_is : frame.ident ≡ ident
  pub carries : SpellsData behind frame.remote frame.dlc frame.payload
  pub channel : frame.can ≡ 1

-- the text is no frame's
abbrev pub SpellsNoData : List ℕ → Type 0
SpellsNoData text = (remote : Bool) (dlc : ℕ) (payload : List ℕ) → SpellsData text remote dlc payload → ⊥

-- the text is of data with these first bytes, or of this length code
abbrev pub SpellsFirst : List ℕ → Bool → ℕ → List ℕ → Type 0
SpellsFirst text false dlc payload = SpellsBytes text (take dlc payload)
SpellsFirst text true dlc payload = (code : List ℕ) × (text ≡ codes "R" ++ code) × SpellsCode code dlc

-- the data that the text spells
pub record IsData (text : List ℕ) (data_ : Data) : Type 0 where
  pub spelled : SpellsFirst text data_.remote data_.dlc data_.payload
  pub in_range : data_.dlc ≤ 8
  pub eight : length data_.payload ≡ 8

-- the bytes that the text spells
pub record AreBytes (text : List ℕ) (bytes : Bytes) : Type 0 where
  pub in_range : bytes.count ≤ 8
  pub eight : length bytes.bytes ≡ 8
  pub spelled : SpellsBytes text (take bytes.count bytes.bytes)

-- the text spells no bytes of which there is a first
abbrev pub SpellsNoByte : List ℕ → Type 0
SpellsNoByte text = (byte : ℕ) (bytes : List ℕ) → SpellsBytes text (byte ∷ bytes) → ⊥

-- whatever bytes the text spells, this is the first, and the rest spells the others
pub record IsFirstByte (text : List ℕ) (byte : ℕ) (rest : List ℕ) : Type 0 where
  pub shorter : length rest < length text
  pub goes_on : (bytes : List ℕ) → SpellsBytes rest bytes → SpellsBytes text (byte ∷ bytes)
  pub only : (first : ℕ) (bytes : List ℕ) → SpellsBytes text (first ∷ bytes)
      → (first ≡ byte) × SpellsBytes rest bytes

-- a dot and more
abbrev pub HasDotAndMore : List ℕ → Type 0
HasDotAndMore behind = (more : List ℕ) × (behind ≡ codes "." ++ more) × (more ≢ [])

-- the rest without a dot that stands before more
abbrev pub IsWithoutDot : List ℕ → List ℕ → Type 0
IsWithoutDot behind rest =
    ((behind ≡ codes "." ++ rest) × (rest ≢ [])) ⊎ ((rest ≡ behind) × (HasDotAndMore behind → ⊥))
