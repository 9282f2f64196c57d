-- How a log line reads: its fields, its stamp and its frame (candump -L, and what can-utils and python-can
-- write for frames of other kinds).
use Rattle.std.specs.Prelude.{◌-◌, ◌==◌, ◌||◌, ℕ, Bool, true, false, List, [], ◌∷◌, length, take, slice_index, filter, if◌then◌else◌, ◌≡◌, ◌≤◌, ◌++◌, All, codes, ◌<◌, ◌⊎◌, replicate}
use Rattle.std.specs.List.{slice_split}
use Rattle.text_parts.specs.Number.{IsDigit, number_in, IsHexDigit}
use Rattle.can_frame.specs.Frame.{FrameFields, IsIdent, ident_number}
use Rattle.can_frame.specs.declared.Ident.{Ident}
use Rattle.can_frame.specs.declared.Ident.TheVariants.{Std, Ext}
use Rattle.log_line.specs.declared.line.Line.{Line}
use Rattle.log_line.specs.declared.line.Line.TheVariants.{Entry, Skip, Empty}
use Rattle.log_line.specs.declared.line.Entry as declared

-- ---- The fields of a log line (candump -L, one line): what stands between its blanks.

-- whether the byte is a space or a tab
abbrev pub is_blank : ℕ → Bool
is_blank byte = byte == 32 || byte == 9

-- the bytes without the CR that may end them
abbrev pub without_return : List ℕ → List ℕ
without_return line =
    if slice_index line (length line - 1) == 13 then take (length line - 1) line else line

-- whether a part has a byte
abbrev pub has_bytes : List ℕ → Bool
has_bytes [] = false
has_bytes (byte ∷ bytes) = true

-- the parts between blanks that have a byte
abbrev pub log_fields : List ℕ → List (List ℕ)
log_fields text = filter has_bytes (slice_split is_blank text)

-- ---- The stamp of a log line (candump -L, `(SECONDS.MICROSECONDS)`).

-- `(`, 1 to 15 digits, `.`, six digits and `)`
pub record IsStamp (field : List ℕ) (seconds micros : ℕ) : Type 0 where
  pub whole : List ℕ
  pub fraction : List ℕ
  pub spelled : field ≡ codes "(" ++ whole ++ codes "." ++ fraction ++ codes ")"
  pub whole_digits : All IsDigit whole
  pub some : 1 ≤ length whole
  pub at_most_fifteen : length whole ≤ 15
  pub fraction_digits : All IsDigit fraction
  pub six : length fraction ≡ 6
  pub seconds_are : seconds ≡ number_in 10 whole
  pub micros_are : micros ≡ number_in 10 fraction

-- ---- Frames as log lines spell them (candump -L, `IDENTIFIER#DATA` and `IDENTIFIER#R`).

-- three digits of a standard identifier, eight of an extended one
abbrev pub digit_count : Ident → ℕ
digit_count (Std n) = 3
digit_count (Ext n) = 8

-- the hexadecimal digits of an identifier that its format can carry, in upper or lower case
pub record SpellsIdent (digits : List ℕ) (ident : Ident) : Type 0 where
  pub hexadecimal : All IsHexDigit digits
  pub count : length digits ≡ digit_count ident
  pub is : ident_number ident ≡ number_in 16 digits
  pub in_range : IsIdent ident

-- a pair of hexadecimal digits for a byte, before what is behind
pub record IsPair (text : List ℕ) (byte : ℕ) (behind : List ℕ) : Type 0 where
  pub high : ℕ
  pub low : ℕ
  pub spelled : text ≡ high ∷ low ∷ behind
  pub high_is : IsHexDigit high
  pub low_is : IsHexDigit low
  pub is : byte ≡ number_in 16 (high ∷ low ∷ [])

-- what stands between two pairs: nothing, or a dot before a further pair
abbrev pub IsBetween : List ℕ → List ℕ → Type 0
IsBetween between [] = between ≡ []
IsBetween between (byte ∷ bytes) = (between ≡ []) ⊎ (between ≡ codes ".")

-- a pair for each byte
abbrev pub SpellsBytes : List ℕ → List ℕ → Type 0
SpellsBytes text [] = text ≡ []
SpellsBytes text (byte ∷ bytes) =
    (between rest : List ℕ) × IsPair text byte (between ++ rest) × IsBetween between bytes
    × SpellsBytes rest bytes

-- nothing for the length code 0, or a digit 0 to 8
abbrev pub SpellsCode : List ℕ → ℕ → Type 0
SpellsCode text dlc =
    ((text ≡ []) × (dlc ≡ 0))
    ⊎ ((digit : ℕ) × (text ≡ digit ∷ []) × (48 ≤ digit) × (digit ≤ 56) × (dlc ≡ digit - 48))

-- what stands behind `#`: up to eight pairs of a data frame; `R` and perhaps a length code of a remote frame,
-- which has no data
abbrev pub SpellsData : List ℕ → Bool → ℕ → List ℕ → Type 0
SpellsData text false dlc payload =
    (bytes : List ℕ) × SpellsBytes text bytes × (dlc ≡ length bytes) × (dlc ≤ 8)
    × (payload ≡ bytes ++ replicate (8 - dlc) 0)
SpellsData text true dlc payload =
    (code : List ℕ) × (text ≡ codes "R" ++ code) × SpellsCode code dlc × (payload ≡ replicate 8 0)

-- an identifier, `#` and data: a frame of channel 1
pub record SpellsFrame (field : List ℕ) (frame : FrameFields) : Type 0 where
  pub digits : List ℕ
  pub behind : List ℕ
  pub spelled : field ≡ digits ++ codes "#" ++ behind
  pub ident : SpellsIdent digits frame.ident
  pub carries : SpellsData behind frame.remote frame.dlc frame.payload
  pub channel : frame.can ≡ 1

-- three or eight digits and `##`, as of a frame of CAN FD, with anything behind
pub record IsFlexible (field : List ℕ) : Type 0 where
  pub digits : List ℕ
  pub behind : List ℕ
  pub spelled : field ≡ digits ++ codes "##" ++ behind
  pub hexadecimal : All IsHexDigit digits
  pub count : (length digits ≡ 3) ⊎ (length digits ≡ 8)

-- eight digits above the greatest identifier and `#`, as of an error frame, with anything behind
pub record IsAbove (field : List ℕ) : Type 0 where
  pub digits : List ℕ
  pub behind : List ℕ
  pub spelled : field ≡ digits ++ codes "#" ++ behind
  pub hexadecimal : All IsHexDigit digits
  pub count : length digits ≡ 8
  pub above : 0x1FFFFFFF < number_in 16 digits

-- a frame, `_` and a hexadecimal digit, as of a frame with a length code above 8
pub record IsLongCode (field : List ℕ) : Type 0 where
  pub front : List ℕ
  pub digit : ℕ
  pub spelled : field ≡ front ++ codes "_" ++ digit ∷ []
  pub frame : (frame : FrameFields) × SpellsFrame front frame
  pub hexadecimal : IsHexDigit digit

-- ---- How a log line reads (candump -L, and what can-utils and python-can write for frames of other kinds).

-- a byte from 33 to 126
abbrev pub IsPrintable : ℕ → Type 0
IsPrintable byte = (33 ≤ byte) × (byte ≤ 126)

-- the name of an interface: 1 to 15 printable bytes
pub record IsInterface (name : List ℕ) : Type 0 where
  pub some : 1 ≤ length name
  pub short : length name ≤ 15
  pub printable : All IsPrintable name

-- what may stand behind the frame: nothing, or `R` or `T` for received or sent
abbrev pub IsDirection : List (List ℕ) → Type 0
IsDirection fields = (fields ≡ []) ⊎ (fields ≡ codes "R" ∷ []) ⊎ (fields ≡ codes "T" ∷ [])

-- the fields of an entry: stamp, interface, frame and perhaps a direction
pub record AreEntry (fields : List (List ℕ)) (entry : declared.Entry) : Type 0 where
  pub stamp : List ℕ
  pub frame : List ℕ
  pub direction : List (List ℕ)
  pub are : fields ≡ stamp ∷ entry.interface ∷ frame ∷ direction
  pub is_stamp : IsStamp stamp entry.seconds entry.micros
  pub is_interface : IsInterface entry.interface
  pub is_frame : SpellsFrame frame entry.frame
  pub is_direction : IsDirection direction

-- the frame and what stands behind it are passed over
abbrev pub IsPassedOver : List ℕ → List (List ℕ) → Type 0
IsPassedOver frame more = IsFlexible frame ⊎ IsAbove frame ⊎ (IsLongCode frame × IsDirection more)

-- the fields of a line that is passed over: stamp, interface, and a frame of another kind
pub record AreSkip (fields : List (List ℕ)) : Type 0 where
  pub stamp : List ℕ
  pub interface : List ℕ
  pub frame : List ℕ
  pub more : List (List ℕ)
  pub are : fields ≡ stamp ∷ interface ∷ frame ∷ more
  pub is_stamp : (seconds micros : ℕ) × IsStamp stamp seconds micros
  pub is_interface : IsInterface interface
  pub is_passed_over : IsPassedOver frame more

-- the fields read so
abbrev pub FieldsRead : List (List ℕ) → Line → Type 0
FieldsRead fields (Entry entry) = AreEntry fields entry
FieldsRead fields Skip = AreSkip fields
FieldsRead fields Empty = fields ≡ []

-- the line, without its LF, reads so
abbrev pub Reads : List ℕ → Line → Type 0
Reads line reading = FieldsRead (log_fields (without_return line)) reading
