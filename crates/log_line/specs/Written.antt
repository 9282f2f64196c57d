-- Log lines as they are written (candump -L).
use Rattle.std.specs.Prelude.{◌≡◌, ℕ, ◌==◌, List, [], ◌∷◌, ◌++◌, take, if◌then◌else◌, codes, decimal}
use Rattle.std.specs.List.{flat_map}
use Rattle.can_frame.specs.Frame.{FrameFields, IsFrame}
use Rattle.can_frame.specs.declared.Ident.{Ident}
use Rattle.can_frame.specs.declared.Ident.TheVariants.{Std, Ext}
use Rattle.text_parts.specs.Number.{zero_filled, hexadecimal}

-- three hexadecimal digits of a standard identifier, eight of an extended one
abbrev pub ident_text : Ident → List ℕ
ident_text (Std n) = zero_filled 3 (hexadecimal n)
ident_text (Ext n) = zero_filled 8 (hexadecimal n)

-- two hexadecimal digits of a byte
abbrev pub byte_text : ℕ → List ℕ
byte_text byte = zero_filled 2 (hexadecimal byte)

-- `#` and the data bytes, or `#R` and the length code of a remote frame where it is not 0
abbrev pub data_text : FrameFields → List ℕ
data_text frame =
    if frame.remote
    then codes "#R" ++ (if frame.dlc == 0 then [] else decimal frame.dlc)
    else codes "#" ++ flat_map byte_text (take frame.dlc frame.payload)

-- the seconds in at least ten digits, and six digits of microseconds
abbrev pub stamp_text : ℕ → ℕ → List ℕ
stamp_text seconds micros = zero_filled 10 (decimal seconds) ++ codes "." ++ zero_filled 6 (decimal micros)

-- `(SSSSSSSSSS.UUUUUU) INTERFACE FRAME`
abbrev pub entry_text : ℕ → ℕ → List ℕ → FrameFields → List ℕ
entry_text seconds micros interface frame =
    codes "(" ++ stamp_text seconds micros ++ codes ") " ++ interface ++ codes " " ++ ident_text frame.ident
    ++ data_text frame

-- the same with its line end
abbrev pub log_line : ℕ → ℕ → List ℕ → FrameFields → List ℕ
log_line seconds micros interface frame = entry_text seconds micros interface frame ++ 10 ∷ []

-- a frame that a log line can carry: a length code of at most 8, and channel 1
pub record IsLoggable (frame : FrameFields) : Type 0 where
  pub valid : IsFrame frame
  pub channel : frame.can ≡ 1
