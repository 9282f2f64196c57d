-- The bits of a frame on the bus, and how many they are (ISO 11898-1, data frame, remote frame, CRC field and
-- bit stuffing).
use Rattle.std.specs.Prelude.{ℕ, Bool, true, false, not, List, [], ◌∷◌, ◌++◌, length, replicate, ◌/◌, ◌^◌, take, ◌≡◌, ◌≢◌, if◌then◌else◌, ◌||◌, ◌+◌, ◌-◌, ◌*◌, ◌≤◌}
use Rattle.std.proofs.Common.{zero, suc}
use Rattle.std.specs.List.{flat_map, starts_with}
use Rattle.can_frame.specs.declared.Ident.{Ident}
use Rattle.can_frame.specs.declared.Ident.TheVariants.{Std, Ext}
use Rattle.can_frame.specs.Frame.{field_bits, FrameFields, data_len}
use Rattle.std.specs.Bool.{beq}

-- ---- The CRC sequence of a frame (ISO 11898-1, CRC field).

-- the sum of two bits without carry
abbrev pub xor : Bool → Bool → Bool
xor false b = b
xor true b = not b

-- the bits with coefficients added to the first of them
abbrev pub bit_sum : List Bool → List Bool → List Bool
bit_sum [] bits = bits
bit_sum (c ∷ coefficients) [] = []
bit_sum (c ∷ coefficients) (b ∷ bits) = xor c b ∷ bit_sum coefficients bits

-- the coefficients of x^15 + x^14 + x^10 + x^8 + x^7 + x^4 + x^3 + 1 from x^14 down
unfoldable pub generator : List Bool
generator =
    true ∷ false ∷ false ∷ false ∷ true ∷ false ∷ true ∷ true
    ∷ false ∷ false ∷ true ∷ true ∷ false ∷ false ∷ true ∷ []

-- a step of long division: the leading bit is struck, and where it is 1 the generator is added
abbrev pub division_step : List Bool → List Bool
division_step [] = []
division_step (false ∷ bits) = bits
division_step (true ∷ bits) = bit_sum generator bits

-- what so many of these steps leave
abbrev pub division_steps : ℕ → List Bool → List Bool
division_steps zero bits = bits
division_steps (suc n) bits = division_step (division_steps n bits)

-- the CRC: the remainder of the bits with fifteen zeros appended
unfoldable pub crc_bits : List Bool → List Bool
crc_bits bits = division_steps (length bits) (bits ++ replicate 15 false)

-- ---- The bits of a frame from SOF to its CRC, without stuff bits (ISO 11898-1, data frame and remote
-- frame).

-- the bits from SOF to the data length code; `false` is a dominant 0, `true` a recessive 1
abbrev pub header_bits : Ident → Bool → ℕ → List Bool
-- SOF, identifier, RTR, IDE, r0, DLC
header_bits (Std n) remote dlc =
    false ∷ field_bits 11 n ++ remote ∷ false ∷ false ∷ field_bits 4 dlc
-- SOF, base identifier, SRR, IDE, further identifier, RTR, r1, r0, DLC
header_bits (Ext n) remote dlc =
    false ∷ field_bits 11 (n / 2 ^ 18) ++ true ∷ true ∷ field_bits 18 n
    ++ remote ∷ false ∷ false ∷ field_bits 4 dlc

-- the data field: byte after byte, each with its most significant bit first
abbrev pub data_bits : List ℕ → List Bool
data_bits bytes = flat_map (field_bits 8) bytes

-- the bits from SOF to the last data bit, which the CRC covers
abbrev pub covered_bits : FrameFields → List Bool
covered_bits f = header_bits f.ident f.remote f.dlc ++ data_bits (take (data_len f) f.payload)

-- the bits from SOF to the last CRC bit before stuffing
abbrev pub unstuffed_bits : FrameFields → List Bool
unstuffed_bits f = covered_bits f ++ crc_bits (covered_bits f)

-- ---- Bit stuffing (ISO 11898-1, frame coding).

-- whether a list begins with five equal bits
abbrev pub begins_with_run : List Bool → Bool
begins_with_run bits = starts_with beq bits (replicate 5 false) || starts_with beq bits (replicate 5 true)

-- the bits that do not follow five equal bits; `before` has what stands before them, the nearest
-- first
abbrev pub without_stuff_bits_after : List Bool → List Bool → List Bool
without_stuff_bits_after before [] = []
without_stuff_bits_after before (b ∷ bits) =
    if begins_with_run before
    then without_stuff_bits_after (b ∷ before) bits
    else b ∷ without_stuff_bits_after (b ∷ before) bits

-- a list without the bits that follow five equal bits
unfoldable pub without_stuff_bits : List Bool → List Bool
without_stuff_bits s = without_stuff_bits_after [] s

-- s is a stuffing of b
pub record IsStuffing (s b : List Bool) : Type 0 where
  -- no six neighbouring bits are equal
  pub no_six : (front back : List Bool) (x : Bool) → s ≢ (front ++ replicate 6 x) ++ back
  -- each run of five equal bits is followed by a bit, also at the end
  pub followed : (front back : List Bool) (x : Bool) → s ≡ (front ++ replicate 5 x) ++ back → back ≢ []
  -- without the bits that follow such runs it is b; the bits that are left out count in runs
  pub carries : without_stuff_bits s ≡ b

-- after five equal bits, the inserted ones counted, one of the other value; `before` as above
abbrev pub stuffing_after : List Bool → List Bool → List Bool
stuffing_after before [] = []
stuffing_after before (b ∷ bits) =
    if begins_with_run (b ∷ before)
    then b ∷ not b ∷ stuffing_after (not b ∷ b ∷ before) bits
    else b ∷ stuffing_after (b ∷ before) bits

-- the stuffing of a list
unfoldable pub stuffing_of : List Bool → List Bool
stuffing_of b = stuffing_after [] b

-- a list has exactly one stuffing
pub record HasOneStuffing (b : List Bool) : Type 0 where
  pub is_one : IsStuffing (stuffing_of b) b
  pub no_other : (s : List Bool) → IsStuffing s b → s ≡ stuffing_of b

-- ---- How many bits a frame has on the bus (ISO 11898-1, data frame, remote frame and bit stuffing).

-- n is the length of the frame on the bus: the bits of its stuffing, and then the CRC delimiter, the ACK
-- slot, the ACK delimiter and seven bits of EOF
pub record IsFrameLength (f : FrameFields) (n : ℕ) : Type 0 where
  pub bits : List Bool
  pub stuffing : IsStuffing bits (unstuffed_bits f)
  pub sum : n ≡ length bits + 10

-- that length, by the one stuffing that there is
unfoldable pub frame_length : FrameFields → ℕ
frame_length f = length (stuffing_of (unstuffed_bits f)) + 10

-- whether an identifier is extended
abbrev pub is_extended : Ident → Bool
is_extended (Std n) = false
is_extended (Ext n) = true

-- how many bits stand from SOF to the last CRC bit before stuffing
abbrev pub unstuffed_len : Bool → ℕ → ℕ
unstuffed_len extended bytes = (if extended then 54 else 34) + 8 * bytes

-- the greatest length: after the first bit, each four bits may bring one stuff bit
abbrev pub worst_length : ℕ → ℕ
worst_length unstuffed = unstuffed + (unstuffed - 1) / 4 + 10

-- no frame of the format with at most so many data bytes is longer
abbrev pub BoundsLengths : Bool → ℕ → ℕ → Type 0
BoundsLengths extended bytes bound =
    (f : FrameFields) (n : ℕ) → is_extended f.ident ≡ extended → data_len f ≤ bytes
    → IsFrameLength f n → n ≤ bound
