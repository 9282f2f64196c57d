-- The message that `this` is in a message procedure.
-- CAPL manual: on message, this, message.
use Rattle.std.specs.Prelude.{ℕ, ◌/◌, ◌%◌, ◌^◌, Bool, if◌then◌else◌, List, ◌∷◌, map, ℤ, pos}
use Rattle.can_frame.specs.Frame.{FrameFields}
use Rattle.message_cells.specs.Message.{id_of}

-- the numbers of a frame that was on the bus at a moment in microseconds: identifier, where bit 31 marks an
-- extended one, length, remote bit, channel, direction (1 for a frame that was sent, TX), time in units of
-- ten microseconds, wrapped to a dword, and 8 bytes
abbrev pub message_numbers : FrameFields → Bool → ℕ → List ℕ
message_numbers f sent now =
    id_of f.ident ∷ f.dlc ∷ (if f.remote then 1 else 0) ∷ f.can ∷ (if sent then 1 else 0)
    ∷ (now / 10 % 2 ^ 32) ∷ f.payload

-- the 14 cells of that message
abbrev pub message_of : FrameFields → Bool → ℕ → List ℤ
message_of f sent now = map pos (message_numbers f sent now)
