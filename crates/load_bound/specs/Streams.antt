-- Streams of data frames, and how long a frame of one keeps the bus (ISO 11898-1, data frame, arbitration and
-- interframe space).
use Rattle.std.specs.Prelude.{ℕ, ◌+◌, ◌*◌, ◌^◌, ◌<◌, ◌≤◌, Bool, false, max, List, [], ◌∷◌, length, All}
use Rattle.can_frame.specs.Frame.{IsIdent, arbitration_bits}
use Rattle.frame_bits.specs.Length.{is_extended, unstuffed_len, worst_length}
use Rattle.can_bus.specs.Waiting.{wins}
use Rattle.can_bus.specs.Bus.{intermission}
use Rattle.load_bound.specs.declared.stream.Stream.{Stream}

-- an identifier that its format can carry, at most eight bytes, and a time between requests that is not 0
-- and below 2^32 microseconds
pub record IsStream (s : Stream) : Type 0 where
  pub ident_in_range : IsIdent s.ident
  pub bytes_in_range : s.bytes ≤ 8
  pub apart_from_one : 1 ≤ s.apart
  pub apart_in_range : s.apart < 2 ^ 32

-- at most 256 streams; that identifiers differ is not needed
pub record AreStreams (streams : List Stream) : Type 0 where
  pub streams_in_range : All IsStream streams
  pub few : length streams ≤ 256

-- a bit takes 1 to 100 microseconds
pub record IsBitTime (bit : ℕ) : Type 0 where
  pub from_one : 1 ≤ bit
  pub to_hundred : bit ≤ 100

-- how long a frame of the stream keeps the bus at most: its bits with all stuff bits that there can be, and
-- the intermission behind it
abbrev pub frame_time : ℕ → Stream → ℕ
frame_time bit s = worst_length (unstuffed_len (is_extended s.ident) s.bytes) * bit + intermission bit

-- how long a frame that has begun can keep the bus from others: the greatest time of a frame of any stream
abbrev pub blocking : ℕ → List Stream → ℕ
blocking bit [] = 0
blocking bit (s ∷ streams) = max (frame_time bit s) (blocking bit streams)

-- whether frames of the first stream win arbitration over frames of the second
abbrev pub is_stronger : Stream → Stream → Bool
is_stronger r s = wins (arbitration_bits r.ident false) (arbitration_bits s.ident false)
