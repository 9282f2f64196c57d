-- A walk over the bits of a frame.
use Rattle.std.specs.Prelude.{Bool, List, ◌++◌}
use Rattle.frame_bits.specs.declared.walk.Walk.{Walk}
use Rattle.frame_bits.specs.Inside.Crc.{IsRegister}
use Rattle.frame_bits.specs.Inside.Stuffing.{CountsStuffing}

-- the walk has gone over these bits
pub record HasWalked (walk : Walk) (bits : List Bool) : Type 0 where
  pub register : IsRegister walk.crc.register bits
  pub stuffing : CountsStuffing walk.stuffing.row walk.stuffing.count bits

-- where the old walk has gone over some bits, the new one has gone over these and the piece
abbrev pub GoesOver : Walk → Walk → List Bool → Type 0
GoesOver old new piece = (bits : List Bool) → HasWalked old bits → HasWalked new (bits ++ piece)
