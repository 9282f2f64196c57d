-- What reading a reader to its end answers, over the bytes that it has left.
use Rattle.std.specs.Prelude.{◌≡◌, ℕ, ◌+◌, ◌<◌, ◌≤◌, List, length, Option, Result, Ok, Err, ⊤}
use Rattle.std.specs.Global.{Vec}
use Rattle.std.specs.Io.KnownBytes.{Consumes}
use Rattle.sim_outside.specs.declared.files.FileRefusal.{FileRefusal}
use Rattle.sim_outside.specs.declared.files.FileRefusal.TheVariants.{Missing, TooLong, Failed, NoMemory}

-- all bytes that were left, which are at most the limit, or that they are more
abbrev pub ReadsAll : List ℕ → ℕ → Result (Vec ℕ) FileRefusal → Type 0
ReadsAll left limit (Ok bytes) = (bytes.items ≡ left) × (length left ≤ limit)
ReadsAll left limit (Err TooLong) = limit < length left
ReadsAll left limit (Err Missing) = ⊥
ReadsAll left limit (Err Failed) = ⊤
ReadsAll left limit (Err NoMemory) = ⊤

-- a beginning of the bytes that were left is taken, at most one byte more than the limit
pub record TakesUpTo (old new : Option (List ℕ)) (limit : ℕ) : Type 0 where
  pub bytes : List ℕ
  pub taken : Consumes old new bytes
  pub within : length bytes ≤ limit + 1
