-- The files of the system, which tell nothing of what they hold.
use Rattle.std.specs.Prelude.{ℕ}

-- how many reads were asked for, and how many failed
pub record FileCounts : Type 0 where
  pub reads : ℕ
  pub faults : ℕ
