-- Numbers as indices.
use Rattle.std.specs.Prelude.{ℕ, nat_lt, if◌then◌else◌, ℤ, pos, negsuc, Result, Ok, Err}
use Rattle.run_effects.specs.declared.outcome.Outcome.{Outcome}
use Rattle.run_effects.specs.declared.outcome.Outcome.TheVariants.{Trapped}
use Rattle.run_effects.specs.declared.outcome.TrapKind.TheVariants.{Index}

-- a number as an index below a length, or the trap that ends the run
abbrev pub index_of : ℤ → ℕ → Result ℕ Outcome
index_of (pos i) len = if nat_lt i len then Ok i else Err (Trapped Index)
index_of (negsuc i) len = Err (Trapped Index)
