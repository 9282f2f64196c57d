-- The cells of a program: the first ones, those of the event that a procedure reacts to, and initial values.
use Rattle.std.specs.Prelude.{◌≡◌, ℕ, List, slice_get, Some, IsSomeAnd, ℤ}
use Rattle.int_kinds.specs.declared.kinds.Kind.{Kind}
use Rattle.int_kinds.specs.declared.kinds.Kind.TheVariants.{Char}
use Rattle.int_kinds.specs.Kind.{Holds}
use Rattle.message_cells.specs.Message.{IsMessage}

-- cells that begin with a message, that of the event, and then its key
pub record BeginWithEvent (kinds : List Kind) : Type 0 where
  pub message : IsMessage kinds 0
  pub key : slice_get kinds 14 ≡ Some Char

-- a cell with its initial value, which its kind has
abbrev pub IsHeldStart : List Kind → ℕ × ℤ → Type 0
IsHeldStart kinds start = IsSomeAnd (slice_get kinds start.0) (λ k. Holds k start.1)
