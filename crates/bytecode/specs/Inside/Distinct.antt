-- The selection keys of selectors of one rank, and when they have none in common.
use Rattle.std.specs.Prelude.{◌≡◌, ℕ, ◌≤◌, ◌==◌, ◌&&◌, nat_le, if◌then◌else◌, Option, Some, None}
use Rattle.run_effects.specs.declared.event.Selector.{Selector}
use Rattle.run_effects.specs.Effect.{IsWithin}
use Rattle.bytecode.specs.declared.distinct.Span.{Span}

-- the keys of a selector that is of this rank and has any
abbrev pub span_in : ℕ → Selector → Option Span
span_in rank selector =
    if selector.rank == rank && nat_le selector.low selector.high
    then Some (record { low = selector.low; high = selector.high })
    else None

-- two spans have no key in common
abbrev pub AreSpansApart : Span → Span → Type 0
AreSpansApart a b = (key : ℕ) → a.low ≤ key → key ≤ a.high → b.low ≤ key → key ≤ b.high → ⊥

-- two selectors have no key in common, if they are of this rank
abbrev pub AreApartIn : ℕ → Selector → Selector → Type 0
AreApartIn rank a b = a.rank ≡ rank → b.rank ≡ rank → (key : ℕ) → IsWithin a key → IsWithin b key → ⊥
