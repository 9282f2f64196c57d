-- A search under way.
use Rattle.std.specs.Prelude.{◌≡◌, ◌⊎◌, ◌<◌, ℕ, Bool, true, List, length, slice_get, Some}
use Rattle.check_calls.specs.Graph.{AreApart, Has, Leads}

-- each place of a list passes a test
abbrev pub AllPass : (ℕ → Bool) → List ℕ → Type 0
AllPass test places = (k place : ℕ) → slice_get places k ≡ Some place → test place ≡ true

-- the places that those of a list lead to stand in it
abbrev pub IsClosed : List (List ℕ) → List ℕ → Type 0
IsClosed rows places =
    (from to : ℕ) → Has places from → Leads rows from to → to < length rows → Has places to

-- each place with a flag was found
abbrev pub AreFlagged : List Bool → List ℕ → Type 0
AreFlagged flags found = (place : ℕ) → slice_get flags place ≡ Some true → Has found place

-- what was found stays where it is, and what is new is one of some
pub record IsGrown (before after : List ℕ) (New : ℕ → Type 0) : Type 0 where
  pub kept : (k place : ℕ) → slice_get before k ≡ Some place → slice_get after k ≡ Some place
  pub only : (k place : ℕ) → slice_get after k ≡ Some place → Has before place ⊎ New place

-- the places that what was found up to a head leads to were found
abbrev pub IsClosedTo : List (List ℕ) → List ℕ → ℕ → Type 0
IsClosedTo rows found head = (k from to : ℕ) → k < head → slice_get found k ≡ Some from → Leads rows from to →
    to < length rows → Has found to

-- each place was found once, and has a flag
pub record AreOnce (flags : List Bool) (found : List ℕ) : Type 0 where
  pub known : (k place : ℕ) → slice_get found k ≡ Some place → slice_get flags place ≡ Some true
  pub apart : AreApart found
