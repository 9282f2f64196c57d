-- Places that are marked.
use Rattle.std.specs.Prelude.{◌≡◌, ◌⊎◌, ℕ, Bool, true, List, slice_get, Some}

-- what is marked was marked before, or is one of some
abbrev pub IsMarked : List Bool → List Bool → (ℕ → Type 0) → Type 0
IsMarked before after New =
    (place : ℕ) → slice_get after place ≡ Some true → (slice_get before place ≡ Some true) ⊎ New place
