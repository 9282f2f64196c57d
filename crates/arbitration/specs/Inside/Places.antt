-- Places in the list of waiting requests.
use Rattle.std.specs.Prelude.{◌≡◌, ℕ, ◌+◌, ◌<◌, nat_le, false, if◌then◌else◌, List, [], ◌∷◌, length, map, IsTrue}
use Rattle.std.specs.List.{All, HoldsAt}
use Rattle.std.specs.FinMap.{is_sorted}
use Rattle.can_bus.specs.declared.waiting.Waiting.{Waiting}
use Rattle.can_bus.specs.Waiting.{goes_before, name_cmp, entry_of}

-- the requests stand by node and then by number
abbrev pub InOrder : List Waiting → Type 0
InOrder rs = IsTrue (is_sorted name_cmp (map entry_of rs))

-- how many requests stand before the first of a greater node
abbrev pub place_behind : List Waiting → ℕ → ℕ
place_behind [] node = 0
place_behind (r ∷ rs) node = if nat_le r.node node then place_behind rs node + 1 else 0

-- the place holds a request that none goes before
pub record IsWinnerPlace (rs : List Waiting) (place : ℕ) : Type 0 where
  pub within : place < length rs
  pub first : HoldsAt (λ r. All (λ other. goes_before other r ≡ false) rs) rs place
